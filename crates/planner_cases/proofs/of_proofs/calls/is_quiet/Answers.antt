use Rattle.std.proofs.Common.{◌≤◌, length, arith}
use Rattle.std.proofs.lemmas.Option.{slice_get_within}
use Rattle.access_schema.specs.Meaning.{meaning_of}
use Rattle.accessible_copy.proofs.BaseStaysMet.{exposed_quiet}
use Rattle.planner_cases.proofs.of_proofs.calls.is_quiet.Goals as goal

pub returns-in-Some-clause-quiet : goal.returns-in-Some-clause-quiet
returns-in-Some-clause-quiet c =
    let long : 1 ≤ length c.args.proof.now.exposed = let within = slice_get_within c.args.proof.now.exposed 0 (record { method = c.in-Some.field-0.1; fact = c.in-Some.field-0.0.now }) c.in-Some.ensures.some in omega arith in
    exposed_quiet (meaning_of c.args.schema.now) c.args.proof.now c.requires.run long

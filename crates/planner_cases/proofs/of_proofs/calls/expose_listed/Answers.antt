use Rattle.std.proofs.Common.{◌≡◌, Some, refl, rules}
use Rattle.std.specs.Prelude.{slice_get}
use Rattle.lists.proofs.Members.{contains_got}
use Rattle.meaning.specs.declared.types.Firing.TheVariants.{Expose}
use Rattle.access_schema.specs.Meaning.{meaning_of}
use Rattle.accessible_copy.proofs.Pushing.{expose_low}
use Rattle.accessible_copy.proofs.Rounding.{listed_can}
use Rattle.planner_cases.proofs.of_proofs.calls.expose_listed.Goals as goal

pub expose-requires-clause-active : goal.expose-requires-clause-active
expose-requires-clause-active c =
    let got : slice_get c.in_ok-found.found c.args.number ≡ Some (Expose c.in-Some-Expose.method c.in-Some-Expose.fact) = search rules in
    listed_can (meaning_of c.args.schema.now) c.is_quiet.new.proof c.in_ok-found.found (Expose c.in-Some-Expose.method c.in-Some-Expose.fact) c.in-Some-Expose.method c.in-Some-Expose.fact c.in_ok-found.ensures
    (contains_got c.in_ok-found.found c.args.number (Expose c.in-Some-Expose.method c.in-Some-Expose.fact) got) refl

pub expose-requires-clause-part : goal.expose-requires-clause-part
expose-requires-clause-part c =
    let got : slice_get c.in_ok-found.found c.args.number ≡ Some (Expose c.in-Some-Expose.method c.in-Some-Expose.fact) = search rules in
    let (method, active) = listed_can (meaning_of c.args.schema.now) c.is_quiet.new.proof c.in_ok-found.found (Expose c.in-Some-Expose.method c.in-Some-Expose.fact) c.in-Some-Expose.method c.in-Some-Expose.fact c.in_ok-found.ensures
    (contains_got c.in_ok-found.found c.args.number (Expose c.in-Some-Expose.method c.in-Some-Expose.fact) got) refl in
    expose_low (meaning_of c.args.schema.now) c.is_quiet.new.proof c.is_quiet.ensures.run (c.is_quiet.ensures.ordered c.requires.ordered) c.in-Some-Expose.method c.in-Some-Expose.fact method active

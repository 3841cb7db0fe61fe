use Rattle.std.proofs.Common.{List, sym, subst}
use Rattle.std.specs.Prelude.{Contains}
use Rattle.meaning.specs.declared.types.Branch.{Branch}
use Rattle.meaning.specs.Plans.{NamesMethods}
use Rattle.access_schema.specs.Meaning.{meaning_of}
use Rattle.proof_search.specs.declared.outcome.Choice.{Choice}
use Rattle.proof_search.specs.Forms.{branches_in}
use Rattle.proof_search.proofs.planning.plan_of.Goals as goal

pub entries_of-requires-clause-named : goal.entries_of-requires-clause-named
entries_of-requires-clause-named c =
    subst (λ (list : List Choice). (branch : Branch) → Contains (branches_in list) branch → NamesMethods (meaning_of c.args.schema.now) branch.steps)
    (sym c.as_slice.ensures) c.requires.named

use Rattle.access_schema.specs.Meaning.{meaning_of}
use Rattle.plan_extract.specs.Passes.{IsBack}
use Rattle.plan_extract.proofs.wanting.wanted_facts.Given as goal

-- the pass has come back to this entry
abbrev pub invariant-loop-trigger : goal.invariant-loop-trigger
invariant-loop-trigger l = IsBack (meaning_of l.schema) l.proof l.fn.atoms.items l.left l.after l.wanted

abbrev pub decreases-loop-trigger : goal.decreases-loop-trigger
decreases-loop-trigger l = l.left

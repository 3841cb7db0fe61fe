use Rattle.std.proofs.Common.{take}
use Rattle.std.specs.List.{AllZip}
use Rattle.access_schema.specs.Meaning.{meaning_of}
use Rattle.plan_extract.specs.Lent.{exposures_of}
use Rattle.plan_extract.specs.Trimmed.{IsShown}
use Rattle.plan_extract.proofs.showing.shown.Given as goal

-- the exposures so far
abbrev pub invariant-loop-number : goal.invariant-loop-number
invariant-loop-number l = AllZip (IsShown (meaning_of l.schema)) (take l.number l.proof.exposed) (exposures_of l.shown.items)

use Rattle.plan_extract.specs.Lent.{exposures_of}
use Rattle.plan_extract.proofs.Knowing.{AreKnownUpTo}
use Rattle.plan_extract.proofs.ranking.are_known.Given as goal

-- the labels at inputs of the exposures so far have origins before
abbrev pub invariant-loop-number : goal.invariant-loop-number
invariant-loop-number l = AreKnownUpTo (exposures_of l.exposures) l.origins l.number

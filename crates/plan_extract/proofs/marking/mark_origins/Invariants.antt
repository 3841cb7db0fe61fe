use Rattle.std.proofs.Common.{◌≤◌, List, length}
use Rattle.meaning.specs.declared.types.Ground.{Ground}
use Rattle.plan_extract.specs.Lent.{exposures_of}
use Rattle.plan_extract.specs.Passes.{HoldsWanted, AreClosed}
use Rattle.plan_extract.proofs.marking.mark_origins.Given as goal

-- the inputs of the exposures from this one on are marked
abbrev pub invariant-loop-left : goal.invariant-loop-left
invariant-loop-left l = record {
  within : l.left ≤ length l.exposures;
  held : (wanted : List Ground) → HoldsWanted (exposures_of l.exposures) wanted l.fn.marks → HoldsWanted (exposures_of l.exposures) wanted l.marks;
  closed : AreClosed (exposures_of l.exposures) l.left l.marks;
}

abbrev pub decreases-loop-left : goal.decreases-loop-left
decreases-loop-left l = l.left

-- After which visits a search goes on from the set.
use Rattle.least_search.specs.declared.space.End.{End}
use Rattle.least_search.specs.declared.space.End.TheVariants.{Goal, NoGoal, FiringsSpent, UnitsSpent}

-- A search goes on from a set without a match, and from one whose run got too long.
abbrev pub GoesOn : End → Type 0
GoesOn Goal = ⊥
GoesOn NoGoal = Unit {0}
GoesOn FiringsSpent = Unit {0}
GoesOn UnitsSpent = ⊥

-- Exposures that are lent, as those of the definitions, and how many values they have.
use Rattle.std.specs.Prelude.{ℕ, ◌+◌, List, [], ◌∷◌, length, map}
use Rattle.meaning.specs.Extract.{Exposure}
use Rattle.plan_extract.specs.declared.exposures.Exposure.{Exposure as Lent}

-- The exposure that is lent.
abbrev pub exposure_of : Lent → Exposure
exposure_of lent = record { method = lent.method.now; fact = lent.fact.now }

-- The exposures that are lent, in order.
abbrev pub exposures_of : List Lent → List Exposure
exposures_of lent = map exposure_of lent

-- How many values the facts of exposures have, all together.
abbrev pub values_in : List Exposure → ℕ
values_in [] = 0
values_in (e ∷ exposures) = length e.fact.vals + values_in exposures

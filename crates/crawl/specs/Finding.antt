-- The values that come in a round.
use Rattle.std.specs.Prelude.{◌⊎◌, List, Contains}
use Rattle.meaning.specs.Values.{Value}

-- These values were found: the list has them, but for some that are known already.
pub record Finds (known : List Value) (IsFound : Value → Type 0) (old new : List Value) : Type 0 where
  pub from : (v : Value) → Contains new v → Contains old v ⊎ IsFound v
  pub into : (v : Value) → Contains old v ⊎ IsFound v → Contains new v ⊎ Contains known v

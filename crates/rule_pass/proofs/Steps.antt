-- What follows of an option.
use Rattle.std.specs.Prelude.{Option, Some, None, IfNone}

-- what follows of a fact for none
pub none_then : {X : Type 0} (found : Option X) (P Q : Type 0) → (P → Q) → IfNone found P → IfNone found Q
none_then None P Q follows p = follows p
none_then (Some x) P Q follows p = tt

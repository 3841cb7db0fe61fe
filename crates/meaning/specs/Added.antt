-- Facts that are added to facts, so that none stands twice.
use Rattle.std.specs.Prelude.{List, ◌∷◌, [], ◌++◌, Bool, false, ◌&&◌, nat_eq, if◌then◌else◌}
use Rattle.std.specs.List.{list_any, fold}
use Rattle.std.specs.Cmp.Lexicographic.{pointwise}
use Rattle.meaning.specs.declared.types.Val.{Val}
use Rattle.meaning.specs.declared.types.Ground.{Ground}
use Rattle.meaning.specs.declared.types.Val.TheVariants.{Const, Label}

-- Whether two labelled values are the same.
abbrev pub is_same_val : Val → Val → Bool
is_same_val (Const c) (Const d) = pointwise nat_eq c d
is_same_val (Const c) (Label k) = false
is_same_val (Label j) (Const d) = false
is_same_val (Label j) (Label k) = nat_eq j k

-- Whether two labelled facts are the same.
abbrev pub is_same_fact : Ground → Ground → Bool
is_same_fact f g = nat_eq f.rel g.rel && pointwise is_same_val f.vals g.vals

-- One more fact, as the last one, where it is not there yet.
abbrev pub with_fact : List Ground → Ground → List Ground
with_fact facts fact = if list_any (is_same_fact fact) facts then facts else facts ++ fact ∷ []

-- More facts, one after another.
abbrev pub with_facts : List Ground → List Ground → List Ground
with_facts facts news = fold with_fact facts news

-- Facts whose rows are lent.
use Rattle.std.specs.Prelude.{ℕ, List}
use denote.Ref.{Bor}
use Rattle.meaning.specs.declared.types.Fact.{Fact}

abbrev pub Lent : Type 0
Lent = ℕ × Bor (List (List ℕ))

-- the fact of a relation and a row that is lent
abbrev pub lent_fact : Lent → Fact
lent_fact lent = record { rel = lent.0; row = lent.1.now }

-- The values that a crawl knows, and those of them that are new.
use Rattle.std.specs.Prelude.{◌↔◌, ◌⊎◌, Bool, List, Contains, map, nat_eq}
use Rattle.std.specs.List.{list_any}
use Rattle.std.specs.Cmp.Lexicographic.{pointwise}
use Rattle.meaning.specs.Values.{Value}
use Rattle.crawl_rounds.specs.Rows.{Marked}
use Rattle.crawl.specs.declared.known.KnownValues.{KnownValues}

-- whether a value is one of the new ones
abbrev pub is_fresh : KnownValues → Value → Bool
is_fresh known value = list_any (λ fresh. pointwise nat_eq fresh value) known.fresh.items

-- the known values in their order, each with whether it is new
abbrev pub marked_of : KnownValues → List Marked
marked_of known = map (λ value. (value, is_fresh known value)) known.all.keys

-- These values were taken in: they are known, and new where they were not known before.
pub record TakesIn (IsTaken : Value → Type 0) (old new : KnownValues) : Type 0 where
  pub all : (v : Value) → Contains new.all.keys v ↔ (Contains old.all.keys v ⊎ IsTaken v)
  pub fresh : (v : Value) → Contains new.fresh.items v
      ↔ (Contains old.fresh.items v ⊎ (IsTaken v × (Contains old.all.keys v → ⊥)))

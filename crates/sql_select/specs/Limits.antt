-- The limits of selects, in the order in which they are looked at.
use Rattle.std.specs.Prelude.{◌<◌, ◌≤◌, ℕ, List, [], ◌∷◌, Bool, true, false, Contains, length, nat_lt, if◌then◌else◌}
use Rattle.access_schema.specs.declared.fault.Limit.{Limit}
use Rattle.access_schema.specs.declared.fault.Limit.TheVariants as limit
use Rattle.sql_select.specs.declared.limits.TheConstants.{MOST_FROMS, MOST_CONDITIONS, MOST_ITEMS, MOST_SELECTS}
use Rattle.sql_select.specs.declared.limits.Member.{Member}
use Rattle.sql_select.specs.declared.limits.Member.TheVariants as member
use Rattle.sql_select.specs.declared.piece.RawSelect.{RawSelect}

-- The select keeps each limit.
pub record IsWithinLimits (raw : RawSelect) : Type 0 where
  pub froms : length raw.froms ≤ MOST_FROMS
  pub conditions : length raw.conditions ≤ MOST_CONDITIONS
  pub items : length raw.items ≤ MOST_ITEMS

-- Each of the selects keeps each limit, and they are not too many.
pub record AreWithinLimits (raws : List RawSelect) : Type 0 where
  pub each : (raw : RawSelect) → Contains raws raw → IsWithinLimits raw
  pub few : length raws ≤ MOST_SELECTS

-- This is the first limit that one of the selects passes, or that they pass together.
abbrev pub IsOver : List RawSelect → Limit → Type 0
IsOver raws limit.Froms = (raw : RawSelect) × Contains raws raw × (MOST_FROMS < length raw.froms)
IsOver raws limit.Conditions =
    ((raw : RawSelect) → Contains raws raw → length raw.froms ≤ MOST_FROMS)
    × ((raw : RawSelect) × Contains raws raw × (MOST_CONDITIONS < length raw.conditions))
IsOver raws limit.Items =
    ((raw : RawSelect) → Contains raws raw → (length raw.froms ≤ MOST_FROMS) × (length raw.conditions ≤ MOST_CONDITIONS))
    × ((raw : RawSelect) × Contains raws raw × (MOST_ITEMS < length raw.items))
IsOver raws limit.Selects = ((raw : RawSelect) → Contains raws raw → IsWithinLimits raw) × (MOST_SELECTS < length raws)
IsOver raws _ = ⊥

-- ---- the same, one select after another

abbrev pub count_of : Member → RawSelect → ℕ
count_of member.From raw = length raw.froms
count_of member.Condition raw = length raw.conditions
count_of member.Item raw = length raw.items

-- whether one of the selects has more of these members than so many
abbrev pub has_more : Member → ℕ → List RawSelect → Bool
has_more kind most [] = false
has_more kind most (raw ∷ raws) = if nat_lt most (count_of kind raw) then true else has_more kind most raws

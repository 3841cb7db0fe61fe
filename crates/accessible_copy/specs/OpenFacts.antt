-- Base facts that can be exposed, and what is kept to find them from exposure to exposure.
use Rattle.std.specs.Prelude.{◌≡◌, ◌≤◌, ℕ, List, [], Contains, length, take, drop, slice_get, Some, unwrap_or}
use Rattle.std.specs.declared.cmp.Ordering.{Ordering}
use Rattle.std.specs.BTreeMap.{get}
use Rattle.meaning.specs.declared.types.Val.{Val}
use Rattle.meaning.specs.declared.types.Ground.{Ground}
use Rattle.meaning.specs.contracts.types.ValOrd.TheImpl as val_ord
use Rattle.meaning.specs.Values.{Value}
use Rattle.accessible_copy.specs.declared.entry.Exposed.{Exposed}
use Rattle.accessible_copy.specs.declared.ways.Way.{Way}
use Rattle.accessible_copy.specs.declared.holders.Holders.{Holders}
use Rattle.accessible_copy.specs.declared.open_facts.Reached.{Reached}
use Rattle.accessible_copy.specs.declared.open_facts.OpenFacts.{OpenFacts}
use Rattle.accessible_copy.specs.Known.{known_values, facts_of}
use Rattle.accessible_copy.specs.Listing.{AreInputs}
use Rattle.accessible_copy.specs.Ways.{IsWayIndex}

-- values by constant or label, and then by bytes or number
abbrev pub val_cmp : Val → Val → Ordering
val_cmp = (val_ord.ghosts).cmp

-- The numbers of the facts that hold a value.
abbrev pub held_by : Holders → Val → List ℕ
held_by holders value = unwrap_or (get val_cmp holders.numbers value) []

-- Each fact is listed at each of its values.
abbrev pub AreHolders : List Ground → Holders → Type 0
AreHolders facts holders = (n : ℕ) (fact : Ground) (value : Val) → slice_get facts n ≡ Some fact →
    Contains fact.vals value → Contains (held_by holders value) n

-- Some way of the fact's relation has values at its inputs that are among these.
abbrev pub CanAsk : List Way → List Val → Ground → Type 0
CanAsk ways values fact = (number : ℕ) × (way : Way) × (slice_get ways number ≡ Some way) × (way.rel ≡ fact.rel)
    × AreInputs values way.inputs fact.vals

-- The fact with that number is not exposed and can be asked for.
abbrev pub IsOpen : List Way → List Ground → List Val → List Ground → ℕ → Type 0
IsOpen ways facts values exposed n =
    (fact : Ground) × (slice_get facts n ≡ Some fact) × (Contains exposed fact → ⊥) × CanAsk ways values fact

-- All that are open where these facts are exposed are listed.
abbrev pub HasOpen : List Way → List Ground → List Value → List Exposed → List ℕ → Type 0
HasOpen ways facts constants exposed listed =
    (n : ℕ) → IsOpen ways facts (known_values constants (facts_of exposed)) (facts_of exposed) n → Contains listed n

-- What is kept after these exposures: behind those that were passed the list has all open facts, now and at the list's
-- length before each exposure.
pub record AreOpenFacts (facts : List Ground) (constants : List Value) (exposed : List Exposed) (kept : OpenFacts) : Type 0 where
  pub index : IsWayIndex kept.ways.items kept.index
  pub holders : AreHolders facts kept.holders
  pub now : HasOpen kept.ways.items facts constants exposed (drop kept.passed kept.listed.items)
  pub low : kept.passed ≤ length kept.listed.items
  pub count : length kept.before.items ≡ length exposed
  pub cut : (e : ℕ) (at : Reached) → slice_get kept.before.items e ≡ Some at →
      HasOpen kept.ways.items facts constants (take e exposed) (drop at.passed (take at.listed kept.listed.items))
  pub under : (e : ℕ) (at : Reached) → slice_get kept.before.items e ≡ Some at → at.listed ≤ length kept.listed.items
  pub passed : (e : ℕ) (at : Reached) → slice_get kept.before.items e ≡ Some at → at.passed ≤ at.listed
  pub nested : (d e : ℕ) (first second : Reached) → slice_get kept.before.items d ≡ Some first →
      slice_get kept.before.items e ≡ Some second → d ≤ e → first.listed ≤ second.listed

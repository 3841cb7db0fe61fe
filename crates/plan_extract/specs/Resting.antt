-- What a match rests on in a proof: copy facts, and exposures.
use Rattle.std.specs.Prelude.{◌≡◌, ℕ, ◌<◌, List, Contains, drop, map, slice_get, Some}
use Rattle.meaning.specs.declared.types.SchemaParts.{SchemaParts}
use Rattle.meaning.specs.declared.types.Rule.{Rule}
use Rattle.meaning.specs.declared.types.Ground.{Ground}
use Rattle.meaning.specs.declared.types.Trigger.{Trigger}
use Rattle.meaning.specs.declared.types.Firing.TheVariants.{Copy}
use Rattle.meaning.specs.declared.types.Val.TheVariants.{Label}
use Rattle.meaning.specs.Triggers.{assigned, ground}
use Rattle.meaning.specs.Extract.{Exposure}
use Rattle.accessible_copy.specs.declared.entry.Sizes.{Sizes}
use Rattle.accessible_copy.specs.Proving.{Proving}

-- A copy firing of the log makes a fact: the fact is one of its head, and stands behind the copy facts that were there before it.
pub record Makes (schema : SchemaParts) (proof : Proving) (trigger : Trigger) (rule : Rule) (fact : Ground) : Type 0 where
  pub before : Sizes
  pub logged : Contains proof.entries (record { firing = Copy trigger; before = before })
  pub numbered : slice_get schema.rules trigger.rule ≡ Some rule
  pub of_head : Contains (map (ground (assigned trigger)) rule.head) fact
  pub new : Contains (drop before.copy proof.end.copy) fact

-- A match rests on the facts of its atoms; and where it rests on a fact that a copy firing makes, on the facts of that firing's body.
pub data RestsOnFact (schema : SchemaParts) (proof : Proving) (atoms : List Ground) : Ground → Type 0 where
  atom : (fact : Ground) → Contains atoms fact → RestsOnFact schema proof atoms fact
  body : (trigger : Trigger) (rule : Rule) (made fact : Ground) → RestsOnFact schema proof atoms made → Makes schema proof trigger rule made →
      Contains (map (ground (assigned trigger)) rule.body) fact → RestsOnFact schema proof atoms fact

-- The exposure with that number is the first whose fact has the label.
pub record IsFirstWith (exposures : List Exposure) (label number : ℕ) (e : Exposure) : Type 0 where
  pub at : slice_get exposures number ≡ Some e
  pub has : Contains e.fact.vals (Label label)
  pub first : (k : ℕ) (other : Exposure) → k < number → slice_get exposures k ≡ Some other → Contains other.fact.vals (Label label) → ⊥

-- A match rests on the exposures of the facts that it rests on; and where it rests on an exposure, for each label at an input of the
-- method on the first exposure that makes the label known.
pub data RestsOn (Wants : Ground → Type 0) (exposures : List Exposure) : Exposure → Type 0 where
  exposed : (e : Exposure) → Contains exposures e → Wants e.fact → RestsOn Wants exposures e
  input : (later e : Exposure) (place label number : ℕ) → RestsOn Wants exposures later → Contains later.method.inputs place →
      slice_get later.fact.vals place ≡ Some (Label label) → IsFirstWith exposures label number e → RestsOn Wants exposures e

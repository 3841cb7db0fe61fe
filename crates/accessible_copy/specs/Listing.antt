-- The exposures that are active in a proof.
use Rattle.std.specs.Prelude.{◌≡◌, ℕ, List, ◌++◌, Contains, slice_get, Some}
use Rattle.meaning.specs.declared.types.SchemaParts.{SchemaParts}
use Rattle.meaning.specs.declared.types.Method.{Method}
use Rattle.meaning.specs.declared.types.Ground.{Ground}
use Rattle.meaning.specs.declared.types.Val.{Val}
use Rattle.meaning.specs.declared.types.Firing.{Firing}
use Rattle.meaning.specs.declared.types.Firing.TheVariants.{Expose}
use Rattle.meaning.specs.Search.{AreDistinct}
use Rattle.meaning.specs.Runs.{IsActiveExposure}
use Rattle.accessible_copy.specs.Proving.{Proving}

-- Some method of that number makes the exposure of the fact active.
abbrev pub CanFire : SchemaParts → Proving → ℕ → Ground → Type 0
CanFire schema proof number fact = (method : Method) × IsActiveExposure schema proof.constants proof.end number fact method

-- The firings are exactly the exposures of these facts that are active, each fact with each method, each once.
pub record AreExposures (schema : SchemaParts) (proof : Proving) (facts : List Ground) (found : List Firing) : Type 0 where
  pub each : (firing : Firing) → Contains found firing →
      (number : ℕ) × (fact : Ground) × (firing ≡ Expose number fact) × Contains facts fact × CanFire schema proof number fact
  pub all : (number : ℕ) (fact : Ground) → Contains facts fact → CanFire schema proof number fact →
      Contains found (Expose number fact)
  pub once : AreDistinct found

-- The firings are exactly the active exposures of the fact by methods with these numbers, each once.
pub record AreExposuresOf (schema : SchemaParts) (proof : Proving) (fact : Ground) (numbers : List ℕ) (found : List Firing) : Type 0 where
  pub each : (firing : Firing) → Contains found firing →
      (number : ℕ) × (firing ≡ Expose number fact) × Contains numbers number × CanFire schema proof number fact
  pub all : (number : ℕ) → Contains numbers number → CanFire schema proof number fact → Contains found (Expose number fact)
  pub once : AreDistinct found

-- The list goes on by exactly the active exposures of the fact by methods with these numbers, each once.
pub record AddsExposures (schema : SchemaParts) (proof : Proving) (fact : Ground) (numbers : List ℕ) (before after : List Firing) : Type 0 where
  pub more : List Firing
  pub after_is : after ≡ before ++ more
  pub are : AreExposuresOf schema proof fact numbers more

-- The place has a value, which is one of these.
abbrev pub IsInput : List Val → List Val → ℕ → Type 0
IsInput values vals place = (value : Val) × (slice_get vals place ≡ Some value) × Contains values value

-- Each input place has a value, which is one of these.
abbrev pub AreInputs : List Val → List ℕ → List Val → Type 0
AreInputs values inputs vals = (place : ℕ) → Contains inputs place → IsInput values vals place

-- Rounds: one part of a proof's firings, and whether a run goes on.
use Rattle.std.specs.Prelude.{◌≡◌, ◌⊎◌, ℕ, List, [], ◌∷◌, ◌++◌, map, Contains, true, false}
use Rattle.meaning.specs.declared.types.SchemaParts.{SchemaParts}
use Rattle.meaning.specs.declared.types.Ground.{Ground}
use Rattle.meaning.specs.declared.types.Firing.{Firing}
use Rattle.meaning.specs.declared.types.Firing.TheVariants.{Expose}
use Rattle.meaning.specs.Runs.{Proof, base_state, copy_state, part_of, IsOrderedRun, IsBaseQuiet, IsCopyQuiet, NoExposure}
use Rattle.rule_pass.specs.States.{SomeActive}
use Rattle.accessible_copy.specs.declared.entry.Exposed.{Exposed}
use Rattle.accessible_copy.specs.Proving.{Proving, log_of}
use Rattle.accessible_copy.specs.Settling.{Settles}
use Rattle.accessible_copy.specs.Exposing.{with_exposure}
use Rattle.accessible_copy.specs.Listing.{CanFire}

-- Nothing is active.
pub record IsAllQuiet (schema : SchemaParts) (proof : Proving) : Type 0 where
  pub base : IsBaseQuiet schema proof.end
  pub exposures : NoExposure schema proof.constants proof.end
  pub copy : IsCopyQuiet schema proof.end

-- A further firing is active: the ordered run goes on by it.
abbrev pub GoesOn : SchemaParts → Proving → Type 0
GoesOn schema proof =
    (firing : Firing) × (next : Proof)
    × IsOrderedRun schema proof.constants 0 proof.start (log_of proof ++ firing ∷ []) next

-- The log goes on by firings of one part alone.
pub record IsOneRound (old new : Proving) : Type 0 where
  pub part : ℕ
  pub more : List Firing
  pub log : log_of new ≡ log_of old ++ more
  pub of_part : (firing : Firing) → Contains more firing → part_of firing ≡ part
  pub constants : new.constants ≡ old.constants
  pub start : new.start ≡ old.start

-- The exposure of an exposed fact.
abbrev pub exposure_of : Exposed → Firing
exposure_of one = Expose one.method one.fact

-- The log goes on by exposures alone, each of which was active before.
pub record MadeExposures (schema : SchemaParts) (old new : Proving) : Type 0 where
  pub more : List Exposed
  pub log : log_of new ≡ log_of old ++ map exposure_of more
  pub exposed : new.exposed ≡ old.exposed ++ more
  pub active : (one : Exposed) → Contains more one → CanFire schema old one.method one.fact
  pub base : new.end.base ≡ old.end.base
  pub next : new.end.next ≡ old.end.next
  pub constants : new.constants ≡ old.constants
  pub start : new.start ≡ old.start

-- Some exposure is active.
abbrev pub SomeExposure : SchemaParts → Proving → Type 0
SomeExposure schema proof = (number : ℕ) × (fact : Ground) × CanFire schema proof number fact

-- Nothing changes, or the firing is an exposure and is made.
abbrev pub MayExpose : Firing → Proving → Proving → Type 0
MayExpose firing old new =
    (new ≡ old) ⊎ ((number : ℕ) × (fact : Ground) × (firing ≡ Expose number fact) × (new ≡ with_exposure old number fact))

-- A round makes base firings where a base trigger is active; else exposures where one is active; else copy firings where
-- a copy trigger is active; and else nothing.
abbrev pub IsRound : SchemaParts → Proving → Proving → Type 0
IsRound schema old new =
    (SomeActive schema.rules (base_state old.end) × Settles schema false old new)
    ⊎ ((IsBaseQuiet schema old.end × SomeExposure schema old × MadeExposures schema old new)
    ⊎ ((IsBaseQuiet schema old.end × NoExposure schema old.constants old.end
    × SomeActive schema.rules (copy_state old.end) × Settles schema true old new)
    ⊎ (IsAllQuiet schema old × (new ≡ old))))

-- Nothing that was active in the part of the round is active any more.
pub record IsDone (schema : SchemaParts) (old new : Proving) : Type 0 where
  pub base : SomeActive schema.rules (base_state old.end) → IsBaseQuiet schema new.end
  pub exposures : IsBaseQuiet schema old.end →
      (number : ℕ) (fact : Ground) → CanFire schema old number fact → CanFire schema new number fact → ⊥
  pub copy : IsBaseQuiet schema old.end → NoExposure schema old.constants old.end → IsCopyQuiet schema new.end

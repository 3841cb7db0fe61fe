-- Lanes as the rounds of plans begin: started where there is a round, and as they were where there is none.
use Rattle.std.proofs.Common.{◌≡◌, ◌⊎◌, inl, inr, ⊎_elim, ℕ, ◌<◌, List, [], length, map, sym, ◌∙◌, ap, subst, arith}
use Rattle.std.proofs.lemmas.Bool.{cases_lt}
use Rattle.std.proofs.lemmas.List.{length-map}
use Rattle.lists.proofs.Members.{contains_map}
use Rattle.meaning.specs.declared.types.Request.{Request}
use Rattle.access_schema.specs.declared.schema.Schema.{Schema}
use Rattle.source_trait.specs.Asking.{Seen}
use Rattle.source_trait.specs.declared.lanes.Kind.{Kind}
use Rattle.source_trait.specs.declared.lanes.Lane.{Lane}
use Rattle.middleware.specs.LaneBranches.{OnEach}
use Rattle.middleware.specs.LaneRounds.{started, AsksEach, NoneStopped}
use Rattle.middleware.proofs.LaneShares.{AsksEach-trans}
use Rattle.middleware.proofs.LaneStays.{all_going, started_each, unstarted}

module _ {S : Type 0} (old begun : List (Lane S)) (rounds : ℕ) (some : 0 < rounds → begun ≡ map started old)
    (none : rounds ≡ 0 → begun ≡ old) where
  begun_is : (begun ≡ map started old) ⊎ (begun ≡ old)
  begun_is = ⊎_elim (λ l. inl (some l)) (λ l. inr (none (omega (arith, l)))) (cases_lt 0 rounds)

  pub begun_each : (P : List (Kind S) → Type 0) → OnEach old P → OnEach begun P
  begun_each P all = ⊎_elim
      (λ e. subst (λ (l : List (Lane S)). OnEach l P) (sym e) (started_each old P all))
      (λ e. subst (λ (l : List (Lane S)). OnEach l P) (sym e) all)
      begun_is

  -- what holds of started lanes held before
  pub begun_started : (P : List (Kind S) → Type 0) → OnEach (map started old) P → OnEach begun P
  begun_started P all = ⊎_elim
      (λ e. subst (λ (l : List (Lane S)). OnEach l P) (sym e) all)
      (λ e. subst (λ (l : List (Lane S)). OnEach l P) (sym e)
      (λ lane among. all (started lane) (contains_map started old lane among)))
      begun_is

  pub begun_long : length begun ≡ length old
  begun_long = ⊎_elim (λ e. ap length e ∙ length-map old started) (λ e. ap length e) begun_is

  pub begun_going : 0 < rounds → NoneStopped begun
  begun_going l = subst (λ (b : List (Lane S)). NoneStopped b) (sym (some l)) (all_going old)

  -- what was asked of the lanes was asked of started ones
  pub from_started : (seen : S → Seen) (schema : Schema) (list : List Request) (new : List (Lane S))
      → AsksEach seen schema list begun new
      → AsksEach seen schema list (map started old) new
  from_started seen schema list new asks = ⊎_elim
      (λ e. subst (λ (l : List (Lane S)). AsksEach seen schema list l new) e asks)
      (λ e. AsksEach-trans seen schema [] list (map started old) old new (unstarted seen schema old)
      (subst (λ (l : List (Lane S)). AsksEach seen schema list l new) e asks))
      begun_is

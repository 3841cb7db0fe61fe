-- The cheapest method that exposes a fact, and one move for each fact.
use Rattle.std.proofs.Common.{◌≡◌, ℕ, ◌+◌, ◌<◌, ◌≤◌, List, [], ◌∷◌, ◌++◌, Some, None, Option, refl, sym, ap, ◌∙◌, subst, ⊎_elim, arith}
use Rattle.std.specs.Prelude.{Contains, slice_get, IfSome}
use Rattle.std.proofs.lemmas.Bool.{cases_lt, cases_eq}
use Rattle.std.proofs.lemmas.List.Elements.{Contains-append_left, Contains-push, Contains-push_cases}
use Rattle.lists.proofs.Members.{contains_got, some_injective}
use Rattle.meaning.specs.declared.types.SchemaParts.{SchemaParts}
use Rattle.meaning.specs.declared.types.Method.{Method}
use Rattle.meaning.specs.declared.types.Ground.{Ground}
use Rattle.meaning.specs.declared.types.Val.{Val}
use Rattle.meaning.specs.Runs.{IsActiveExposure}
use Rattle.accessible_copy.specs.Known.{known_values}
use Rattle.accessible_copy.specs.Listing.{AreInputs}
use Rattle.accessible_copy.specs.Methods.{IsMethodIndex, methods_of}
use Rattle.accessible_copy.specs.Proving.{Proving}
use Rattle.accessible_copy.proofs.Listed.{inputs_to, inputs_from}
use Rattle.least_search.specs.declared.space.Move.{Move}
use Rattle.exposure_search.specs.declared.marks.Marks.{Marks}
use Rattle.exposure_search.specs.Tries.{IsMarked, Adds}
use Rattle.exposure_search.specs.Making.{IsActiveMove, IsServed}

-- the move is by a method that can expose the fact, at a cost that is the limit
pub record IsOffer (methods : List Method) (values : List Val) (fact : Ground) (place limit : ℕ) (move : Move) : Type 0 where
  pub of : Method
  pub fact_is : move.fact ≡ place
  pub named : slice_get methods move.method ≡ Some of
  pub rel : of.rel ≡ fact.rel
  pub cost : move.cost ≡ of.cost
  pub inputs : AreInputs values of.inputs fact.vals
  pub limit_is : move.cost ≡ limit

-- the best of these methods that cost less than a bound
pub record AreOffered (methods : List Method) (values : List Val) (fact : Ground) (place below : ℕ) (numbers : List ℕ) (best : Option Move) (limit : ℕ) : Type 0 where
  pub most : limit ≤ below
  pub some : (move : Move) → best ≡ Some move → IsOffer methods values fact place limit move
  pub none : best ≡ None → limit ≡ below
  pub least : (number : ℕ) (method : Method) → Contains numbers number → slice_get methods number ≡ Some method → AreInputs values method.inputs fact.vals → method.cost < below → limit ≤ method.cost

module _ (methods : List Method) (values : List Val) (fact : Ground) (place below : ℕ) where
  module _ (numbers : List ℕ) (best : Option Move) (limit : ℕ) (are : AreOffered methods values fact place below numbers best limit) (number : ℕ) where
    pub offered_more : (method : Method) → slice_get methods number ≡ Some method → method.rel ≡ fact.rel → method.cost < limit → AreInputs values method.inputs fact.vals →
        AreOffered methods values fact place below (numbers ++ number ∷ []) (Some (record { fact = place; method = number; cost = method.cost })) method.cost
    offered_more method named rel low inputs =
        let most : limit ≤ below = are.most in
        record {
          most = omega arith;
          some = λ move e. subst (λ m. IsOffer methods values fact place method.cost m) (some_injective (record { fact = place; method = number; cost = method.cost }) move e)
              (record { of = method; fact_is = refl; named = named; rel = rel; cost = refl; inputs = inputs; limit_is = refl });
          none = λ e. absurd (cc);
          least = λ other of c its known less. ⊎_elim (λ old. (let l : limit ≤ of.cost = are.least other of old its known less in omega arith))
              (λ same. let both : method ≡ of = some_injective method of (sym named ∙ ap (slice_get methods) same ∙ its) in subst (λ (m : Method). method.cost ≤ m.cost) both (omega arith)) (Contains-push_cases numbers number other c);
        }

    pub offered_less : ((method : Method) → slice_get methods number ≡ Some method → method.cost < limit → AreInputs values method.inputs fact.vals → ⊥) →
        AreOffered methods values fact place below (numbers ++ number ∷ []) best limit
    offered_less none = record {
      most = are.most;
      some = are.some;
      none = are.none;
      least = λ other of c its known less. ⊎_elim (λ old. are.least other of old its known less)
          (λ same. ⊎_elim (λ low. absurd (none of (ap (slice_get methods) same ∙ its) low known)) (λ high. high) (cases_lt of.cost limit)) (Contains-push_cases numbers number other c);
    }

module _ (schema : SchemaParts) (proof : Proving) (fact : Ground) (place below : ℕ) (at : slice_get proof.end.base place ≡ Some fact) (numbers : List ℕ) (best : Option Move) (limit : ℕ)
    (are : AreOffered schema.methods (known_values proof.constants proof.end.exposed) fact place below numbers best limit) where
  -- the best one stands for an active exposure, if the fact is not exposed
  pub best_active : (Contains proof.end.exposed fact → ⊥) → (move : Move) → best ≡ Some move → (move.fact ≡ place) × IsActiveMove schema proof move
  best_active new move e =
      let is = are.some move e in (
        is.fact_is,
        record {
          fact = fact;
          of = is.of;
          at = ap (slice_get proof.end.base) is.fact_is ∙ at;
          active = record {
            of_base = contains_got proof.end.base place fact at;
            new = new;
            named = is.named;
            of_relation = is.rel;
            inputs = inputs_to proof.constants proof.end.exposed is.of.inputs fact.vals is.inputs;
          };
          cost = is.cost;
        },
      )

  -- an active exposure by one of the methods costs no less
  pub best_least : (number : ℕ) (method : Method) → Contains numbers number → IsActiveExposure schema proof.constants proof.end number fact method → method.cost < below → (move : Move) × (best ≡ Some move) × (move.cost ≤ method.cost)
  best_least number method among active low =
      let cheap : limit ≤ method.cost = are.least number method among active.named (inputs_from proof.constants proof.end.exposed method.inputs fact.vals active.inputs) low in
      by best are.none are.some cheap low
    where
      by : (o : Option Move) → (o ≡ None → limit ≡ below) → ((move : Move) → o ≡ Some move → IsOffer schema.methods (known_values proof.constants proof.end.exposed) fact place limit move) → limit ≤ method.cost → method.cost < below → (move : Move) × (o ≡ Some move) × (move.cost ≤ method.cost)
      by None none some cheap less = absurd (let e : limit ≡ below = none refl in omega arith)
      by (Some move) none some cheap less = let e : move.cost ≡ limit = (some move refl).limit_is in (move, refl, omega arith)

-- the moves so far are active and of relevant facts, and serve those of the facts so far that gain something
pub record AreServed (schema : SchemaParts) (proof : Proving) (marks : Marks) (below : ℕ) (moves : List Move) (count : ℕ) : Type 0 where
  pub active : (move : Move) → Contains moves move → IsActiveMove schema proof move × IsMarked marks.relevant.items move.fact
  pub served : (move : Move) → IsActiveMove schema proof move → IsMarked marks.relevant.items move.fact → Adds (known_values proof.constants proof.end.exposed) proof.end.base marks.needed.items move.fact → move.cost < below → move.fact < count → IsServed moves move

module _ (schema : SchemaParts) (proof : Proving) (marks : Marks) (below : ℕ) where
  module _ (moves : List Move) (count : ℕ) (are : AreServed schema proof marks below moves count) (index : List (List ℕ)) (indexed : IsMethodIndex schema.methods index) (fact : Ground) (at : slice_get proof.end.base count ≡ Some fact) where
    -- an active move of this fact is by one of its relation's methods
    of_fact : (move : Move) (active : IsActiveMove schema proof move) → move.fact ≡ count → (active.fact ≡ fact) × Contains (methods_of index fact.rel) move.method
    of_fact move active same =
        let facts : active.fact ≡ fact = some_injective active.fact fact (sym active.at ∙ ap (slice_get proof.end.base) same ∙ at) in
        (facts, subst (λ (r : ℕ). Contains (methods_of index r) move.method) (active.active.of_relation ∙ ap (λ (f : Ground). f.rel) facts) (indexed.all move.method active.of active.active.named))

    pub served_more : (step : Move) → (step.fact ≡ count) × IsActiveMove schema proof step × IsMarked marks.relevant.items count →
        (Adds (known_values proof.constants proof.end.exposed) proof.end.base marks.needed.items count → (number : ℕ) (method : Method) → Contains (methods_of index fact.rel) number → IsActiveExposure schema proof.constants proof.end number fact method → method.cost < below → step.cost ≤ method.cost) →
        AreServed schema proof marks below (moves ++ step ∷ []) (count + 1)
    served_more step (here, active, on) least = record {
      active = λ move c. ⊎_elim (λ old. are.active move old) (λ e. subst (λ (m : Move). IsActiveMove schema proof m × IsMarked marks.relevant.items m.fact) e (active, subst (λ n. IsMarked marks.relevant.items n) (sym here) on)) (Contains-push_cases moves step move c);
      served = λ move its marked gains low less. ⊎_elim
          (λ same. let (facts, among) = of_fact move its same in
          let cost : move.cost ≡ its.of.cost = its.cost in
          let cheap : step.cost ≤ its.of.cost = least (subst (Adds (known_values proof.constants proof.end.exposed) proof.end.base marks.needed.items) same gains) move.method its.of among (subst (λ f. IsActiveExposure schema proof.constants proof.end move.method f its.of) facts its.active) (omega arith) in
          (step, Contains-push moves step, here ∙ sym same, omega arith))
          (λ other. let (better, c, same, cheap) = are.served move its marked gains low (omega arith) in (better, Contains-append_left moves (step ∷ []) better c, same, cheap)) (cases_eq move.fact count);
    }

    pub served_less : (IsMarked marks.relevant.items count → Adds (known_values proof.constants proof.end.exposed) proof.end.base marks.needed.items count → (number : ℕ) (method : Method) → Contains (methods_of index fact.rel) number → IsActiveExposure schema proof.constants proof.end number fact method → method.cost < below → ⊥) →
        AreServed schema proof marks below moves (count + 1)
    served_less none = record {
      active = are.active;
      served = λ move its marked gains low less. ⊎_elim
          (λ same. let (facts, among) = of_fact move its same in
          let cost : move.cost ≡ its.of.cost = its.cost in
          absurd (none (subst (λ n. IsMarked marks.relevant.items n) same marked) (subst (Adds (known_values proof.constants proof.end.exposed) proof.end.base marks.needed.items) same gains) move.method its.of among (subst (λ f. IsActiveExposure schema proof.constants proof.end move.method f its.of) facts its.active) (omega arith)))
          (λ other. are.served move its marked gains low (omega arith)) (cases_eq move.fact count);
    }

pub when_some : {X : Type 0} (o : Option X) (P : X → Type 0) → ((x : X) → o ≡ Some x → P x) → IfSome o P
when_some None P each = tt
when_some (Some x) P each = each x refl

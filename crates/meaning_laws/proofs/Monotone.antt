-- The rows of a lawful plan depend on the accessible part alone, and grow with it.
use Rattle.std.proofs.Common.{◌≡◌, ◌⊎◌, ℕ, zero, suc, ◌+◌, ◌<◌, ◌≤◌, List, [], ◌∷◌, ◌++◌, length, Some, refl, sym, ap, ◌∙◌, subst, inl, inr, ⊎_elim, arith}
use Rattle.std.specs.Prelude.{Contains, slice_get}
use Rattle.std.proofs.lemmas.List.{length_push}
use Rattle.std.proofs.lemmas.List.Elements.{Contains-push_cases}
use Rattle.lists.proofs.Members.{contains_here, contains_there, contains_got, got_before}
use Rattle.meaning.specs.declared.types.Fact.{Fact}
use Rattle.meaning.specs.declared.types.Method.{Method}
use Rattle.meaning.specs.declared.types.SchemaParts.{SchemaParts}
use Rattle.meaning.specs.declared.types.Place.{Place}
use Rattle.meaning.specs.declared.types.Place.TheVariants.{Const, Col, New}
use Rattle.meaning.specs.declared.types.Out.{Out}
use Rattle.meaning.specs.declared.types.Step.{Step}
use Rattle.meaning.specs.declared.types.Plan.{Plan}
use Rattle.meaning.specs.Access.{IsKnown, CanAccess, IsAccessPath, IsAccessible}
use Rattle.meaning.specs.Plans.{made, AreLawfulPlaces, IsLawfulStep, AreLawfulFrom, IsLawful, IsWellFormed}
use Rattle.meaning.specs.Rows.{Joins, LeadsTo, IsRow}
use Rattle.meaning.specs.Claims.{IsEquivalent, Refutes}
use Rattle.meaning.specs.declared.types.Statement.{Statement}

-- each value of the grown row is one of the row or of the fact
pub joins_values : (places : List Place) (values row next : List (List ℕ)) → Joins places values row next → (v : List ℕ) → Contains next v → Contains row v ⊎ Contains values v
joins_values [] [] row next e v c = inl (subst (λ r. Contains r v) e c)
joins_values [] (value ∷ values) row next j v c = absurd j
joins_values (place ∷ places) [] row next j v c = absurd j
joins_values (Const t ∷ places) (value ∷ values) row next j v c = ⊎_elim inl (λ h. inr (contains_there value values v h)) (joins_values places values row next j.1 v c)
joins_values (Col k ∷ places) (value ∷ values) row next j v c = ⊎_elim inl (λ h. inr (contains_there value values v h)) (joins_values places values row next j.1 v c)
joins_values (New ∷ places) (value ∷ values) row next j v c =
    ⊎_elim (λ h. ⊎_elim inl (λ e. inr (subst (λ w. Contains (value ∷ values) w) e (contains_here value values))) (Contains-push_cases row value v h)) (λ h. inr (contains_there value values v h)) (joins_values places values (row ++ value ∷ []) next j v c)

pub joins_length : (places : List Place) (values row next : List (List ℕ)) → Joins places values row next → length next ≡ made (length row) places
joins_length [] [] row next e = ap length e
joins_length [] (value ∷ values) row next j = absurd j
joins_length (place ∷ places) [] row next j = absurd j
joins_length (Const t ∷ places) (value ∷ values) row next j = joins_length places values row next j.1
joins_length (Col k ∷ places) (value ∷ values) row next j = joins_length places values row next j.1
joins_length (New ∷ places) (value ∷ values) row next j = rw (← length_push row value) (joins_length places values (row ++ value ∷ []) next j)

-- the value at an input place is a constant or stood in the row before the step
module _ (constants : List (List ℕ)) (inputs : List ℕ) (began : ℕ) (Old : List ℕ → Type 0) where
  pub joins_inputs : (places : List Place) (values row next : List (List ℕ)) (p columns q : ℕ) → Joins places values row next → AreLawfulPlaces constants inputs began p columns places → ((k : ℕ) (v : List ℕ) → k < began → slice_get row k ≡ Some v → Old v) → began ≤ length row → Contains inputs (p + q) → q < length places → (v : List ℕ) × (slice_get values q ≡ Some v) × (Contains constants v ⊎ Old v)
  joins_inputs [] values row next p columns q j l old b i h = absurd (omega arith)
  joins_inputs (place ∷ places) [] row next p columns q j l old b i h = absurd j
  joins_inputs (Const t ∷ places) (value ∷ values) row next p columns zero j l old b i h = (value, refl, inl (subst (λ w. Contains constants w) (sym j.0) l.0))
  joins_inputs (Const t ∷ places) (value ∷ values) row next p columns (suc q) j l old b i h =
      let here : p + suc q ≡ (p + 1) + q = omega arith in
      joins_inputs places values row next (p + 1) columns q j.1 l.1 old b (subst (λ n. Contains inputs n) here i) (omega arith)
  joins_inputs (Col k ∷ places) (value ∷ values) row next p columns zero j l old b i h =
      let here : p + zero ≡ p = omega arith in
      (value, refl, inr (old k value (l.1 (subst (λ n. Contains inputs n) here i)) j.0))
  joins_inputs (Col k ∷ places) (value ∷ values) row next p columns (suc q) j l old b i h =
      let here : p + suc q ≡ (p + 1) + q = omega arith in
      joins_inputs places values row next (p + 1) columns q j.1 l.2 old b (subst (λ n. Contains inputs n) here i) (omega arith)
  joins_inputs (New ∷ places) (value ∷ values) row next p columns zero j l old b i h =
      let here : p + zero ≡ p = omega arith in
      absurd (l.0 (subst (λ n. Contains inputs n) here i))
  joins_inputs (New ∷ places) (value ∷ values) row next p columns (suc q) j l old b i h =
      let here : p + suc q ≡ (p + 1) + q = omega arith in
      joins_inputs places values (row ++ value ∷ []) next (p + 1) (columns + 1) q j l.1
      (λ k v below got. old k v below (sym (got_before row (value ∷ []) k (omega arith)) ∙ got))
      (rw (length_push row value) (omega arith)) (subst (λ n. Contains inputs n) here i) (omega arith)

known_later : (constants : List (List ℕ)) (fact : Fact) (trail : List Fact) (v : List ℕ) → IsKnown constants trail v → IsKnown constants (fact ∷ trail) v
known_later constants fact trail v = ⊎_elim inl (λ h. inr (h.0, contains_there fact trail h.0 h.1, h.2))

module _ (schema : SchemaParts) (well : IsWellFormed schema) (constants : List (List ℕ)) (first second : List Fact) (included : (fact : Fact) → IsAccessible schema constants first fact → Contains second fact) where
  -- the fact of a lawful step on known values can be accessed
  step_access : (step : Step) (method : Method) (fact : Fact) (trail : List Fact) (row next : List (List ℕ)) → ((v : List ℕ) → Contains row v → IsKnown constants trail v) → IsLawfulStep schema constants (length row) step method → fact.rel ≡ method.rel → Joins step.places fact.row row next → CanAccess schema constants trail fact
  step_access step method fact trail row next known lawful rel joins = record {
    method = method;
    of_schema = lawful.named.0;
    of_relation = sym rel;
    inputs = λ p i.
        let zeroth : p ≡ 0 + p = omega arith in
        let below : p < length lawful.arity.relation.columns = well.inputs method lawful.arity.relation p lawful.named.0 lawful.arity.there i in
        let got = joins_inputs constants method.inputs (length row) (IsKnown constants trail) step.places fact.row row next 0 (length row) p joins lawful.places
        (λ k v less got. known v (contains_got row k v got)) (omega arith) (subst (λ n. Contains method.inputs n) zeroth i) (rw lawful.arity.width below) in
        (got.0, got.1, ⊎_elim inl (λ h. h) got.2);
  }

  steps_over : (steps : List Step) (output : List Out) (trail : List Fact) (row last : List (List ℕ)) → IsAccessPath schema constants first trail → ((v : List ℕ) → Contains row v → IsKnown constants trail v) → AreLawfulFrom schema constants (length row) steps output → LeadsTo schema first steps row last → LeadsTo schema second steps row last
  steps_over [] output trail row last t known lawful e = e
  steps_over (step ∷ steps) output trail row last t known (method, lawful, rest) (next, one, more) =
      let record { method = found; fact = fact; named = named; of_relation = rel; holds = holds; joins = joins } = one in
      let same : found ≡ method = well.once found method named.0 lawful.named.0 (named.1 ∙ sym lawful.named.1) in
      let rel' : fact.rel ≡ method.rel = rel ∙ ap (λ (m : Method). m.rel) same in
      let access : CanAccess schema constants trail fact = step_access step method fact trail row next known lawful rel' joins in
      let longer : IsAccessPath schema constants first (fact ∷ trail) = (holds, access, t) in
      let known' : (v : List ℕ) → Contains next v → IsKnown constants (fact ∷ trail) v =
      λ v c. ⊎_elim (λ h. known_later constants fact trail v (known v h)) (λ h. inr (fact, contains_here fact trail, h)) (joins_values step.places fact.row row next joins v c) in
      (next, record { method = method; fact = fact; named = lawful.named; of_relation = rel'; holds = included fact (trail, longer); joins = joins }, steps_over steps output (fact ∷ trail) next last longer known' (rw (joins_length step.places fact.row row next joins) rest) more)

  -- the rows grow with the accessible part
  pub rows_over : (plan : Plan) (row : List (List ℕ)) → IsLawful plan schema constants → IsRow schema plan first row → IsRow schema plan second row
  rows_over plan row lawful (branch, among, (last, steps, output)) =
      (branch, among, (last, steps_over branch.steps branch.output [] [] last tt (λ v c. absurd (no_value v c)) (lawful branch among).1 steps, output))
    where
      no_value : (v : List ℕ) → Contains [] v → ⊥
      no_value v c = omega arith

-- a fact that can be reached is in the instance
pub accessible_within : (schema : SchemaParts) (constants : List (List ℕ)) (facts : List Fact) (fact : Fact) → IsAccessible schema constants facts fact → Contains facts fact
accessible_within schema constants facts fact (earlier, trail) = trail.0

pub rows_grow_lem : (schema : SchemaParts) (constants : List (List ℕ)) (plan : Plan) (first second : List Fact) → IsWellFormed schema → IsLawful plan schema constants → ((fact : Fact) → IsAccessible schema constants first fact → IsAccessible schema constants second fact) → (row : List (List ℕ)) → IsRow schema plan first row → IsRow schema plan second row
rows_grow_lem schema constants plan first second well lawful grows row =
    rows_over schema well constants first second (λ fact reached. accessible_within schema constants second fact (grows fact reached)) plan row lawful

pub no_plan_lem : (schema : SchemaParts) (constants : List (List ℕ)) (statement : Statement) (first second : List Fact) (row : List (List ℕ)) → IsWellFormed schema → Refutes schema constants statement first second row → (plan : Plan) → IsLawful plan schema constants → IsEquivalent plan statement schema → ⊥
no_plan_lem schema constants statement first second row well pair plan lawful same =
    pair.not_answered (same.sound second row pair.second_meets (rows_grow_lem schema constants plan first second well lawful pair.included row (same.complete first row pair.first_meets pair.answered)))

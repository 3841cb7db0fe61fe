-- The rows of a branch that is read off exposures are the images of the head under the maps that carry the exposed facts.
use Rattle.std.proofs.Common.{◌≡◌, ◌⊎◌, ℕ, suc, List, [], ◌∷◌, ◌++◌, Option, Some, None, refl, sym, ap, ◌∙◌, subst, inl, inr, ⊎_elim, arith}
use Rattle.std.specs.Prelude.{Contains, slice_get, map, if◌then◌else◌, ◌==◌}
use Rattle.std.specs.List.{AllZip}
use Rattle.std.proofs.lemmas.Bool.Decides.{nat_tests}
use Rattle.std.proofs.lemmas.Bool.{cases_eq}
use Rattle.std.proofs.lemmas.List.{map_push}
use Rattle.std.proofs.lemmas.List.Elements.{Contains-append_left, Contains-push}
use Rattle.lists.proofs.Members.{contains_here, contains_there, contains_cases, contains_got, map_got, map_same, some_injective}
use Rattle.meaning.specs.declared.types.Val.{Val}
use Rattle.meaning.specs.declared.types.Val.TheVariants.{Const as Known, Label}
use Rattle.meaning.specs.declared.types.Fact.{Fact}
use Rattle.meaning.specs.declared.types.Method.{Method}
use Rattle.meaning.specs.declared.types.SchemaParts.{SchemaParts}
use Rattle.meaning.specs.Plans.{IsWellFormed}
use Rattle.meaning.specs.Rows.{Joins, LeadsTo, IsOut}
use Rattle.meaning.specs.Homomorphisms.{image, fact_of}
use Rattle.meaning.specs.Extract.{Exposure, next_column, column_of, label_place, with_label, places_of, columns_after, steps_of, all_columns, label_out, out_of}

pub column_here : (j k : ℕ) (columns : List ℕ) → j ≡ k → column_of (j ∷ columns) k ≡ Some 0
column_here j k columns e = grind (arith, nat_tests)

pub column_later : (j k : ℕ) (columns : List ℕ) → (j ≡ k → ⊥) → column_of (j ∷ columns) k ≡ next_column (column_of columns k)
column_later j k columns d = grind (arith, nat_tests)

-- a column that is found has the label, and a label that has none is no column's
pub column_found : (columns : List ℕ) (k i : ℕ) → column_of columns k ≡ Some i → slice_get columns i ≡ Some k
column_found [] k i e = absurd (cc)
column_found (j ∷ columns) k i e =
    ⊎_elim (λ same. let zeroth : 0 ≡ i = some_injective 0 i (sym (column_here j k columns same) ∙ e) in
    subst (λ n. slice_get (j ∷ columns) n ≡ Some k) zeroth (ap Some same))
    (λ differ. go (column_of columns k) refl (sym (column_later j k columns differ) ∙ e) (λ n f. column_found columns k n f)) (cases_eq j k)
  where
    go : (o : Option ℕ) → column_of columns k ≡ o → next_column (column_of columns k) ≡ Some i → ((n : ℕ) → column_of columns k ≡ Some n → slice_get columns n ≡ Some k) → slice_get (j ∷ columns) i ≡ Some k
    go None f g ih = let none : None ≡ Some i = ap next_column (sym f) ∙ g in absurd (cc)
    go (Some n) f g ih =
        let later : suc n ≡ i = some_injective (suc n) i (ap next_column (sym f) ∙ g) in
        subst (λ m. slice_get (j ∷ columns) m ≡ Some k) later (ih n f)

pub column_none : (columns : List ℕ) (k : ℕ) → column_of columns k ≡ None → Contains columns k → ⊥
column_none [] k e c = omega arith
column_none (j ∷ columns) k e c =
    ⊎_elim (λ same. let clash : Some 0 ≡ None = sym (column_here j k columns same) ∙ e in absurd (cc))
    (λ differ. go (column_of columns k) refl (sym (column_later j k columns differ) ∙ e) (λ f. ⊎_elim (λ g. absurd (differ g)) (λ h. column_none columns k f h) (contains_cases j columns k c))) (cases_eq j k)
  where
    go : (o : Option ℕ) → column_of columns k ≡ o → next_column (column_of columns k) ≡ None → (column_of columns k ≡ None → ⊥) → ⊥
    go None f g ih = ih f
    go (Some n) f g ih = let clash : Some (suc n) ≡ None = ap next_column (sym f) ∙ g in absurd (cc)

-- the columns only grow, and get every label of the fact
pub columns_kept : (columns : List ℕ) (vals : List Val) (k : ℕ) → Contains columns k → Contains (columns_after columns vals) k
columns_kept columns [] k c = c
columns_kept columns (Known t ∷ vals) k c = columns_kept columns vals k c
columns_kept columns (Label j ∷ vals) k c = columns_kept (with_label columns j (column_of columns j)) vals k (kept (column_of columns j))
  where
    kept : (o : Option ℕ) → Contains (with_label columns j o) k
    kept None = Contains-append_left columns (j ∷ []) k c
    kept (Some i) = c

has_label : (columns : List ℕ) (j : ℕ) → Contains (with_label columns j (column_of columns j)) j
has_label columns j = go (column_of columns j) refl
  where
    go : (o : Option ℕ) → column_of columns j ≡ o → Contains (with_label columns j o) j
    go None e = Contains-push columns j
    go (Some i) e = contains_got columns i j (column_found columns j i e)

pub columns_have : (columns : List ℕ) (vals : List Val) (k : ℕ) → Contains vals (Label k) → Contains (columns_after columns vals) k
columns_have columns [] k c = absurd (omega arith)
columns_have columns (Known t ∷ vals) k c = ⊎_elim (λ e. let clash : ⊥ = cc in absurd clash) (λ h. columns_have columns vals k h) (contains_cases (Known t) vals (Label k) c)
columns_have columns (Label j ∷ vals) k c =
    ⊎_elim (λ e. let same : j ≡ k = cc in columns_kept (with_label columns j (column_of columns j)) vals k (subst (λ n. Contains (with_label columns j (column_of columns j)) n) same (has_label columns j)))
    (λ h. columns_have (with_label columns j (column_of columns j)) vals k h) (contains_cases (Label j) vals (Label k) c)

-- the image of a fact joins the image of the columns
joins_image : (h : ℕ → List ℕ) (columns : List ℕ) (vals : List Val) → Joins (places_of columns vals) (map (image h) vals) (map h columns) (map h (columns_after columns vals))
joins_image h columns [] = refl
joins_image h columns (Known t ∷ vals) = (refl, joins_image h columns vals)
joins_image h columns (Label k ∷ vals) = go (column_of columns k) refl (joins_image h (with_label columns k (column_of columns k)) vals)
  where
    go : (o : Option ℕ) → column_of columns k ≡ o → Joins (places_of (with_label columns k o) vals) (map (image h) vals) (map h (with_label columns k o)) (map h (columns_after (with_label columns k o) vals)) →
        Joins (label_place o ∷ places_of (with_label columns k o) vals) (h k ∷ map (image h) vals) (map h columns) (map h (columns_after (with_label columns k o) vals))
    go None e j = subst (λ row. Joins (places_of (columns ++ k ∷ []) vals) (map (image h) vals) row (map h (columns_after (columns ++ k ∷ []) vals))) (map_push h columns k) j
    go (Some i) e j = (map_got h columns i k (column_found columns k i e), j)

-- h with v at k
put : (ℕ → List ℕ) → ℕ → List ℕ → ℕ → List ℕ
put h k v j = if j == k then v else h j

put_here : (h : ℕ → List ℕ) (k : ℕ) (v : List ℕ) → put h k v k ≡ v
unfolding put
put_here h k v = grind (arith, nat_tests)

put_other : (h : ℕ → List ℕ) (k : ℕ) (v : List ℕ) (j : ℕ) → (j ≡ k → ⊥) → put h k v j ≡ h j
unfolding put
put_other h k v j d = grind (arith, nat_tests)

-- a map that agrees with h on the columns, and gives the next row and the fact's values
Follows : (ℕ → List ℕ) → List ℕ → List Val → List (List ℕ) → List (List ℕ) → Type 0
Follows h columns vals values next = (g : ℕ → List ℕ) × ((k : ℕ) → Contains columns k → g k ≡ h k) × (next ≡ map g (columns_after columns vals)) × (values ≡ map (image g) vals)

joins_map : (h : ℕ → List ℕ) (columns : List ℕ) (vals : List Val) (values next : List (List ℕ)) → Joins (places_of columns vals) values (map h columns) next → Follows h columns vals values next
unfolding Follows
joins_map h columns [] [] next e = (h, (λ k c. refl), e, refl)
joins_map h columns [] (v ∷ values) next j = absurd j
joins_map h columns (Known t ∷ vals) [] next j = absurd j
joins_map h columns (Label k ∷ vals) [] next j = absurd j
joins_map h columns (Known t ∷ vals) (v ∷ values) next (e, j) =
    let (g, agree, n, vs) = joins_map h columns vals values next j in
    let whole : v ∷ values ≡ t ∷ map (image g) vals = cc in
    (g, agree, n, whole)
joins_map h columns (Label k ∷ vals) (v ∷ values) next j = go (column_of columns k) refl (λ f i. joins_map f (with_label columns k (column_of columns k)) vals values next i) j
  where
    go : (o : Option ℕ) → column_of columns k ≡ o → ((f : ℕ → List ℕ) → Joins (places_of (with_label columns k o) vals) values (map f (with_label columns k o)) next → Follows f (with_label columns k o) vals values next) →
        Joins (label_place o ∷ places_of (with_label columns k o) vals) (v ∷ values) (map h columns) next →
        (g : ℕ → List ℕ) × ((k : ℕ) → Contains columns k → g k ≡ h k) × (next ≡ map g (columns_after (with_label columns k o) vals)) × (v ∷ values ≡ g k ∷ map (image g) vals)
    go None e ih j =
        let f = put h k v in
        let old : map f columns ≡ map h columns = map_same f h columns (λ i c. put_other h k v i (λ same. column_none columns k e (subst (λ m. Contains columns m) same c))) in
        let row : map h columns ++ v ∷ [] ≡ map f (columns ++ k ∷ []) = sym (map_push f columns k ∙ ap (λ r. r ++ f k ∷ []) old ∙ ap (λ w. map h columns ++ w ∷ []) (put_here h k v)) in
        let (g, agree, n, vs) = ih f (subst (λ r. Joins (places_of (columns ++ k ∷ []) vals) values r next) row j) in
        let here : g k ≡ v = agree k (Contains-push columns k) ∙ put_here h k v in
        let whole : v ∷ values ≡ g k ∷ map (image g) vals = cc in
        (g, (λ i c. agree i (Contains-append_left columns (k ∷ []) i c) ∙ put_other h k v i (λ same. column_none columns k e (subst (λ m. Contains columns m) same c))), n, whole)
    go (Some i) e ih (at, j) =
        let (g, agree, n, vs) = ih h j in
        let found = column_found columns k i e in
        let here : g k ≡ v = agree k (contains_got columns i k found) ∙ some_injective (h k) v (sym (map_got h columns i k found) ∙ at) in
        let whole : v ∷ values ≡ g k ∷ map (image g) vals = cc in
        (g, agree, n, whole)

joins_map' : (h : ℕ → List ℕ) (columns : List ℕ) (vals : List Val) (values next : List (List ℕ)) → Joins (places_of columns vals) values (map h columns) next → (g : ℕ → List ℕ) × ((k : ℕ) → Contains columns k → g k ≡ h k) × (next ≡ map g (columns_after columns vals)) × (values ≡ map (image g) vals)
unfolding Follows
joins_map' h columns vals values next j = joins_map h columns vals values next j

module _ (schema : SchemaParts) (well : IsWellFormed schema) (instance : List Fact) where
  -- each exposed fact has a method of the schema and of its relation
  abbrev pub Methods : List Exposure → Type 0
  Methods exposures = (e : Exposure) → Contains exposures e → Contains schema.methods e.method × (e.method.rel ≡ e.fact.rel)

  -- a map that carries the exposed facts gives a row
  pub steps_image : (h : ℕ → List ℕ) (columns : List ℕ) (exposures : List Exposure) → Methods exposures → ((e : Exposure) → Contains exposures e → Contains instance (fact_of h e.fact)) → LeadsTo schema instance (steps_of columns exposures) (map h columns) (map h (all_columns columns exposures))
  steps_image h columns [] methods carries = refl
  steps_image h columns (e ∷ exposures) methods carries =
      let its = methods e (contains_here e exposures) in (
        map h (columns_after columns e.fact.vals),
        record { method = e.method; fact = fact_of h e.fact; named = (its.0, refl); of_relation = sym its.1; holds = carries e (contains_here e exposures); joins = joins_image h columns e.fact.vals },
        steps_image h (columns_after columns e.fact.vals) exposures (λ f c. methods f (contains_there e exposures f c)) (λ f c. carries f (contains_there e exposures f c)),
      )

  pub same_vals : (g h : ℕ → List ℕ) (vals : List Val) → ((k : ℕ) → Contains vals (Label k) → g k ≡ h k) → map (image g) vals ≡ map (image h) vals
  same_vals g h vals same = map_same (image g) (image h) vals each
    where
      each : (v : Val) → Contains vals v → image g v ≡ image h v
      each (Known t) c = refl
      each (Label k) c = same k c

  -- a row comes from a map that carries the exposed facts
  pub steps_map : (h : ℕ → List ℕ) (columns : List ℕ) (exposures : List Exposure) (last : List (List ℕ)) → Methods exposures → LeadsTo schema instance (steps_of columns exposures) (map h columns) last →
      (g : ℕ → List ℕ) × ((k : ℕ) → Contains columns k → g k ≡ h k) × (last ≡ map g (all_columns columns exposures)) × ((e : Exposure) → Contains exposures e → Contains instance (fact_of g e.fact))
  steps_map h columns [] last methods e = (h, (λ k c. refl), e, λ x c. absurd (no_exposure x c))
    where
      no_exposure : (x : Exposure) → Contains [] x → ⊥
      no_exposure x c = omega arith
  steps_map h columns (e ∷ exposures) last methods (next, one, more) =
      let record { method = method; fact = fact; named = named; of_relation = rel; holds = holds; joins = joins } = one in
      let its = methods e (contains_here e exposures) in
      let rel' : e.fact.rel ≡ fact.rel = sym (rel ∙ ap (λ (m : Method). m.rel) (well.once method e.method named.0 its.0 named.1) ∙ its.1) in
      let (f, agree, n, vs) = joins_map' h columns e.fact.vals fact.row next joins in
      let (g, agree', l, carries) = steps_map f (columns_after columns e.fact.vals) exposures last (λ x c. methods x (contains_there e exposures x c)) (subst (λ r. LeadsTo schema instance (steps_of (columns_after columns e.fact.vals) exposures) r last) n more) in
      let row : map (image g) e.fact.vals ≡ fact.row = same_vals g f e.fact.vals (λ k c. agree' k (columns_have columns e.fact.vals k c)) ∙ sym vs in
      let here : Contains instance (fact_of g e.fact) = subst (λ x. Contains instance x) (λ i. record { rel = sym rel' i; row = sym row i }) holds in (
        g,
        (λ k c. agree' k (columns_kept columns e.fact.vals k c) ∙ agree k c),
        l,
        (λ x c. ⊎_elim (λ same. subst (λ (y : Exposure). Contains instance (fact_of g y.fact)) same here) (λ h. carries x h) (contains_cases e exposures x c)),
      )

-- the output has the image of the head
pub outs_image : (h : ℕ → List ℕ) (columns : List ℕ) (head : List Val) → ((k : ℕ) → Contains head (Label k) → Contains columns k) → AllZip (IsOut (map h columns)) (map (out_of columns) head) (map (image h) head)
outs_image h columns [] have = tt
outs_image h columns (Known t ∷ head) have = (refl, outs_image h columns head (λ k c. have k (contains_there (Known t) head (Label k) c)))
outs_image h columns (Label k ∷ head) have = (go (column_of columns k) refl, outs_image h columns head (λ j c. have j (contains_there (Label k) head (Label j) c)))
  where
    go : (o : Option ℕ) → column_of columns k ≡ o → IsOut (map h columns) (label_out o) (h k)
    go None e = absurd (column_none columns k e (have k (contains_here (Label k) head)))
    go (Some i) e = map_got h columns i k (column_found columns k i e)

pub outs_row : (g : ℕ → List ℕ) (columns : List ℕ) (head : List Val) (row : List (List ℕ)) → ((k : ℕ) → Contains head (Label k) → Contains columns k) → AllZip (IsOut (map g columns)) (map (out_of columns) head) row → row ≡ map (image g) head
outs_row g columns [] [] have outs = refl
outs_row g columns [] (v ∷ row) have outs = absurd outs
outs_row g columns (Known t ∷ head) [] have outs = absurd outs
outs_row g columns (Label k ∷ head) [] have outs = absurd outs
outs_row g columns (Known t ∷ head) (v ∷ row) have (e, outs) =
    let rest : row ≡ map (image g) head = outs_row g columns head row (λ k c. have k (contains_there (Known t) head (Label k) c)) outs in
    cc
outs_row g columns (Label k ∷ head) (v ∷ row) have (out, outs) =
    let rest : row ≡ map (image g) head = outs_row g columns head row (λ j c. have j (contains_there (Label k) head (Label j) c)) outs in
    let here : v ≡ g k = go (column_of columns k) refl out in
    cc
  where
    go : (o : Option ℕ) → column_of columns k ≡ o → IsOut (map g columns) (label_out o) v → v ≡ g k
    go None e at = absurd (column_none columns k e (have k (contains_here (Label k) head)))
    go (Some i) e at = some_injective v (g k) (sym at ∙ map_got g columns i k (column_found columns k i e))

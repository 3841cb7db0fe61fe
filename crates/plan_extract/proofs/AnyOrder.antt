-- Exposures in another order: the rows of their branch, and that each stays possible after those before it.
use Rattle.std.proofs.Common.{◌≡◌, ◌⊎◌, ℕ, ◌+◌, ◌<◌, zero, suc, List, [], ◌∷◌, ◌++◌, length, get_or, refl, sym, ap, ◌∙◌, subst, inl, inr, ⊎_elim, arith, append_assoc}
use Rattle.std.specs.Prelude.{Contains, IsPermutation, Some, None, map, slice_get}
use Rattle.std.specs.List.{AllZip, sum_by, swap}
use Rattle.std.specs.Ordering.{nat_cmp}
use Rattle.std.specs.BTreeMap.{BTreeMap, get}
use Rattle.std.proofs.lemmas.Bool.{cases_eq}
use Rattle.std.proofs.lemmas.List.{map-append, length-append}
use Rattle.std.proofs.lemmas.List.Edits.{swapped_from_swap, length-swap}
use Rattle.std.proofs.lemmas.List.Sums.{sum_by-cons}
use Rattle.std.proofs.lemmas.List.Elements.{Contains-push_cases, Contains-push, Contains-append_left}
use Rattle.std.proofs.lemmas.List.Sorted.{Contains-permutation, IsPermutation-sym, IsPermutation-keeps, sum_by-IsPermutation}
use Rattle.std.proofs.lemmas.Option.{slice_get-get_or, slice_get_within}
use Rattle.lists.proofs.Members.{contains_here, contains_there, contains_cases, contains_got, contains_map, contains_mapped, got_before, some_injective}
use Rattle.lists.proofs.Places.{got_seam, got_member}
use Rattle.meaning.specs.declared.types.SchemaParts.{SchemaParts}
use Rattle.meaning.specs.declared.types.Fact.{Fact}
use Rattle.meaning.specs.declared.types.Ground.{Ground}
use Rattle.meaning.specs.declared.types.Val.{Val}
use Rattle.meaning.specs.declared.types.Val.TheVariants.{Const, Label}
use Rattle.meaning.specs.Values.{Value, Row}
use Rattle.meaning.specs.Naming.{AreNamed}
use Rattle.meaning.specs.Plans.{IsWellFormed}
use Rattle.meaning.specs.Rows.{IsOut, IsBranchRow}
use Rattle.meaning.specs.Runs.{IsKnownValue}
use Rattle.meaning.specs.Homomorphisms.{image}
use Rattle.meaning.specs.Extract.{Exposure, exposed_facts, exposures_cost, IsExposing, column_of, with_label, columns_after, all_columns, out_of, branch_of, IsHeadKnown}
use Rattle.meaning_laws.proofs.Extracting.{steps_image, steps_map, outs_image, outs_row, columns_kept, columns_have}
use Rattle.meaning_laws.proofs.Extracted.{all_have}
use Rattle.plan_extract.specs.Lent.{values_in}
use Rattle.plan_extract.specs.Passes.{AreOrigins}
use Rattle.plan_extract.specs.Arranged.{AreKnown}

-- ---- rows

-- the rows are the images of the head under the maps that carry the exposed facts, whatever their order
pub any_order : (schema : SchemaParts) (first second : List Exposure) (head : List Val) (instance : List Fact) (row : Row) →
    IsWellFormed schema → ((e : Exposure) → Contains first e → Contains schema.methods e.method × (e.method.rel ≡ e.fact.rel)) →
    ((e : Exposure) → Contains second e → Contains first e) → ((e : Exposure) → Contains first e → Contains second e) →
    IsHeadKnown first head → IsBranchRow schema (branch_of first head) instance row → IsBranchRow schema (branch_of second head) instance row
any_order schema first second head instance row well methods back there known (last, steps, output) =
    let (g, agree, is_last, carries) = steps_map schema well instance (λ k. []) [] first last methods steps in
    let have : (k : ℕ) → Contains head (Label k) → Contains (all_columns [] first) k = λ k c. let (e, among, l) = known k c in all_have [] first e k among l in
    let have' : (k : ℕ) → Contains head (Label k) → Contains (all_columns [] second) k = λ k c. let (e, among, l) = known k c in all_have [] second e k (there e among) l in
    let is_row : row ≡ map (image g) head = outs_row g (all_columns [] first) head row have (subst (λ r. AllZip (IsOut r) (map (out_of (all_columns [] first)) head) row) is_last output) in (
      map g (all_columns [] second),
      steps_image schema well instance g [] second (λ e c. methods e (back e c)) (λ e c. carries e (back e c)),
      subst (λ r. AllZip (IsOut (map g (all_columns [] second))) (map (out_of (all_columns [] second)) head) r) (sym is_row) (outs_image g (all_columns [] second) head have'),
    )

-- ---- sums

pub cost_is : (exposures : List Exposure) → exposures_cost exposures ≡ sum_by (λ e. e.method.cost) exposures
cost_is [] = refl
cost_is (e ∷ exposures) = ap (λ n. e.method.cost + n) (cost_is exposures) ∙ sym (sum_by-cons (λ (x : Exposure). x.method.cost) e exposures)

pub values_are : (exposures : List Exposure) → values_in exposures ≡ sum_by (λ e. length e.fact.vals) exposures
values_are [] = refl
values_are (e ∷ exposures) = ap (λ n. length e.fact.vals + n) (values_are exposures) ∙ sym (sum_by-cons (λ (x : Exposure). length x.fact.vals) e exposures)

pub same_cost : (first second : List Exposure) → IsPermutation first second → exposures_cost second ≡ exposures_cost first
same_cost first second same = cost_is second ∙ sum_by-IsPermutation (λ (e : Exposure). e.method.cost) first second same ∙ sym (cost_is first)

pub same_values : (first second : List Exposure) → IsPermutation first second → values_in second ≡ values_in first
same_values first second same = values_are second ∙ sum_by-IsPermutation (λ (e : Exposure). length e.fact.vals) first second same ∙ sym (values_are first)

-- ---- labels at inputs

-- a label of exposures
HasLabel : List Exposure → ℕ → Type 0
HasLabel exposures label = (e : Exposure) × Contains exposures e × Contains e.fact.vals (Label label)

-- the columns after a fact are of labels that had one or are the fact's
columns_only : (columns : List ℕ) (vals : List Val) (k : ℕ) → Contains (columns_after columns vals) k → Contains columns k ⊎ Contains vals (Label k)
columns_only columns [] k c = inl c
columns_only columns (Const t ∷ vals) k c = ⊎_elim (λ h. inl h) (λ h. inr (contains_there (Const t) vals (Label k) h)) (columns_only columns vals k c)
columns_only columns (Label j ∷ vals) k c =
    ⊎_elim (λ h. go (column_of columns j) h) (λ h. inr (contains_there (Label j) vals (Label k) h)) (columns_only (with_label columns j (column_of columns j)) vals k c)
  where
    go : (o : _) → Contains (with_label columns j o) k → Contains columns k ⊎ Contains (Label j ∷ vals) (Label k)
    go None h = ⊎_elim (λ old. inl old) (λ same. inr (subst (λ n. Contains (Label j ∷ vals) (Label n)) same (contains_here (Label j) vals))) (Contains-push_cases columns j k h)
    go (Some i) h = inl h

-- exposures that are possible one after another have known labels at their inputs
pub known_exposing : (schema : SchemaParts) (constants : List Value) (base exposed : List Ground) (columns : List ℕ) (exposures : List Exposure) →
    ((fact : Ground) (label : ℕ) → Contains exposed fact → Contains fact.vals (Label label) → Contains columns label) → IsExposing schema constants base exposed exposures → AreKnown columns exposures
known_exposing schema constants base exposed columns [] have is = tt
known_exposing schema constants base exposed columns (e ∷ exposures) have (first, rest) = (
  (λ place label input has. let (v, at, known) = first.inputs place input in label_known v label (some_same (sym has ∙ at)) known),
  known_exposing schema constants base (exposed ++ e.fact ∷ []) (columns_after columns e.fact.vals) exposures
      (λ fact label c l. ⊎_elim (λ old. columns_kept columns e.fact.vals label (have fact label old l))
      (λ same. columns_have columns e.fact.vals label (subst (λ (g : Ground). Contains g.vals (Label label)) (sym same) l)) (Contains-push_cases exposed e.fact fact c)) rest,
)
  where
    some_same : {x y : Val} → Some x ≡ Some y → x ≡ y
    some_same {x} {y} is = some_injective x y is

    label_known : (v : Val) (label : ℕ) → Label label ≡ v → IsKnownValue constants exposed v → Contains columns label
    label_known v label same known =
        ⊎_elim (λ (c, among, is). let clash : Label label ≡ Const c = same ∙ is in absurd (cc)) (λ (fact, c, l). have fact label c (subst (λ w. Contains fact.vals w) (sym same) l)) known

-- where the first exposure of each label at an input comes before, the labels at inputs are known
module _ (all : List Exposure) (origins : BTreeMap ℕ ℕ) (are : AreOrigins all origins)
    (each : (k : ℕ) (e : Exposure) → slice_get all k ≡ Some e → (place label : ℕ) → Contains e.method.inputs place → slice_get e.fact.vals place ≡ Some (Label label) →
    (first : ℕ) × (get nat_cmp origins label ≡ Some first) × (first < k)) where
  known_from : (done rest : List Exposure) (columns : List ℕ) → all ≡ done ++ rest → ((label : ℕ) → HasLabel done label → Contains columns label) → AreKnown columns rest
  unfolding HasLabel
  known_from done [] columns split have = tt
  known_from done (e ∷ rest) columns split have = (
    (λ place label input has. let at : slice_get all (length done) ≡ Some e = ap (λ list. slice_get list (length done)) split ∙ got_seam done e rest in
        let (first, noted, low) = each (length done) e at place label input has in
        let (x, is) = are.each label first noted in
        have label (x, contains_got done first x (sym (got_before done (e ∷ rest) first low) ∙ ap (λ list. slice_get list first) (sym split) ∙ is.at), is.has)),
    known_from (done ++ e ∷ []) rest (columns_after columns e.fact.vals) (split ∙ sym (append_assoc done (e ∷ []) rest))
        (λ label (x, c, l). ⊎_elim (λ old. columns_kept columns e.fact.vals label (have label (x, old, l)))
        (λ same. columns_have columns e.fact.vals label (subst (λ (y : Exposure). Contains y.fact.vals (Label label)) (sym same) l)) (Contains-push_cases done e x c)),
  )

  pub known_by_origins : AreKnown [] all
  unfolding HasLabel
  known_by_origins = known_from [] all [] refl (λ label (x, c, l). absurd (let none : Contains [] x = c in omega arith))

-- ---- different facts

-- exposures of different facts
Apart : List Exposure → Type 0
Apart list = (i j : ℕ) (d : Exposure) → i < length list → j < length list → (get_or list i d).fact ≡ (get_or list j d).fact → i ≡ j

exposing_new : (schema : SchemaParts) (constants : List Value) (base exposed : List Ground) (exposures : List Exposure) → IsExposing schema constants base exposed exposures → (e : Exposure) → Contains exposures e → Contains exposed e.fact → ⊥
exposing_new schema constants base exposed [] is e c among = omega arith
exposing_new schema constants base exposed (first ∷ exposures) (its, rest) e c among =
    ⊎_elim (λ same. its.new (subst (λ (x : Exposure). Contains exposed x.fact) (sym same) among))
    (λ later. exposing_new schema constants base (exposed ++ first.fact ∷ []) exposures rest e later (Contains-append_left exposed (first.fact ∷ []) e.fact among)) (contains_cases first exposures e c)

exposing_apart : (schema : SchemaParts) (constants : List Value) (base exposed : List Ground) (exposures : List Exposure) → IsExposing schema constants base exposed exposures → Apart exposures
unfolding Apart
exposing_apart schema constants base exposed [] is i j d li lj same = absurd (omega arith)
exposing_apart schema constants base exposed (e ∷ rest) (its, more) zero zero d li lj same = refl
exposing_apart schema constants base exposed (e ∷ rest) (its, more) zero (suc j) d li lj same = absurd (clash (get_or rest j d) (contains_got rest j (get_or rest j d) (slice_get-get_or rest j d (omega arith))) same)
  where
    clash : (x : Exposure) → Contains rest x → e.fact ≡ x.fact → ⊥
    clash x c is = exposing_new schema constants base (exposed ++ e.fact ∷ []) rest more x c (subst (λ f. Contains (exposed ++ e.fact ∷ []) f) is (Contains-push exposed e.fact))
exposing_apart schema constants base exposed (e ∷ rest) (its, more) (suc i) zero d li lj same = absurd (clash (get_or rest i d) (contains_got rest i (get_or rest i d) (slice_get-get_or rest i d (omega arith))) (sym same))
  where
    clash : (x : Exposure) → Contains rest x → e.fact ≡ x.fact → ⊥
    clash x c is = exposing_new schema constants base (exposed ++ e.fact ∷ []) rest more x c (subst (λ f. Contains (exposed ++ e.fact ∷ []) f) is (Contains-push exposed e.fact))
exposing_apart schema constants base exposed (e ∷ rest) (its, more) (suc i) (suc j) d li lj same = ap suc (exposing_apart schema constants base (exposed ++ e.fact ∷ []) rest more i j d (omega arith) (omega arith) same)

-- where a place went when a and b changed places
WentTo : ℕ → ℕ → ℕ → ℕ → Type 0
WentTo a b p s = ((p ≡ a) × (s ≡ b)) ⊎ (((p ≡ b) × (s ≡ a)) ⊎ ((p ≡ a → ⊥) × (p ≡ b → ⊥) × (s ≡ p)))

went_once : (a b i j s t : ℕ) → WentTo a b i s → WentTo a b j t → s ≡ t → i ≡ j
unfolding WentTo
went_once a b i j s t u v same = grind arith

went : (list : List Exposure) (a b : ℕ) (d : Exposure) → a < length list → b < length list → (p : ℕ) → p < length list → (s : ℕ) × (s < length list) × (get_or (swap list a b) p d ≡ get_or list s d) × WentTo a b p s
unfolding WentTo
went list a b d la lb p lp =
    let sw = swapped_from_swap list (swap list a b) a b d la lb refl in
    ⊎_elim (λ ea. (b, lb, ap (λ n. get_or (swap list a b) n d) ea ∙ sw.0, inl (ea, refl)))
    (λ na. ⊎_elim (λ eb. (a, la, ap (λ n. get_or (swap list a b) n d) eb ∙ sw.1, inr (inl (eb, refl)))) (λ nb. (p, lp, sw.2 p na nb, inr (inr (na, nb, refl)))) (cases_eq p b)) (cases_eq p a)

apart_permuted : (first second : List Exposure) → IsPermutation first second → Apart first → Apart second
unfolding Apart
apart_permuted first second same start = IsPermutation-keeps first Apart start
    (λ l a b la lb h i j d li lj is.
    let long = length-swap l a b in
    let (s, ls, es, ws) = went l a b d la lb i (omega arith) in
    let (t, lt, et, wt) = went l a b d la lb j (omega arith) in
    went_once a b i j s t ws wt (h s t d ls lt (sym (ap (λ (x : Exposure). x.fact) es) ∙ is ∙ ap (λ (x : Exposure). x.fact) et)))
    second same

-- ---- possible after those before it

-- what holds of an exposure in every order
record Stands (schema : SchemaParts) (base : List Ground) (e : Exposure) : Type 0 where
  of_base : Contains base e.fact
  of_schema : Contains schema.methods e.method
  of_relation : e.method.rel ≡ e.fact.rel
  inputs : (p : ℕ) → Contains e.method.inputs p → (value : Val) × (slice_get e.fact.vals p ≡ Some value)

stands : (schema : SchemaParts) (constants : List Value) (base exposed : List Ground) (exposures : List Exposure) → IsExposing schema constants base exposed exposures → (e : Exposure) → Contains exposures e → Stands schema base e
stands schema constants base exposed [] is e c = absurd (omega arith)
stands schema constants base exposed (first ∷ exposures) (its, rest) e c =
    ⊎_elim (λ same. subst (Stands schema base) same (record { of_base = its.of_base; of_schema = its.of_schema; of_relation = its.of_relation; inputs = λ p i. let (v, at, known) = its.inputs p i in (v, at) }))
    (λ later. stands schema constants base (exposed ++ first.fact ∷ []) exposures rest e later) (contains_cases first exposures e c)

facts_push : (done : List Exposure) (e : Exposure) → exposed_facts (done ++ e ∷ []) ≡ exposed_facts done ++ e.fact ∷ []
facts_push done e = map-append (λ (x : Exposure). x.fact) done (e ∷ [])

module _ (schema : SchemaParts) (constants : List Value) (n : ℕ) (base : List Ground) (named : AreNamed constants n base) (all : List Exposure)
    (each : (e : Exposure) → Contains all e → Stands schema base e) (apart : Apart all) where
  new_at : (done rest : List Exposure) (e : Exposure) → all ≡ done ++ e ∷ rest → Contains (exposed_facts done) e.fact → ⊥
  unfolding Apart
  new_at done rest e split among =
      let (x, c, same) = contains_mapped (λ (y : Exposure). y.fact) done e.fact among in
      let (k, got) = got_member done x c in
      let low : k < length done = slice_get_within done k x got in
      let whole : length all ≡ length (done ++ e ∷ rest) = ap length split in
      let long : length (done ++ e ∷ rest) ≡ length done + suc (length rest) = length-append done (e ∷ rest) in
      let at_k : slice_get all k ≡ Some x = ap (λ list. slice_get list k) split ∙ got_before done (e ∷ rest) k low ∙ got in
      let at_e : slice_get all (length done) ≡ Some e = ap (λ list. slice_get list (length done)) split ∙ got_seam done e rest in
      let is_k : get_or all k e ≡ x = some_injective (get_or all k e) x (sym (slice_get-get_or all k e (omega arith)) ∙ at_k) in
      let is_e : get_or all (length done) e ≡ e = some_injective (get_or all (length done) e) e (sym (slice_get-get_or all (length done) e (omega arith)) ∙ at_e) in
      let is : k ≡ length done = apart k (length done) e (omega arith) (omega arith) (ap (λ (y : Exposure). y.fact) is_k ∙ same ∙ sym (ap (λ (y : Exposure). y.fact) is_e)) in
      omega arith

  exposing_known : (done rest : List Exposure) (columns : List ℕ) → all ≡ done ++ rest → ((label : ℕ) → Contains columns label → HasLabel done label) → AreKnown columns rest → IsExposing schema constants base (exposed_facts done) rest
  unfolding HasLabel
  exposing_known done [] columns split have known = tt
  exposing_known done (e ∷ rest) columns split have (first, more) =
      let its : Stands schema base e = each e (subst (λ list. Contains list e) (sym split) (contains_got (done ++ e ∷ rest) (length done) e (got_seam done e rest))) in (
        record {
          of_base = its.of_base;
          new = new_at done rest e split;
          of_schema = its.of_schema;
          of_relation = its.of_relation;
          inputs = λ p i. let (v, at) = its.inputs p i in (v, at, known_of v p i at);
        },
        subst (λ facts. IsExposing schema constants base facts rest) (facts_push done e)
            (exposing_known (done ++ e ∷ []) rest (columns_after columns e.fact.vals) (split ∙ sym (append_assoc done (e ∷ []) rest))
            (λ label c. ⊎_elim (λ old. let (x, among, l) = have label old in (x, Contains-append_left done (e ∷ []) x among, l)) (λ here. (e, Contains-push done e, here)) (columns_only columns e.fact.vals label c)) more),
      )
    where
      known_of : (v : Val) (p : ℕ) → Contains e.method.inputs p → slice_get e.fact.vals p ≡ Some v → IsKnownValue constants (exposed_facts done) v
      known_of (Const t) p i at = inl (t, named e.fact (Const t) (each e (subst (λ list. Contains list e) (sym split) (contains_got (done ++ e ∷ rest) (length done) e (got_seam done e rest)))).of_base (contains_got e.fact.vals p (Const t) at), refl)
      known_of (Label label) p i at = let (x, among, l) = have label (first p label i at) in inr (x.fact, contains_map (λ (y : Exposure). y.fact) done x among, l)

-- exposures that are possible one after another stay so in each order in which their inputs are known
pub exposing_any_order : (schema : SchemaParts) (constants : List Value) (n : ℕ) (base : List Ground) → AreNamed constants n base → (kept ordered : List Exposure) → IsPermutation kept ordered → IsExposing schema constants base [] kept → AreKnown [] ordered →
    IsExposing schema constants base [] ordered
unfolding HasLabel
exposing_any_order schema constants n base named kept ordered same is known =
    exposing_known schema constants n base named ordered (λ e c. stands schema constants base [] kept is e (Contains-permutation ordered kept e (IsPermutation-sym kept ordered same) c))
    (apart_permuted kept ordered same (exposing_apart schema constants base [] kept is)) [] ordered [] refl (λ label c. absurd (omega arith)) known

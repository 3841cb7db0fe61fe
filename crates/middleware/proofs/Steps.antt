-- The joined rows of a round are the next partial rows, and its list is the round's.
use Rattle.std.proofs.Common.{◌≡◌, ◌⊎◌, ◌↔◌, inl, inr, ⊎_elim, ℕ, zero, suc, ◌+◌, ◌<◌, ◌≤◌, List, [], ◌∷◌, ◌++◌, length, map, take, get_or, Option, None, Some, Bool, true, false, cond, ◌&&◌, nat_eq, refl, sym, ◌∙◌, ap, subst, arith}
use Rattle.std.specs.Prelude.{Contains, slice_get}
use Rattle.std.specs.List.{AllZip, filter}
use Rattle.std.specs.Cmp.Lexicographic.{pointwise, nat_list_eq_equiv}
use Rattle.std.proofs.lemmas.Bool.Decides.{nat_tests}
use Rattle.std.proofs.lemmas.List.{length_push, map-append, take_more}
use Rattle.std.specs.declared.cmp.Ordering.TheVariants.{Less}
use Rattle.lists.proofs.Members.{contains_here, contains_there, contains_cases, contains_map, contains_mapped, contains_one, got_before, got_below, got_mapped, contains_joined, joined_from, filter_from, contains_filter}
use Rattle.meaning.specs.declared.types.Fact.{Fact}
use Rattle.meaning.specs.declared.types.Method.{Method}
use Rattle.meaning.specs.declared.types.SchemaParts.{SchemaParts}
use Rattle.meaning.specs.declared.types.Place.{Place}
use Rattle.meaning.specs.declared.types.Place.TheVariants.{Const, Col, New}
use Rattle.meaning.specs.declared.types.Step.{Step}
use Rattle.meaning.specs.declared.types.Request.{Request}
use Rattle.meaning.specs.Plans.{IsWellFormed, IsMethod}
use Rattle.meaning.specs.Rows.{Joins, StepsTo, LeadsTo}
use Rattle.meaning.specs.Requests.{input_value, Wants, IsRound}
use Rattle.meaning_laws.proofs.Monotone.{joins_length}
use Rattle.source_trait.specs.Asking.{RowList, agrees, pick}
use Rattle.row_text.specs.RowText.{row_cmp}
use Rattle.middleware.specs.Joining.{joined, listed, grown, is_at, input_value_or, input_row_of}
use Rattle.middleware.specs.Rounds.{requests_of, IsWanted, next_rows}
use Rattle.middleware.specs.Branches.{IsInput, columns_after, ArePartial, HasAdded}
use Rattle.lists.proofs.Orders.{adjacent, text_is}
use Rattle.lists.proofs.Booleans.{both_true}

guarded : {X : Type 0} (b : Bool) (x : Option X) (y : X) → cond b x None ≡ Some y → (b ≡ true) × (x ≡ Some y)
guarded true x y h = (refl, h)
guarded false x y h = absurd (cc)

passed : {X : Type 0} (b : Bool) (x : Option X) (y : X) → b ≡ true → x ≡ Some y → cond b x None ≡ Some y
passed true x y h e = e
passed false x y h e = absurd (cc)

at_some : (o : Option (List ℕ)) (v : List ℕ) → is_at o v ≡ true → o ≡ Some v
at_some None v h = absurd (cc)
at_some (Some w) v h = ap (λ (t : List ℕ). Some t) (text_is w v h)

some_at : (o : Option (List ℕ)) (v : List ℕ) → o ≡ Some v → is_at o v ≡ true
some_at o v e = rw e (nat_list_eq_equiv.refl v)

-- what the loop computes is the relation
pub joins_joined : (places : List Place) (values row next : List (List ℕ)) → joined places values row ≡ Some next → Joins places values row next
joins_joined [] [] row next e = cc
joins_joined [] (value ∷ values) row next e = absurd (cc)
joins_joined (place ∷ places) [] row next e = absurd (cc)
joins_joined (Const c ∷ places) (value ∷ values) row next e =
    let g = guarded (pointwise nat_eq value c) (joined places values row) next e in (text_is value c g.0, joins_joined places values row next g.1)
joins_joined (Col k ∷ places) (value ∷ values) row next e =
    let g = guarded (is_at (slice_get row k) value) (joined places values row) next e in (at_some (slice_get row k) value g.0, joins_joined places values row next g.1)
joins_joined (New ∷ places) (value ∷ values) row next e = joins_joined places values (row ++ value ∷ []) next e

joined_joins : (places : List Place) (values row next : List (List ℕ)) → Joins places values row next → joined places values row ≡ Some next
joined_joins [] [] row next j = ap (λ (r : List (List ℕ)). Some r) (sym j)
joined_joins [] (value ∷ values) row next j = absurd j
joined_joins (place ∷ places) [] row next j = absurd j
joined_joins (Const c ∷ places) (value ∷ values) row next j =
    passed (pointwise nat_eq value c) (joined places values row) next (rw j.0 (nat_list_eq_equiv.refl c)) (joined_joins places values row next j.1)
joined_joins (Col k ∷ places) (value ∷ values) row next j =
    passed (is_at (slice_get row k) value) (joined places values row) next (some_at (slice_get row k) value j.0) (joined_joins places values row next j.1)
joined_joins (New ∷ places) (value ∷ values) row next j = joined_joins places values (row ++ value ∷ []) next j

-- membership in lists joined end to end
pub in_append : {X : Type 0} (xs ys : List X) (x : X) → Contains (xs ++ ys) x → Contains xs x ⊎ Contains ys x
in_append [] ys x c = inr c
in_append (y ∷ xs) ys x c = ⊎_elim (λ e. inl (subst (λ z. Contains (y ∷ xs) z) e (contains_here y xs))) (λ h. ⊎_elim (λ l. inl (contains_there y xs x l)) inr (in_append xs ys x h)) (contains_cases y (xs ++ ys) x c)

pub append_first : {X : Type 0} (xs ys : List X) (x : X) → Contains xs x → Contains (xs ++ ys) x
append_first [] ys x c = absurd (omega arith)
append_first (y ∷ xs) ys x c = ⊎_elim (λ e. subst (λ z. Contains (y ∷ (xs ++ ys)) z) e (contains_here y (xs ++ ys))) (λ h. contains_there y (xs ++ ys) x (append_first xs ys x h)) (contains_cases y xs x c)

pub append_second : {X : Type 0} (xs ys : List X) (x : X) → Contains ys x → Contains (xs ++ ys) x
append_second [] ys x c = c
append_second (y ∷ xs) ys x c = contains_there y (xs ++ ys) x (append_second xs ys x c)

pub in_listed : {X : Type 0} (o : Option X) (x : X) → Contains (listed o) x → o ≡ Some x
in_listed None x c = absurd (omega arith)
in_listed (Some y) x c = ⊎_elim (λ e. ap (λ z. Some z) e) (λ h. absurd (no_member x h)) (contains_cases y [] x c)
  where
    no_member : {X : Type 0} (x : X) → Contains [] x → ⊥
    no_member x c = omega arith

pub listed_in : {X : Type 0} (o : Option X) (x : X) → o ≡ Some x → Contains (listed o) x
listed_in o x e = rw e (contains_here x [])

-- the rows that a partial row grows to
pub grown_joins : (places : List Place) (answer : RowList) (row next : List (List ℕ)) → Contains (grown places answer row) next → (values : List (List ℕ)) × Contains answer values × Joins places values row next
grown_joins places answer row next c =
    let (values, among, h) = joined_from (λ v. listed (joined places v row)) answer next c in
    (values, among, joins_joined places values row next (in_listed (joined places values row) next h))

pub joins_grown : (places : List Place) (answer : RowList) (row next values : List (List ℕ)) → Contains answer values → Joins places values row next → Contains (grown places answer row) next
joins_grown places answer row next values among j =
    contains_joined (λ v. listed (joined places v row)) answer values next among (listed_in (joined places values row) next (joined_joins places values row next j))

-- what is picked
module _ (facts : List Fact) (rel : ℕ) (positions : List ℕ) (values : List (List ℕ)) where
  abbrev fits_at : Fact → Bool
  fits_at f = nat_eq f.rel rel && agrees positions values f.row

  pub in_pick : (row : List (List ℕ)) → Contains (pick facts rel positions values) row → Contains facts (record { rel = rel; row = row }) × (agrees positions values row ≡ true)
  in_pick row c =
      let (fact, among, e) = contains_mapped (λ (f : Fact). f.row) (filter fits_at facts) row c in
      let r = filter_from fits_at facts fact among in
      let t = both_true (nat_eq fact.rel rel) (agrees positions values fact.row) r.1 in
      let here : fact.rel ≡ rel = grind (arith, nat_tests, t.0) in (
        subst (λ (w : List (List ℕ)). Contains facts (record { rel = rel; row = w })) e (subst (λ (n : ℕ). Contains facts (record { rel = n; row = fact.row })) here r.0),
        subst (λ (w : List (List ℕ)). agrees positions values w ≡ true) e t.1,
      )

  pub pick_in : (row : List (List ℕ)) → Contains facts (record { rel = rel; row = row }) → agrees positions values row ≡ true → Contains (pick facts rel positions values) row
  pick_in row c t = contains_map (λ (f : Fact). f.row) (filter fits_at facts) (record { rel = rel; row = row }) (contains_filter fits_at facts (record { rel = rel; row = row }) c (grind (arith, nat_tests, t)))

-- the fact has the input value at each input place
pub joins_input : (start : List (List ℕ)) (places : List Place) (values row next : List (List ℕ)) (p : ℕ) → Joins places values row next → ((k : ℕ) → k < length start → slice_get row k ≡ slice_get start k) → length start ≤ length row
    → IsInput (length start) (slice_get places p) → slice_get values p ≡ Some (input_value_or start (slice_get places p))
joins_input start [] values row next p j old long i = absurd i
joins_input start (place ∷ places) [] row next p j old long i = absurd j
joins_input start (Const c ∷ places) (value ∷ values) row next zero j old long i = ap (λ (v : List ℕ). Some v) j.0
joins_input start (Const c ∷ places) (value ∷ values) row next (suc p) j old long i = joins_input start places values row next p j.1 old long i
joins_input start (Col k ∷ places) (value ∷ values) row next zero j old long i = let e : slice_get start k ≡ Some value = sym (old k i) ∙ j.0 in rw e refl
joins_input start (Col k ∷ places) (value ∷ values) row next (suc p) j old long i = joins_input start places values row next p j.1 old long i
joins_input start (New ∷ places) (value ∷ values) row next zero j old long i = absurd i
joins_input start (New ∷ places) (value ∷ values) row next (suc p) j old long i =
    joins_input start places values (row ++ value ∷ []) next p j (λ k l. got_before row (value ∷ []) k (omega arith) ∙ old k l) (longer row value long) i
  where
    longer : (row : List (List ℕ)) (value : List ℕ) → length start ≤ length row → length start ≤ length (row ++ value ∷ [])
    longer row value l = rw (length_push row value) (omega arith)

joins_agree : (places : List Place) (values row next : List (List ℕ)) (inputs : List ℕ) → Joins places values row next → ((p : ℕ) → Contains inputs p → IsInput (length row) (slice_get places p)) → agrees inputs (input_row_of places inputs row) values ≡ true
joins_agree places values row next [] j are = refl
joins_agree places values row next (p ∷ inputs) j are =
    let here = joins_input row places values row next p j (λ k l. refl) (omega arith) (are p (contains_here p inputs)) in
    let rest = joins_agree places values row next inputs j (λ q c. are q (contains_there p inputs q c)) in
    let same = nat_list_eq_equiv.refl (input_value_or row (slice_get places p)) in
    rw here (rw same rest)

-- one step from a partial row, by the answer to its request
module _ (schema : SchemaParts) (well : IsWellFormed schema) (facts : List Fact) (step : Step) (method : Method) (named : IsMethod schema step.method method) where
  abbrev answer_of : List (List ℕ) → RowList
  answer_of row = pick facts method.rel method.inputs (input_row_of step.places method.inputs row)

  step_grown : (row next : List (List ℕ)) → Contains (grown step.places (answer_of row) row) next → StepsTo schema facts step row next
  step_grown row next c =
      let (values, among, j) = grown_joins step.places (answer_of row) row next c in
      record {
        method = method;
        fact = record { rel = method.rel; row = values };
        named = named;
        of_relation = refl;
        holds = (in_pick facts method.rel method.inputs (input_row_of step.places method.inputs row) values among).0;
        joins = j;
      }

  grown_step : (row next : List (List ℕ)) → ((p : ℕ) → Contains method.inputs p → IsInput (length row) (slice_get step.places p)) → StepsTo schema facts step row next → Contains (grown step.places (answer_of row) row) next
  grown_step row next are one =
      let same : one.method ≡ method = well.once one.method method one.named.0 named.0 (one.named.1 ∙ sym named.1) in
      let here : one.fact.rel ≡ method.rel = one.of_relation ∙ ap (λ (m : Method). m.rel) same in
      joins_grown step.places (answer_of row) row next one.fact.row
      (pick_in facts method.rel method.inputs (input_row_of step.places method.inputs row) one.fact.row (subst (λ (r : ℕ). Contains facts (record { rel = r; row = one.fact.row })) here one.holds) (joins_agree step.places one.fact.row row next method.inputs one.joins are)) one.joins

module _ (schema : SchemaParts) (facts : List Fact) where
  pub steps_length : (steps : List Step) (row last : List (List ℕ)) → LeadsTo schema facts steps row last → length last ≡ columns_after (length row) steps
  steps_length [] row last e = ap length e
  steps_length (step ∷ steps) row last (next, one, more) =
      steps_length steps next last more ∙ ap (λ n. columns_after n steps) (joins_length step.places one.fact.row row next one.joins)

  steps_push : (steps : List Step) (step : Step) (row last : List (List ℕ)) → LeadsTo schema facts (steps ++ step ∷ []) row last → (mid : List (List ℕ)) × LeadsTo schema facts steps row mid × StepsTo schema facts step mid last
  steps_push [] step row last (next, one, e) = (row, refl, subst (λ r. StepsTo schema facts step row r) (sym e) one)
  steps_push (s ∷ steps) step row last (next, one, more) = let (mid, a, b) = steps_push steps step next last more in (mid, (next, one, a), b)

  push_steps : (steps : List Step) (step : Step) (row mid last : List (List ℕ)) → LeadsTo schema facts steps row mid → StepsTo schema facts step mid last → LeadsTo schema facts (steps ++ step ∷ []) row last
  push_steps [] step row mid last e one = (last, subst (λ r. StepsTo schema facts step r last) e one, refl)
  push_steps (s ∷ steps) step row mid last (next, first, more) one = (next, first, push_steps steps step next mid last more one)

-- the values at the input positions, and the request's list of them
zip_inputs : (places : List Place) (row : List (List ℕ)) (inputs : List ℕ) (values : List (List ℕ)) → ((p : ℕ) → Contains inputs p → IsInput (length row) (slice_get places p)) → AllZip (λ p value. input_value row (slice_get places p) ≡ Some value) inputs values → values ≡ input_row_of places inputs row
zip_inputs places row [] [] are z = refl
zip_inputs places row [] (v ∷ values) are z = absurd z
zip_inputs places row (p ∷ inputs) [] are z = absurd z
zip_inputs places row (p ∷ inputs) (v ∷ values) are z =
    let here = value_is (slice_get places p) v (are p (contains_here p inputs)) z.0 in
    let rest = zip_inputs places row inputs values (λ q c. are q (contains_there p inputs q c)) z.1 in
    cc
  where
    value_is : (o : Option Place) (v : List ℕ) → IsInput (length row) o → input_value row o ≡ Some v → v ≡ input_value_or row o
    value_is None v i e = absurd i
    value_is (Some (Const c)) v i e = cc
    value_is (Some (Col k)) v i e = rw e refl
    value_is (Some New) v i e = absurd i

inputs_zip : (places : List Place) (row : List (List ℕ)) (inputs : List ℕ) → ((p : ℕ) → Contains inputs p → IsInput (length row) (slice_get places p)) → AllZip (λ p value. input_value row (slice_get places p) ≡ Some value) inputs (input_row_of places inputs row)
inputs_zip places row [] are = tt
inputs_zip places row (p ∷ inputs) are = (value_is (slice_get places p) (are p (contains_here p inputs)), inputs_zip places row inputs (λ q c. are q (contains_there p inputs q c)))
  where
    value_is : (o : Option Place) → IsInput (length row) o → input_value row o ≡ Some (input_value_or row o)
    value_is None i = absurd i
    value_is (Some (Const c)) i = refl
    value_is (Some (Col k)) i = let (v, e) = got_below row k i in rw e refl
    value_is (Some New) i = absurd i

-- a step after the partial rows
module _ (schema : SchemaParts) (well : IsWellFormed schema) (facts : List Fact) (before : List Step) (step : Step) (method : Method) (named : IsMethod schema step.method method)
    (are : (p : ℕ) → Contains method.inputs p → IsInput (columns_after 0 before) (slice_get step.places p)) where
  are_at : (row : List (List ℕ)) → LeadsTo schema facts before [] row → (p : ℕ) → Contains method.inputs p → IsInput (length row) (slice_get step.places p)
  are_at row r p c = rw (steps_length schema facts before [] row r) (are p c)

  -- the joined rows are exactly the next partial rows
  pub next_partial : (rows next : RowList) → ArePartial schema facts before rows
      → ((row : List (List ℕ)) → Contains next row ↔ Contains (next_rows step.places method facts rows) row)
      → ArePartial schema facts (before ++ step ∷ []) next
  next_partial rows next partial is last = (
    (λ c.
        let (row, among, g) = joined_from (λ r. grown step.places (answer_of schema well facts step method named r) r) rows last ((is last).0 c) in
        push_steps schema facts before step [] row last ((partial row).0 among) (step_grown schema well facts step method named row last g)),
    (λ s.
        let (row, r, one) = steps_push schema facts before step [] last s in
        (is last).1 (contains_joined (λ r. grown step.places (answer_of schema well facts step method named r) r) rows row last ((partial row).1 r) (grown_step schema well facts step method named row last (are_at row r) one))),
  )

  -- the round's list is exactly the requests of the step
  pub is_round : (rows list : RowList) → ArePartial schema facts before rows → IsWanted step.places method.inputs rows list → IsRound schema facts before step (requests_of method.rel method.inputs list)
  is_round rows list partial wanted = record {
    ascending = λ i first second e f.
        let (a, at, is) = got_mapped (λ v. record { rel = method.rel; positions = method.inputs; values = v }) list i first e in
        let next : i + 1 ≡ suc i = omega arith in
        let (b, bt, bs) = got_mapped (λ v. record { rel = method.rel; positions = method.inputs; values = v }) list (suc i) second (rw next at f) in
        let less = adjacent row_cmp list i a b wanted.ascends at bt in
        subst (λ (r : Request). row_cmp first.values r.values ≡ Less) bs (subst (λ (r : Request). row_cmp r.values b ≡ Less) is less);
    exactly = λ request. (
      (λ c.
          let (values, among, is) = contains_mapped (λ v. record { rel = method.rel; positions = method.inputs; values = v }) list request c in
          let (row, of, e) = contains_mapped (input_row_of step.places method.inputs) rows values ((wanted.same values).0 among) in
          let r = (partial row).0 of in
          let zip = inputs_zip step.places row method.inputs (are_at row r) in
          subst (λ (q : Request). Wants schema facts before step q) is (record {
            row = row;
            method = method;
            leads = r;
            named = named;
            of_relation = refl;
            positions = refl;
            values = subst (λ (v : List (List ℕ)). AllZip (λ p value. input_value row (slice_get step.places p) ≡ Some value) method.inputs v) e zip;
          })),
      (λ wants.
          let same : wants.method ≡ method = well.once wants.method method wants.named.0 named.0 (wants.named.1 ∙ sym named.1) in
          let here : request.rel ≡ method.rel = wants.of_relation ∙ ap (λ (m : Method). m.rel) same in
          let there : request.positions ≡ method.inputs = wants.positions ∙ ap (λ (m : Method). m.inputs) same in
          let values = zip_inputs step.places wants.row method.inputs request.values (are_at wants.row wants.leads) (subst (λ (ps : List ℕ). AllZip (λ p value. input_value wants.row (slice_get step.places p) ≡ Some value) ps request.values) there wants.values) in
          let among = (wanted.same request.values).1 (subst (λ (v : List (List ℕ)). Contains (map (input_row_of step.places method.inputs) rows) v) (sym values) (contains_map (input_row_of step.places method.inputs) rows wants.row ((partial wants.row).1 wants.leads))) in
          let put = contains_map (λ v. record { rel = method.rel; positions = method.inputs; values = v }) list request.values among in
          subst (λ (n : ℕ). Contains (requests_of method.rel method.inputs list) (record { rel = n; positions = request.positions; values = request.values })) (sym here)
          (subst (λ (ps : List ℕ). Contains (requests_of method.rel method.inputs list) (record { rel = method.rel; positions = ps; values = request.values })) (sym there) put)),
    );
  }

pub len_requests : (rel : ℕ) (positions : List ℕ) (list : RowList) → length (requests_of rel positions list) ≡ length list
len_requests rel positions [] = refl
len_requests rel positions (v ∷ list) = ap suc (len_requests rel positions list)

-- rows that were added
pub added_one : {X : Type 0} (f : X → List (List ℕ)) (taken : List X) (row : X) (before middle after : RowList) → HasAdded before (map f taken) middle → HasAdded middle (f row ∷ []) after → HasAdded before (map f (taken ++ row ∷ [])) after
added_one f taken row before middle after first next x =
    let e : map f (taken ++ row ∷ []) ≡ map f taken ++ f row ∷ [] = map-append f taken (row ∷ []) in (
      (λ c. ⊎_elim
          (λ m. ⊎_elim inl (λ old. inr (subst (λ (l : RowList). Contains l x) (sym e) (append_first (map f taken) (f row ∷ []) x old))) ((first x).0 m))
          (λ new. inr (subst (λ (l : RowList). Contains l x) (sym e) (append_second (map f taken) (f row ∷ []) x new)))
          ((next x).0 c)),
      ⊎_elim
          (λ b. (next x).1 (inl ((first x).1 (inl b))))
          (λ c. ⊎_elim (λ old. (next x).1 (inl ((first x).1 (inr old)))) (λ new. (next x).1 (inr new)) (in_append (map f taken) (f row ∷ []) x (subst (λ (l : RowList). Contains l x) e c))),
    )

pub added_next : {X : Type 0} (f : X → List (List ℕ)) (rows : List X) (n : ℕ) (row d : X) (before middle after : RowList) → n < length rows → row ≡ get_or rows n d
    → HasAdded before (map f (take n rows)) middle → HasAdded middle (f row ∷ []) after → HasAdded before (map f (take (n + 1) rows)) after
added_next {X} f rows n row d before middle after less at first next =
    let taken : take (n + 1) rows ≡ take n rows ++ row ∷ [] = take_more rows n d less ∙ ap (λ (r : X). take n rows ++ r ∷ []) (sym at) in
    subst (λ (l : List X). HasAdded before (map f l) after) (sym taken) (added_one f (take n rows) row before middle after first next)

pub added_none : HasAdded [] [] []
added_none = λ row. ((λ c. inl c), (λ c. ⊎_elim (λ h. h) (λ h. h) c))

-- a row that is there already
pub added_double : (before : RowList) (row : List (List ℕ)) → Contains before row → HasAdded before (row ∷ []) before
added_double before row there = λ other. (
  (λ c. inl c),
  (λ c. ⊎_elim (λ h. h) (λ d. subst (Contains before) (contains_one row other d) there) c),
)

pub added_last : (before : RowList) (row : List (List ℕ)) (after : RowList) → after ≡ before ++ row ∷ [] → HasAdded before (row ∷ []) after
added_last before row after is x = (
  (λ c. in_append before (row ∷ []) x (subst (λ (l : RowList). Contains l x) is c)),
  (λ c. subst (λ (l : RowList). Contains l x) (sym is) (⊎_elim (append_first before (row ∷ []) x) (append_second before (row ∷ []) x) c)),
)

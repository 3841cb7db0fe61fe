-- Attached relations with their rows.
use Rattle.std.proofs.Common.{◌≡◌, ◌≢◌, ◌&&◌, inl, inr, ℕ, List, [], ◌∷◌, ◌++◌, length, map, None, Some, option_map, Bool, true, false, not, nat_eq, cond, refl, sym, ◌∙◌, ap, subst, arith, append_assoc}
use Rattle.std.specs.List.{AllByRecursion, filter}
use Rattle.std.proofs.lemmas.List.{append-nil, map-append}
use Rattle.std.proofs.lemmas.List.Elements.{filter-append}
use Rattle.std.proofs.lemmas.Bool.{cases_eq}
use Rattle.std.proofs.lemmas.Bool.Decides.{nat_tests}
use Rattle.meaning.specs.declared.types.Fact.{Fact}
use Rattle.source_trait.specs.Asking.{RowList, HaveArity, facts_of, agrees, pick, without}
use Rattle.source_trait.specs.Holding.{facts_held, attachment_in, attached_in, loads_of, others_than, IsStore}
use Rattle.source_trait.specs.declared.holding.Attachment.{Attachment}

-- what is absent stays so
absent_without : (rel r : ℕ) (list : List Attachment) → attachment_in list r ≡ None → attachment_in (others_than rel list) r ≡ None
absent_without rel r [] h = refl
absent_without rel r (a ∷ rest) h = grind (arith, nat_tests, absent_without rel r rest)

pub store_without : (rel : ℕ) (list : List Attachment) → IsStore list → IsStore (others_than rel list)
store_without rel [] s = tt
store_without rel (a ∷ rest) s = elim (nat_eq a.rel rel) as (λ b. IsStore (cond (not b) (a ∷ others_than rel rest) (others_than rel rest))) [
  | true ↦ store_without rel rest s.2
  | false ↦ (absent_without rel a.rel rest s.0, s.1, store_without rel rest s.2)
]

pub gone : (rel : ℕ) (list : List Attachment) → attachment_in (others_than rel list) rel ≡ None
gone rel [] = refl
gone rel (a ∷ rest) = grind (arith, nat_tests, gone rel rest)

pub others_stay : (rel r : ℕ) (list : List Attachment) → r ≢ rel → attachment_in (others_than rel list) r ≡ attachment_in list r
others_stay rel r [] apart = refl
others_stay rel r (a ∷ rest) apart = grind (arith, nat_tests, others_stay rel r rest apart)

absent_push : (list : List Attachment) (a : Attachment) (r : ℕ) → attachment_in list r ≡ None → a.rel ≢ r → attachment_in (list ++ a ∷ []) r ≡ None
absent_push [] a r h apart = grind (arith, nat_tests)
absent_push (x ∷ rest) a r h apart = grind (arith, nat_tests, absent_push rest a r)

head_apart : (x : Attachment) (rest : List Attachment) (r : ℕ) → attachment_in (x ∷ rest) r ≡ None → (x.rel ≢ r) × (attachment_in rest r ≡ None)
head_apart x rest r h = elim (cases_eq x.rel r) [
  | inl same ↦ absurd (grind (arith, nat_tests, h, same))
  | inr apart ↦ (apart, grind (arith, nat_tests, h, apart))
]

pub store_push : (list : List Attachment) (a : Attachment) → IsStore list → attachment_in list a.rel ≡ None → HaveArity (length a.columns) a.rows → IsStore (list ++ a ∷ [])
store_push [] a s absent fit = (refl, fit, tt)
store_push (x ∷ rest) a s absent fit = let h = head_apart x rest a.rel absent in (absent_push rest a x.rel s.0 (λ e. h.0 (sym e)), s.1, store_push rest a s.2 h.1 fit)

pub attached_push : (list : List Attachment) (a : Attachment) → attachment_in list a.rel ≡ None → attachment_in (list ++ a ∷ []) a.rel ≡ Some a
attached_push [] a absent = grind (arith, nat_tests)
attached_push (x ∷ rest) a absent = let h = head_apart x rest a.rel absent in grind (arith, nat_tests, attached_push rest a h.1, h.0)

pub others_push : (list : List Attachment) (a : Attachment) (r : ℕ) → r ≢ a.rel → attachment_in (list ++ a ∷ []) r ≡ attachment_in list r
others_push [] a r apart = grind (arith, nat_tests)
others_push (x ∷ rest) a r apart = grind (arith, nat_tests, others_push rest a r apart)

pub facts_push : (list : List Attachment) (a : Attachment) → facts_held (list ++ a ∷ []) ≡ facts_held list ++ facts_of a.rel a.rows
facts_push [] a = append-nil (facts_of a.rel a.rows)
facts_push (x ∷ rest) a = ap (λ (l : List Fact). facts_of x.rel x.rows ++ l) (facts_push rest a) ∙ sym (append_assoc (facts_of x.rel x.rows) (facts_held rest) (facts_of a.rel a.rows))

without_facts : (rel r : ℕ) (rows : RowList) → without rel (facts_of r rows) ≡ cond (nat_eq r rel) [] (facts_of r rows)
without_facts rel r [] = elim (nat_eq r rel) as (λ b. without rel (facts_of r []) ≡ cond b [] (facts_of r [])) [ true ↦ refl | false ↦ refl ]
without_facts rel r (row ∷ rows) = step (nat_eq r rel) (record { rel = r; row = row }) (without rel (facts_of r rows)) (facts_of r rows) (without_facts rel r rows)
  where
    step : (b : Bool) (f : Fact) (left all : List Fact) → left ≡ cond b [] all → cond (not b) (f ∷ left) left ≡ cond b [] (f ∷ all)
    step true f left all h = h
    step false f left all h = ap (λ (l : List Fact). f ∷ l) h

pub facts_without : (rel : ℕ) (list : List Attachment) → facts_held (others_than rel list) ≡ without rel (facts_held list)
facts_without rel [] = refl
facts_without rel (a ∷ rest) =
    step (nat_eq a.rel rel) a (others_than rel rest)
    ∙ ap (λ (l : List Fact). cond (nat_eq a.rel rel) [] (facts_of a.rel a.rows) ++ l) (facts_without rel rest)
    ∙ ap (λ (l : List Fact). l ++ without rel (facts_held rest)) (sym (without_facts rel a.rel a.rows))
    ∙ sym (filter-append (λ (f : Fact). not (nat_eq f.rel rel)) (facts_of a.rel a.rows) (facts_held rest))
  where
    step : (b : Bool) (a : Attachment) (others : List Attachment) → facts_held (cond (not b) (a ∷ others) others) ≡ cond b [] (facts_of a.rel a.rows) ++ facts_held others
    step true a others = refl
    step false a others = refl

module _ (rel : ℕ) (positions : List ℕ) (values : List (List ℕ)) where
  abbrev fits_at : Fact → Bool
  fits_at f = nat_eq f.rel rel && agrees positions values f.row

  abbrev row_of : Fact → List (List ℕ)
  row_of f = f.row

  pick-append : (xs ys : List Fact) → pick (xs ++ ys) rel positions values ≡ pick xs rel positions values ++ pick ys rel positions values
  pick-append xs ys = ap (map row_of) (filter-append fits_at xs ys) ∙ map-append row_of (filter fits_at xs) (filter fits_at ys)

  pick_facts : (r : ℕ) (rows : RowList) → pick (facts_of r rows) rel positions values ≡ cond (nat_eq r rel) (filter (agrees positions values) rows) []
  pick_facts r [] = elim (nat_eq r rel) as (λ b. pick (facts_of r []) rel positions values ≡ cond b (filter (agrees positions values) []) []) [ true ↦ refl | false ↦ refl ]
  pick_facts r (row ∷ rows) = step (nat_eq r rel) (agrees positions values row) (record { rel = r; row = row }) (filter fits_at (facts_of r rows)) (filter (agrees positions values) rows) (pick_facts r rows)
    where
      step : (b t : Bool) (f : Fact) (left : List Fact) (all : RowList) → map row_of left ≡ cond b all [] → map row_of (cond (b && t) (f ∷ left) left) ≡ cond b (cond t (f.row ∷ all) all) []
      step true true f left all h = ap (λ (l : RowList). f.row ∷ l) h
      step true false f left all h = h
      step false t f left all h = h

  pub picked_none : (list : List Attachment) → attachment_in list rel ≡ None → pick (facts_held list) rel positions values ≡ []
  picked_none [] absent = refl
  picked_none (a ∷ rest) absent =
      let h = head_apart a rest rel absent in
      let other : nat_eq a.rel rel ≡ false = grind (arith, nat_tests, h.0) in
      pick-append (facts_of a.rel a.rows) (facts_held rest)
      ∙ ap (λ (l : RowList). l ++ pick (facts_held rest) rel positions values) (pick_facts a.rel a.rows ∙ ap (λ b. cond b (filter (agrees positions values) a.rows) []) other)
      ∙ picked_none rest h.1

  -- the rows of the attached relation are picked
  pub picked : (list : List Attachment) (a : Attachment) → IsStore list → attachment_in list rel ≡ Some a → pick (facts_held list) rel positions values ≡ filter (agrees positions values) a.rows
  picked [] a s at = absurd (cc)
  picked (x ∷ rest) a s at = elim (cases_eq x.rel rel) [
    | inl same ↦
        let here : nat_eq x.rel rel ≡ true = grind (arith, nat_tests, same) in
        let is : x ≡ a = grind (arith, nat_tests, at, same) in
        pick-append (facts_of x.rel x.rows) (facts_held rest)
        ∙ ap (λ (l : RowList). l ++ pick (facts_held rest) rel positions values) (pick_facts x.rel x.rows ∙ ap (λ b. cond b (filter (agrees positions values) x.rows) []) here)
        ∙ ap (λ (l : RowList). filter (agrees positions values) x.rows ++ l) (picked_none rest (subst (λ r. attachment_in rest r ≡ None) same s.0))
        ∙ append-nil (filter (agrees positions values) x.rows)
        ∙ ap (λ (y : Attachment). filter (agrees positions values) y.rows) is
    | inr apart ↦
        let other : nat_eq x.rel rel ≡ false = grind (arith, nat_tests, apart) in
        let later : attachment_in rest rel ≡ Some a = grind (arith, nat_tests, at, apart) in
        pick-append (facts_of x.rel x.rows) (facts_held rest)
        ∙ ap (λ (l : RowList). l ++ pick (facts_held rest) rel positions values) (pick_facts x.rel x.rows ∙ ap (λ b. cond b (filter (agrees positions values) x.rows) []) other)
        ∙ picked rest a s.2 later
  ]

-- the rows of an attached relation have its arity
pub rows_fit : (list : List Attachment) (rel : ℕ) (a : Attachment) → IsStore list → attachment_in list rel ≡ Some a → HaveArity (length a.columns) a.rows
rows_fit [] rel a s at = absurd (cc)
rows_fit (x ∷ rest) rel a s at = elim (cases_eq x.rel rel) [
  | inl same ↦ let is : x ≡ a = grind (arith, nat_tests, at, same) in subst (λ (y : Attachment). HaveArity (length y.columns) y.rows) is s.1
  | inr apart ↦ rows_fit rest rel a s.2 (grind (arith, nat_tests, at, apart))
]

-- a row of this arity that has the values
abbrev pub FitsAt : ℕ → List ℕ → List (List ℕ) → List (List ℕ) → Type 0
FitsAt arity positions values row = (length row ≡ arity) × (agrees positions values row ≡ true)

-- what a filter by values keeps
pub kept_fits : (arity : ℕ) (positions : List ℕ) (values : List (List ℕ)) (rows : RowList) → HaveArity arity rows → AllByRecursion (FitsAt arity positions values) (filter (agrees positions values) rows)
kept_fits arity positions values [] fit = tt
kept_fits arity positions values (row ∷ rows) fit = step (kept_fits arity positions values rows fit.1) (agrees positions values row) refl
  where
    step : AllByRecursion (FitsAt arity positions values) (filter (agrees positions values) rows) → (b : Bool) → agrees positions values row ≡ b
        → AllByRecursion (FitsAt arity positions values) (cond b (row ∷ filter (agrees positions values) rows) (filter (agrees positions values) rows))
    step rest true is = ((fit.0, is), rest)
    step rest false is = rest

-- a list with one attachment more
pub record Grows (old new : List Attachment) (rel : ℕ) (columns : List (List ℕ)) (locator : List ℕ) (rows : RowList) (size : ℕ) : Type 0 where
  pub attached : attached_in new rel ≡ Some (columns, locator)
  pub others : (r : ℕ) → r ≢ rel → attached_in new r ≡ attached_in old r
  pub facts : facts_held new ≡ facts_held old ++ facts_of rel rows
  pub loads : loads_of new ≡ loads_of old ++ (rel, size) ∷ []

pub grows : (old : List Attachment) (a : Attachment) → attachment_in old a.rel ≡ None → Grows old (old ++ a ∷ []) a.rel a.columns a.locator a.rows a.size
grows old a absent = record {
  attached = ap (option_map (λ (x : Attachment). (x.columns, x.locator))) (attached_push old a absent);
  others = λ r apart. ap (option_map (λ (x : Attachment). (x.columns, x.locator))) (others_push old a r apart);
  facts = facts_push old a;
  loads = map-append (λ (x : Attachment). (x.rel, x.size)) old (a ∷ []);
}

pub grows_by : (old new : List Attachment) (a : Attachment) (rel : ℕ) (columns : List (List ℕ)) (locator : List ℕ) (rows : RowList) (size : ℕ) → a ≡ record { rel = rel; columns = columns; locator = locator; rows = rows; size = size }
    → new ≡ old ++ a ∷ [] → attachment_in old rel ≡ None → Grows old new rel columns locator rows size
grows_by old new a rel columns locator rows size is now absent =
    let whole : Attachment = record { rel = rel; columns = columns; locator = locator; rows = rows; size = size } in
    subst (λ (l : List Attachment). Grows old l rel columns locator rows size) (sym (now ∙ ap (λ (x : Attachment). old ++ x ∷ []) is)) (grows old whole absent)

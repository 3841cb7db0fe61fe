-- An answer parted by the values at its known places.
use Rattle.std.proofs.Common.{◌≡◌, inl, inr, ◌<◌, ◌+◌, ◌∙◌, ℕ, List, [], ◌∷◌, ◌++◌, length, map, take, get_or, Option, None, Some, Bool, true, false, cond, Vec, Global, refl, sym, ap, subst, arith}
use Rattle.std.specs.Prelude.{Contains, slice_get, flat_map}
use Rattle.std.proofs.lemmas.List.{append-nil, take_more}
use Rattle.std.proofs.lemmas.List.Concat.{flat_map-append}
use Rattle.std.proofs.lemmas.Option.{slice_get-get_or}
use Rattle.lists.proofs.Members.{contains_here, contains_there, contains_cases, contains_got, contains_map, map_same, contains_none}
use Rattle.lists.proofs.Orders.{rows_equiv, rows_same_equal}
use Rattle.meaning.specs.declared.types.Place.{Place}
use Rattle.source_trait.specs.Asking.{RowList}
use Rattle.row_text.specs.RowText.{row_eq}
use Rattle.middleware.specs.Joining.{OthersAreEmpty, joined, listed, grown, text_or, input_value_or, input_row_of}
use Rattle.middleware.specs.Branches.{HasAdded, IsInput}
use Rattle.middleware.specs.Parts.{key_of, part_of}
use Rattle.middleware.proofs.Steps.{joins_joined, joins_input}
use Rattle.middleware.proofs.Whole.{answer_is}

module _ (places : List Place) (columns : ℕ) where
  abbrev AreKnown : List ℕ → Type 0
  AreKnown known = (p : ℕ) → Contains known p → IsInput columns (slice_get places p)

  pub known_more : (old new pushed : Vec ℕ Global) (x : ℕ) → new ≡ pushed → pushed.items ≡ old.items ++ x ∷ [] → IsInput columns (slice_get places x) → AreKnown old.items → AreKnown new.items
  known_more old new pushed x same is here each p c = push old.items each (subst (λ (l : List ℕ). Contains l p) is (subst (λ (v : Vec ℕ Global). Contains v.items p) same c))
    where
      push : (old : List ℕ) → AreKnown old → Contains (old ++ x ∷ []) p → IsInput columns (slice_get places p)
      push [] each c = elim (contains_cases x [] p c) [
        | inl e ↦ subst (λ q. IsInput columns (slice_get places q)) e here
        | inr d ↦ absurd (contains_none p d)
      ]
      push (y ∷ old) each c = elim (contains_cases y (old ++ x ∷ []) p c) [
        | inl e ↦ each p (subst (λ z. Contains (y ∷ old) z) e (contains_here y old))
        | inr d ↦ push old (λ q among. each q (contains_there y old q among)) d
      ]

  pub kept_known : (old new : Vec ℕ Global) → new ≡ old → AreKnown old.items → AreKnown new.items
  kept_known old new same each = subst (λ (v : Vec ℕ Global). AreKnown v.items) (sym same) each

-- a key that no row of the answer has
part_less : (positions : List ℕ) (row : List (List ℕ)) (answer : RowList) (key : List (List ℕ)) (b : Bool) → row_eq (key_of positions row) key ≡ b → (key_of positions row ≡ key → ⊥)
    → part_of positions answer key ≡ [] → cond b (row ∷ part_of positions answer key) (part_of positions answer key) ≡ []
part_less positions row answer key true e other rest = absurd (other (rows_same_equal (key_of positions row) key e))
part_less positions row answer key false e other rest = rest

pub part_none : (positions : List ℕ) (answer : RowList) (key : List (List ℕ)) → (Contains (map (key_of positions) answer) key → ⊥) → part_of positions answer key ≡ []
part_none positions [] key absent = refl
part_none positions (row ∷ answer) key absent =
    let first = key_of positions row in
    let keys = map (key_of positions) answer in
    part_less positions row answer key (row_eq first key) refl (λ e. absent (subst (λ k. Contains (first ∷ keys) k) e (contains_here first keys)))
    (part_none positions answer key (λ c. absent (contains_there first keys key c)))

pub others_of_keys : (places : List Place) (positions : List ℕ) (answer rows list : RowList) → list ≡ map (key_of positions) answer → OthersAreEmpty places positions list rows (part_of positions answer)
others_of_keys places positions answer rows list is = λ row among absent.
    let key = input_row_of places positions row in
    part_none positions answer key (subst (λ (l : RowList). Contains l key → ⊥) is absent)

pub others_of_rows : (places : List Place) (positions : List ℕ) (answer rows list : RowList) → HasAdded [] (map (input_row_of places positions) rows) list → OthersAreEmpty places positions list rows (part_of positions answer)
others_of_rows places positions answer rows list is = λ row among absent.
    let key = input_row_of places positions row in
    absurd (absent ((is key).1 (inr (contains_map (input_row_of places positions) rows row among))))

-- ---- the rows that a partial row grows to

module _ (places : List Place) (known : List ℕ) (row : List (List ℕ)) (are : (p : ℕ) → Contains known p → IsInput (length row) (slice_get places p)) where
  key_same : (values next : List (List ℕ)) → joined places values row ≡ Some next → key_of known values ≡ input_row_of places known row
  key_same values next is = map_same (λ p. text_or (slice_get values p)) (λ p. input_value_or row (slice_get places p)) known
      (λ p c. ap text_or (joins_input row places values row next p (joins_joined places values row next is) (λ k l. refl) (omega arith) (are p c)))

  listed_part : (values : List (List ℕ)) (b : Bool) → row_eq (key_of known values) (input_row_of places known row) ≡ b → (rest all : RowList) → grown places rest row ≡ grown places all row
      → grown places (cond b (values ∷ rest) rest) row ≡ grown places (values ∷ all) row
  listed_part values true e rest all same = ap (λ (l : RowList). listed (joined places values row) ++ l) same
  listed_part values false e rest all same = go (joined places values row) refl
    where
      go : (o : Option (List (List ℕ))) → joined places values row ≡ o → grown places rest row ≡ listed (joined places values row) ++ grown places all row
      go None is = rw is same
      go (Some next) is = absurd (clash (sym e ∙ subst (λ k. row_eq (key_of known values) k ≡ true) (key_same values next is) (rows_equiv.refl (key_of known values))))
        where
          clash : false ≡ true → ⊥
          clash h = cc

  -- by its part of the answer alone
  pub grown_part : (answer : RowList) → grown places (part_of known answer (input_row_of places known row)) row ≡ grown places answer row
  grown_part [] = refl
  grown_part (values ∷ answer) = listed_part values (row_eq (key_of known values) (input_row_of places known row)) refl (part_of known answer (input_row_of places known row)) answer (grown_part answer)

flat_same : {X Y : Type 0} (f g : X → List Y) (xs : List X) → ((x : X) → Contains xs x → f x ≡ g x) → flat_map f xs ≡ flat_map g xs
flat_same f g [] same = refl
flat_same f g (x ∷ xs) same =
    let here = same x (contains_here x xs) in
    ap (λ (l : List _). l ++ flat_map f xs) here ∙ ap (λ (l : List _). g x ++ l) (flat_same f g xs (λ y c. same y (contains_there x xs y c)))

pub grown_parts : (places : List Place) (known : List ℕ) (rows answer : RowList) → ((row : List (List ℕ)) (p : ℕ) → Contains rows row → Contains known p → IsInput (length row) (slice_get places p))
    → flat_map (λ row. grown places (part_of known answer (input_row_of places known row)) row) rows ≡ flat_map (grown places answer) rows
grown_parts places known rows answer are =
    flat_same (λ row. grown places (part_of known answer (input_row_of places known row)) row) (grown places answer) rows (λ row c. grown_part places known row (λ p d. are row p c d) answer)

-- the one answer is that to each row's request
pub only_grown : (places : List Place) (inputs : List ℕ) (requests rows : RowList) (answers : List RowList) (only : RowList) (f : List (List ℕ) → RowList)
    → answers ≡ only ∷ [] → answers ≡ map f requests → ((row : List (List ℕ)) → Contains rows row → Contains requests (input_row_of places inputs row))
    → flat_map (grown places only) rows ≡ flat_map (λ row. grown places (f (input_row_of places inputs row)) row) rows
only_grown places inputs requests rows answers only f one is asked =
    flat_same (grown places only) (λ row. grown places (f (input_row_of places inputs row)) row) rows
    (λ row c. ap (λ (l : RowList). grown places l row) (answer_is f requests only (input_row_of places inputs row) (sym one ∙ is) (asked row c)))

-- ---- the partial rows joined one by one

module _ (places : List Place) (inputs : List ℕ) (f : List (List ℕ) → RowList) (rows : RowList) (n : ℕ) (row values : List (List ℕ)) (less : n < length rows) (at : row ≡ get_or rows n [])
    (key : values ≡ input_row_of places inputs row) (old new : RowList) where
  abbrev to : List (List ℕ) → RowList
  to r = grown places (f (input_row_of places inputs r)) r

  one_more : flat_map to (take (n + 1) rows) ≡ flat_map to (take n rows) ++ to row
  one_more =
      ap (flat_map to) (take_more rows n [] less) ∙ flat_map-append to (take n rows) (get_or rows n [] ∷ [])
      ∙ ap (λ (l : RowList). flat_map to (take n rows) ++ l) (append-nil (to (get_or rows n [])) ∙ ap to (sym at))

  -- the row's request has this answer
  pub joined_there : old ≡ flat_map to (take n rows) → (found : RowList) → found ≡ f values → new ≡ old ++ grown places found row → new ≡ flat_map to (take (n + 1) rows)
  joined_there so_far found same is =
      is ∙ ap (λ (l : RowList). l ++ grown places found row) so_far
      ∙ ap (λ (l : RowList). flat_map to (take n rows) ++ grown places l row) (same ∙ ap f key) ∙ sym one_more

  -- the row's request is not there
  pub joined_absent : old ≡ flat_map to (take n rows) → (requests : RowList) → OthersAreEmpty places inputs requests rows f → (Contains requests values → ⊥) → new ≡ old
      → new ≡ flat_map to (take (n + 1) rows)
  joined_absent so_far requests others absent is =
      let among : Contains rows row = contains_got rows n row (slice_get-get_or rows n [] less ∙ ap (λ v. Some v) (sym at)) in
      let none : f (input_row_of places inputs row) ≡ [] = others row among (subst (λ v. Contains requests v → ⊥) key absent) in
      is ∙ so_far ∙ sym (append-nil (flat_map to (take n rows))) ∙ ap (λ (l : RowList). flat_map to (take n rows) ++ grown places l row) (sym none) ∙ sym one_more

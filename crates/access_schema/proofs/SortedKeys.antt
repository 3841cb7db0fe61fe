-- The rule of a foreign key that pairs columns of one sort is sorted.
use Rattle.std.proofs.Common.{◌≡◌, ◌⊎◌, ◌+◌, ◌<◌, ◌≤◌, ◌∙◌, sym, ap, subst, ℕ, zero, suc, List, [], ◌∷◌, ◌++◌, Bool, true, false, Option, Some, None, length, slice_get, get_or, map, refl, arith, inl, inr, ⊎_elim}
use Rattle.std.specs.Prelude.{Contains}
use Rattle.std.specs.List.{range_with_len, zip}
use Rattle.std.proofs.lemmas.Bool.{cases_Bool, cases_lt}
use Rattle.std.proofs.lemmas.Option.{slice_get_within}
use Rattle.meaning.specs.declared.types.Relation.{Relation}
use Rattle.meaning.specs.declared.types.Atom.{Atom}
use Rattle.meaning.specs.declared.types.Term.{Term}
use Rattle.meaning.specs.declared.types.Term.TheVariants.{Var, Const}
use Rattle.meaning.specs.declared.types.Sort.{Sort}
use Rattle.meaning.specs.declared.types.Sort.TheVariants.{Text, Int}
use Rattle.meaning.specs.declared.types.SchemaParts.{SchemaParts}
use Rattle.meaning.specs.Sorts.{HoldsIntegers, RuleIsSorted}
use Rattle.access_schema.specs.Names.{AllDiffer}
use Rattle.access_schema.specs.Lists.{is_among, place_of}
use Rattle.access_schema.specs.Content.{number_of, columns_of, sorts_of, key_number, next_number, key_terms, key_rule}
use Rattle.access_schema.specs.Faults.{is_unknown}
use Rattle.access_schema.specs.SortFaults.{sort_at, are_two, pairs_two_sorts}
use Rattle.lists.proofs.Members.{some_injective, contains_got, contains_cases, got_below}
use Rattle.lists.proofs.Orders.{text_is}
use Rattle.access_schema.proofs.Texts.{place_holds, contains_among, none_at}
use Rattle.access_schema.proofs.Numbering.{place_among}
use Rattle.access_schema.proofs.Paired.{got_zip, int_there, there_int}

-- the text stands at its place
text_there : (texts : List (List ℕ)) (text : List ℕ) → is_among texts text ≡ true → slice_get texts (place_of texts text) ≡ Some text
text_there texts text among = let (found, at, holds) = place_holds _ texts among in at ∙ ap Some (text_is found text holds)

got_read : {X : Type 0} (xs : List X) (k : ℕ) (d : X) → k < length xs → slice_get xs k ≡ Some (get_or xs k d)
got_read [] k d lt = absurd (omega arith)
got_read (x ∷ xs) zero d lt = refl
got_read (x ∷ xs) (suc k) d lt = got_read xs k d (omega arith)

-- the variable at a place of the range
range_at : (from count place x : ℕ) → slice_get (map Var (range_with_len from count)) place ≡ Some (Var x) → (x ≡ from + place) × (place < count)
range_at from zero place x at = absurd (cc)
range_at from (suc count) zero x at = let same : from ≡ x = cc in (omega arith, omega arith)
range_at from (suc count) (suc place) x at = let (is, lt) = range_at (from + 1) count place x at in (omega arith, omega arith)

no_range : (from count place : ℕ) (c : List ℕ) → slice_get (map Var (range_with_len from count)) place ≡ Some (Const c) → ⊥
no_range from zero place c at = cc
no_range from (suc count) zero c at = cc
no_range from (suc count) (suc place) c at = no_range (from + 1) count place c at

module _ (own columns targets : List (List ℕ)) where
  no_key : (next : ℕ) (left : List (List ℕ)) (place : ℕ) (c : List ℕ) → slice_get (key_terms own columns targets next left) place ≡ Some (Const c) → ⊥
  no_key next [] place c at = cc
  no_key next (column ∷ left) zero c at = cc
  no_key next (column ∷ left) (suc place) c at = no_key (next_number targets next column) left place c at

  number_is : (next : ℕ) (column : List ℕ) →
      ((is_among targets column ≡ true) × (key_number own columns targets next column ≡ place_of own (get_or columns (place_of targets column) [])) × (next_number targets next column ≡ next))
      ⊎ ((is_among targets column ≡ false) × (key_number own columns targets next column ≡ next) × (next_number targets next column ≡ next + 1))
  number_is next column = ⊎_elim
      (λ (here : is_among targets column ≡ true). inl (here, rw here refl, rw here refl))
      (λ (other : is_among targets column ≡ false). inr (other, rw other refl, rw other refl))
      (cases_Bool (is_among targets column))

  -- a variable of the target is that of the matching column, or a new one
  key_at : (next : ℕ) (left : List (List ℕ)) (place x : ℕ) → slice_get (key_terms own columns targets next left) place ≡ Some (Var x) →
      (column : List ℕ) × (slice_get left place ≡ Some column) × (((is_among targets column ≡ true) × (x ≡ place_of own (get_or columns (place_of targets column) []))) ⊎ (next ≤ x))
  key_at next [] place x at = absurd (cc)
  key_at next (column ∷ left) zero x at =
      let same : key_number own columns targets next column ≡ x = cc in (
        column,
        refl,
        ⊎_elim
            (λ (among, is, on). inl (among, sym same ∙ is))
            (λ (other, is, on). inr (omega arith))
            (number_is next column),
      )
  key_at next (column ∷ left) (suc place) x at =
      let (later, there, which) = key_at (next_number targets next column) left place x at in (
        later,
        there,
        ⊎_elim
            (λ matched. inl matched)
            (λ new. inr (⊎_elim (λ (among, is, on). omega arith) (λ (other, is, on). omega arith) (number_is next column)))
            which,
      )

  -- a new variable at the first place stands at no later one
  key_first : ((column : List ℕ) → is_among targets column ≡ true → place_of own (get_or columns (place_of targets column) []) < length own)
      → (next : ℕ) (column : List ℕ) (left : List (List ℕ)) (q x : ℕ) → length own ≤ next → length own ≤ x
      → Some (Var (key_number own columns targets next column)) ≡ Some (Var x) → slice_get (key_terms own columns targets (next_number targets next column) left) q ≡ Some (Var x) → ⊥
  key_first within next column left q x above new at_p at_q =
      let same : key_number own columns targets next column ≡ x = cc in
      ⊎_elim
      (λ (among, is, on). let lt = within column among in omega arith)
      (λ (other, is, on).
      let (later, there, which) = key_at (next_number targets next column) left q x at_q in
      ⊎_elim (λ (among, number). let lt = within later among in omega arith) (λ (le : next_number targets next column ≤ x). omega arith) which)
      (number_is next column)

  -- a new variable stands at one place
  key_once : ((column : List ℕ) → is_among targets column ≡ true → place_of own (get_or columns (place_of targets column) []) < length own)
      → (next : ℕ) (left : List (List ℕ)) (p q x : ℕ) → length own ≤ next → length own ≤ x
      → slice_get (key_terms own columns targets next left) p ≡ Some (Var x) → slice_get (key_terms own columns targets next left) q ≡ Some (Var x) → p ≡ q
  key_once within next [] p q x above new at_p at_q = absurd (cc)
  key_once within next (column ∷ left) zero zero x above new at_p at_q = refl
  key_once within next (column ∷ left) zero (suc q) x above new at_p at_q = absurd (key_first within next column left q x above new at_p at_q)
  key_once within next (column ∷ left) (suc p) zero x above new at_p at_q = absurd (key_first within next column left p x above new at_q at_p)
  key_once within next (column ∷ left) (suc p) (suc q) x above new at_p at_q =
      let more : length own ≤ next_number targets next column = ⊎_elim (λ (among, is, on). omega arith) (λ (other, is, on). omega arith) (number_is next column) in
      ap suc (key_once within (next_number targets next column) left p q x more new at_p at_q)

same_sort : (one other : Sort) → are_two (Some one) (Some other) ≡ false → one ≡ other
same_sort Int Int is = refl
same_sort Text Text is = refl
same_sort Int Text is = absurd (cc)
same_sort Text Int is = absurd (cc)

module _ (schema : SchemaParts) (line : ℕ) (relation : List ℕ) (columns : List (List ℕ)) (target : List ℕ) (targets : List (List ℕ))
    (known : is_unknown schema.relations relation ≡ false) (known_target : is_unknown schema.relations target ≡ false)
    (own_long : length (sorts_of schema.relations relation) ≡ length (columns_of schema.relations relation))
    (target_long : length (sorts_of schema.relations target) ≡ length (columns_of schema.relations target))
    (differ : AllDiffer (columns_of schema.relations target))
    (lists : length columns ≡ length targets)
    (of_own : (column : List ℕ) → Contains columns column → is_among (columns_of schema.relations relation) column ≡ true)
    (one_sort : pairs_two_sorts schema.relations relation columns target targets ≡ false) where
  -- the column that is paired with a target column
  paired : (column : List ℕ) → is_among targets column ≡ true → (slice_get columns (place_of targets column) ≡ Some (get_or columns (place_of targets column) [])) × (is_among (columns_of schema.relations relation) (get_or columns (place_of targets column) []) ≡ true)
  paired column among =
      let lt : place_of targets column < length columns = let in_targets = place_among targets column among in omega arith in
      let at = got_read columns (place_of targets column) [] lt in
      (at, of_own (get_or columns (place_of targets column) []) (contains_got columns (place_of targets column) _ at))

  paired_within : (column : List ℕ) → is_among targets column ≡ true → place_of (columns_of schema.relations relation) (get_or columns (place_of targets column) []) < length (columns_of schema.relations relation)
  paired_within column among = place_among (columns_of schema.relations relation) _ (paired column among).1

  -- a matched variable stands at columns of one sort
  matched_sort : (q x : ℕ) → slice_get (key_terms (columns_of schema.relations relation) columns targets (length (columns_of schema.relations relation)) (columns_of schema.relations target)) q ≡ Some (Var x)
      → x < length (columns_of schema.relations relation) → slice_get (sorts_of schema.relations relation) x ≡ slice_get (sorts_of schema.relations target) q
  matched_sort q x at low =
      let own : List (List ℕ) = columns_of schema.relations relation in
      let others : List (List ℕ) = columns_of schema.relations target in
      let (column, there, which) = key_at own columns targets (length own) others q x at in
      ⊎_elim
      (λ (among, is).
      let other : List ℕ = get_or columns (place_of targets column) [] in
      let (at_place, of) = paired column among in
      let pair = contains_got (zip columns targets) (place_of targets column) (other, column) (got_zip columns targets (place_of targets column) other column at_place (text_there targets column among)) in
      let free : are_two (sort_at schema.relations relation other) (sort_at schema.relations target column) ≡ false =
      none_at (λ (pair : List ℕ × List ℕ). are_two (sort_at schema.relations relation pair.0) (sort_at schema.relations target pair.1)) (zip columns targets) (other, column) one_sort pair in
      let place : place_of others column ≡ q = differ (place_of others column) q column (text_there others column (contains_among others column (contains_got others q column there))) there in
      let (one, at_one) = got_below (sorts_of schema.relations relation) x (omega arith) in
      let within = slice_get_within others q column there in
      let (two, at_two) = got_below (sorts_of schema.relations target) q (omega arith) in
      let first : sort_at schema.relations relation other ≡ Some one = ap (slice_get (sorts_of schema.relations relation)) (sym is) ∙ at_one in
      let second : sort_at schema.relations target column ≡ Some two = ap (slice_get (sorts_of schema.relations target)) place ∙ at_two in
      let same : one ≡ two = same_sort one two (rw (first, second) at free) in
      at_one ∙ ap Some same ∙ sym at_two)
      (λ new. absurd (omega arith))
      which

  abbrev body_atom : Atom
  body_atom = record { rel = number_of schema.relations relation; terms = map Var (range_with_len 0 (length (columns_of schema.relations relation))) }

  abbrev head_atom : Atom
  head_atom = record { rel = number_of schema.relations target; terms = key_terms (columns_of schema.relations relation) columns targets (length (columns_of schema.relations relation)) (columns_of schema.relations target) }

  one_of : (atom : Atom) → Contains ((body_atom ∷ []) ++ (head_atom ∷ [])) atom → (body_atom ≡ atom) ⊎ (head_atom ≡ atom)
  one_of atom there = ⊎_elim
      (λ same. inl same)
      (λ later. ⊎_elim (λ same. inr same) (λ none. absurd (omega arith)) (contains_cases head_atom [] atom later))
      (contains_cases body_atom (head_atom ∷ []) atom there)

  body_body : (x p q : ℕ) → slice_get body_atom.terms p ≡ Some (Var x) → slice_get body_atom.terms q ≡ Some (Var x) → HoldsIntegers schema body_atom.rel p → HoldsIntegers schema body_atom.rel q
  body_body x p q at_p at_q holds =
      let (is_p, low_p) = range_at 0 (length (columns_of schema.relations relation)) p x at_p in
      let (is_q, low_q) = range_at 0 (length (columns_of schema.relations relation)) q x at_q in
      let same : p ≡ q = omega arith in
      subst (HoldsIntegers schema body_atom.rel) same holds

  body_head : (x p q : ℕ) → slice_get body_atom.terms p ≡ Some (Var x) → slice_get head_atom.terms q ≡ Some (Var x) → HoldsIntegers schema body_atom.rel p → HoldsIntegers schema head_atom.rel q
  body_head x p q at_p at_q holds =
      let (is_p, low_p) = range_at 0 (length (columns_of schema.relations relation)) p x at_p in
      let same : p ≡ x = omega arith in
      there_int schema target q known_target (sym (matched_sort q x at_q (omega arith)) ∙ int_there schema relation x (subst (HoldsIntegers schema body_atom.rel) same holds))

  head_body : (x p q : ℕ) → slice_get head_atom.terms p ≡ Some (Var x) → slice_get body_atom.terms q ≡ Some (Var x) → HoldsIntegers schema head_atom.rel p → HoldsIntegers schema body_atom.rel q
  head_body x p q at_p at_q holds =
      let (is_q, low_q) = range_at 0 (length (columns_of schema.relations relation)) q x at_q in
      let same : x ≡ q = omega arith in
      subst (HoldsIntegers schema body_atom.rel) same (there_int schema relation x known (matched_sort p x at_p (omega arith) ∙ int_there schema target p holds))

  head_head : (x p q : ℕ) → slice_get head_atom.terms p ≡ Some (Var x) → slice_get head_atom.terms q ≡ Some (Var x) → HoldsIntegers schema head_atom.rel p → HoldsIntegers schema head_atom.rel q
  head_head x p q at_p at_q holds = ⊎_elim
      (λ low. there_int schema target q known_target (sym (matched_sort q x at_q low) ∙ matched_sort p x at_p low ∙ int_there schema target p holds))
      (λ new. subst (HoldsIntegers schema head_atom.rel)
      (key_once (columns_of schema.relations relation) columns targets paired_within (length (columns_of schema.relations relation)) (columns_of schema.relations target) p q x (omega arith) new at_p at_q) holds)
      (cases_lt x (length (columns_of schema.relations relation)))

  pub key_is_sorted : RuleIsSorted schema (key_rule schema.relations line relation columns target targets)
  key_is_sorted = record {
    constants = λ atom there place c holds at. ⊎_elim
        (λ (is : body_atom ≡ atom). absurd (no_range 0 (length (columns_of schema.relations relation)) place c (subst (λ (a : Atom). slice_get a.terms place ≡ Some (Const c)) (sym is) at)))
        (λ (is : head_atom ≡ atom). absurd (no_key (columns_of schema.relations relation) columns targets (length (columns_of schema.relations relation)) (columns_of schema.relations target) place c (subst (λ (a : Atom). slice_get a.terms place ≡ Some (Const c)) (sym is) at)))
        (one_of atom there);
    variables = λ x p q one other in_one in_other at_one at_other holds. ⊎_elim
        (λ (is : body_atom ≡ one). ⊎_elim
        (λ (same : body_atom ≡ other). subst (λ (a : Atom). HoldsIntegers schema a.rel q) same (body_body x p q (begin one body_atom (sym is) p x at_one) (begin other body_atom (sym same) q x at_other) (place one body_atom (sym is) p holds)))
        (λ (same : head_atom ≡ other). subst (λ (a : Atom). HoldsIntegers schema a.rel q) same (body_head x p q (begin one body_atom (sym is) p x at_one) (begin other head_atom (sym same) q x at_other) (place one body_atom (sym is) p holds)))
        (one_of other in_other))
        (λ (is : head_atom ≡ one). ⊎_elim
        (λ (same : body_atom ≡ other). subst (λ (a : Atom). HoldsIntegers schema a.rel q) same (head_body x p q (begin one head_atom (sym is) p x at_one) (begin other body_atom (sym same) q x at_other) (place one head_atom (sym is) p holds)))
        (λ (same : head_atom ≡ other). subst (λ (a : Atom). HoldsIntegers schema a.rel q) same (head_head x p q (begin one head_atom (sym is) p x at_one) (begin other head_atom (sym same) q x at_other) (place one head_atom (sym is) p holds)))
        (one_of other in_other))
        (one_of one in_one);
  } where
    begin : (atom other : Atom) → atom ≡ other → (k x : ℕ) → slice_get atom.terms k ≡ Some (Var x) → slice_get other.terms k ≡ Some (Var x)
    begin atom other same k x at = subst (λ (a : Atom). slice_get a.terms k ≡ Some (Var x)) same at

    place : (atom other : Atom) → atom ≡ other → (k : ℕ) → HoldsIntegers schema atom.rel k → HoldsIntegers schema other.rel k
    place atom other same k holds = subst (λ (a : Atom). HoldsIntegers schema a.rel k) same holds

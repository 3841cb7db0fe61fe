-- Lists of texts: whether a text is among them, places, repetitions, and each text once.
use Rattle.std.proofs.Common.{◌≡◌, ◌⊎◌, ◌+◌, ◌≤◌, ◌∙◌, sym, ap, subst, ℕ, zero, suc, List, [], ◌∷◌, ◌++◌, Bool, true, false, ◌||◌, Some, length, refl, arith, inl, inr, ⊎_elim, slice_get, nat_eq}
use Rattle.std.specs.Prelude.{Contains}
use Rattle.std.specs.List.{list_any, position_or_len, find}
use Rattle.std.specs.Cmp.Lexicographic.{pointwise, bytes_decides, nat_list_eq_equiv}
use Rattle.std.specs.List.{IsDistinct, AllByRecursion}
use Rattle.std.proofs.lemmas.Bool.{cases_Bool}
use Rattle.std.proofs.lemmas.Map.Made.{length-le_from_is_member}
use Rattle.std.proofs.lemmas.List.Elements.{Contains-push, Contains-push_cases, Contains-append_left}
use Rattle.access_schema.specs.Names.{AllDiffer}
use Rattle.access_schema.specs.Lists.{is_among, repeats, once_after}
use Rattle.lists.proofs.Members.{contains_here, contains_there, contains_cases, contains_got}
use Rattle.lists.proofs.Booleans.{both_false, one_true}
use Rattle.lists.proofs.Orders.{text_is}
use Rattle.lists.proofs.Places.{got_contained}

pub text_same : (a : List ℕ) → pointwise nat_eq a a ≡ true
text_same a = (bytes_decides a a).1 refl

module _ {X : Type 0} (p : X → Bool) where
  pub any_found : (xs : List X) → list_any p xs ≡ true → (x : X) × Contains xs x × (p x ≡ true)
  any_found [] any = absurd (cc)
  any_found (x ∷ xs) any = ⊎_elim
      (λ here. (x, contains_here x xs, here))
      (λ later. let (y, among, holds) = any_found xs later in (y, contains_there x xs y among, holds))
      (one_true (p x) (list_any p xs) any)

  pub any_at : (xs : List X) (x : X) → Contains xs x → p x ≡ true → list_any p xs ≡ true
  any_at [] x among holds = absurd (omega arith)
  any_at (y ∷ xs) x among holds = ⊎_elim
      (λ same. let here : p y ≡ true = ap p same ∙ holds in rw here refl)
      (λ later. let rest : list_any p xs ≡ true = any_at xs x later holds in or_right (p y) (list_any p xs) rest)
      (contains_cases y xs x among) where
        or_right : (a b : Bool) → b ≡ true → (a || b) ≡ true
        or_right true b is = refl
        or_right false b is = is

  pub none_at : (xs : List X) (x : X) → list_any p xs ≡ false → Contains xs x → p x ≡ false
  none_at xs x none among = ⊎_elim (λ holds. absurd (let any = any_at xs x among holds in cc)) (λ fails. fails) (cases_Bool (p x))

  -- the first place of a test that something passes holds it
  pub place_holds : (xs : List X) → list_any p xs ≡ true → (x : X) × (slice_get xs (position_or_len p xs) ≡ Some x) × (p x ≡ true)
  place_holds [] any = absurd (cc)
  place_holds (x ∷ xs) any = ⊎_elim
      (λ (here : p x ≡ true). (x, (rw here refl), here))
      (λ (other : p x ≡ false).
      let rest : list_any p xs ≡ true = rw other at any in
      let (y, at, holds) = place_holds xs rest in
      (y, (rw other (let e : 1 + position_or_len p xs ≡ suc (position_or_len p xs) = omega arith in rw e at)), holds))
      (cases_Bool (p x))

  pub find_place : (xs : List X) (x : X) → slice_get xs (position_or_len p xs) ≡ Some x → find p xs ≡ Some x
  find_place [] x at = absurd (cc)
  find_place (y ∷ xs) x at = ⊎_elim
      (λ (here : p y ≡ true). let first : Some y ≡ Some x = rw here at at in rw here first)
      (λ (other : p y ≡ false).
      let e : 1 + position_or_len p xs ≡ suc (position_or_len p xs) = omega arith in
      let later : slice_get (y ∷ xs) (1 + position_or_len p xs) ≡ Some x = rw other at at in
      let rest : slice_get xs (position_or_len p xs) ≡ Some x = rw e at later in
      rw other (find_place xs x rest))
      (cases_Bool (p y))

pub among_contains : (texts : List (List ℕ)) (text : List ℕ) → is_among texts text ≡ true → Contains texts text
among_contains texts text among =
    let (other, there, same) = any_found (λ other. pointwise nat_eq other text) texts among in
    subst (Contains texts) (text_is other text same) there

pub contains_among : (texts : List (List ℕ)) (text : List ℕ) → Contains texts text → is_among texts text ≡ true
contains_among texts text there = any_at (λ other. pointwise nat_eq other text) texts text there (text_same text)

pub not_among : (texts : List (List ℕ)) (text : List ℕ) → is_among texts text ≡ false → Contains texts text → ⊥
not_among texts text none there = let any = contains_among texts text there in cc

-- a list that repeats nothing has each member at one place
pub differ_from_repeats : (texts : List (List ℕ)) → repeats texts ≡ false → AllDiffer texts
differ_from_repeats [] none i j member at_i at_j = absurd (cc)
differ_from_repeats (text ∷ texts) none zero zero member at_i at_j = refl
differ_from_repeats (text ∷ texts) none zero (suc j) member at_i at_j =
    let (free, rest) = both_false _ _ none in
    let same : text ≡ member = cc in
    absurd (not_among texts text free (subst (Contains texts) (sym same) (contains_got texts j member at_j)))
differ_from_repeats (text ∷ texts) none (suc i) zero member at_i at_j =
    let (free, rest) = both_false _ _ none in
    let same : text ≡ member = cc in
    absurd (not_among texts text free (subst (Contains texts) (sym same) (contains_got texts i member at_i)))
differ_from_repeats (text ∷ texts) none (suc i) (suc j) member at_i at_j =
    let (free, rest) = both_false _ _ none in
    let same = differ_from_repeats texts rest i j member at_i at_j in omega arith

got_push_cases : {X : Type 0} (xs : List X) (x member : X) (i : ℕ) → slice_get (xs ++ x ∷ []) i ≡ Some member → (slice_get xs i ≡ Some member) ⊎ ((i ≡ length xs) × (x ≡ member))
got_push_cases [] x member zero at = inr (refl, cc)
got_push_cases [] x member (suc i) at = absurd (cc)
got_push_cases (y ∷ xs) x member zero at = inl at
got_push_cases (y ∷ xs) x member (suc i) at = ⊎_elim (λ inside. inl inside) (λ (last, same). inr (omega arith, same)) (got_push_cases xs x member i at)

-- a list with a new member behind it
pub differ_push : {X : Type 0} (xs : List X) (x : X) → AllDiffer xs → (Contains xs x → ⊥) → AllDiffer (xs ++ x ∷ [])
differ_push xs x differ free i j member at_i at_j = ⊎_elim
    (λ inside. ⊎_elim
    (λ within. differ i j member inside within)
    (λ (last, same). absurd (free (subst (Contains xs) (sym same) (contains_got xs i member inside))))
    (got_push_cases xs x member j at_j))
    (λ (end, is). ⊎_elim
    (λ within. absurd (free (subst (Contains xs) (sym is) (contains_got xs j member within))))
    (λ (last, same). end ∙ sym last)
    (got_push_cases xs x member j at_j))
    (got_push_cases xs x member i at_i)

-- the known texts stay in front
pub once_differ : (known texts : List (List ℕ)) → AllDiffer known → AllDiffer (once_after known texts)
once_differ known [] differ = differ
once_differ known (text ∷ texts) differ = ⊎_elim
    (λ (here : is_among known text ≡ true). rw here (once_differ known texts differ))
    (λ (other : is_among known text ≡ false). rw other (once_differ (known ++ text ∷ []) texts (differ_push known text differ (not_among known text other))))
    (cases_Bool (is_among known text))

-- a text is kept from the known ones, and taken from the others
pub once_known : (known texts : List (List ℕ)) (text : List ℕ) → Contains known text → Contains (once_after known texts) text
once_known known [] text there = there
once_known known (other ∷ texts) text there = ⊎_elim
    (λ (here : is_among known other ≡ true). rw here (once_known known texts text there))
    (λ (new : is_among known other ≡ false). rw new (once_known (known ++ other ∷ []) texts text (Contains-append_left known (other ∷ []) text there)))
    (cases_Bool (is_among known other))

pub once_taken : (known texts : List (List ℕ)) (text : List ℕ) → Contains texts text → Contains (once_after known texts) text
once_taken known [] text there = absurd (omega arith)
once_taken known (other ∷ texts) text there = ⊎_elim
    (λ same. ⊎_elim
    (λ (here : is_among known other ≡ true). rw here (once_known known texts text (subst (Contains known) same (among_contains known other here))))
    (λ (new : is_among known other ≡ false). rw new (once_known (known ++ other ∷ []) texts text (subst (Contains (known ++ other ∷ [])) same (Contains-push known other))))
    (cases_Bool (is_among known other)))
    (λ later. ⊎_elim
    (λ (here : is_among known other ≡ true). rw here (once_taken known texts text later))
    (λ (new : is_among known other ≡ false). rw new (once_taken (known ++ other ∷ []) texts text later))
    (cases_Bool (is_among known other)))
    (contains_cases other texts text there)

-- and no other
pub once_from : (known texts : List (List ℕ)) (text : List ℕ) → Contains (once_after known texts) text → Contains known text ⊎ Contains texts text
once_from known [] text there = inl there
once_from known (other ∷ texts) text there = ⊎_elim
    (λ (here : is_among known other ≡ true).
    ⊎_elim (λ before. inl before) (λ later. inr (contains_there other texts text later)) (once_from known texts text (rw here at there)))
    (λ (new : is_among known other ≡ false).
    ⊎_elim
    (λ before. ⊎_elim (λ old. inl old) (λ same. inr (subst (Contains (other ∷ texts)) same (contains_here other texts))) (Contains-push_cases known other text before))
    (λ later. inr (contains_there other texts text later))
    (once_from (known ++ other ∷ []) texts text (rw new at there)))
    (cases_Bool (is_among known other))

pub first_apart : {X : Type 0} (x : X) (xs : List X) → AllDiffer (x ∷ xs) → Contains xs x → ⊥
first_apart x xs differ there = let at = got_contained xs x there in let e = differ 0 (suc there.0) x refl at in omega arith

distinct_from_differ : (texts : List (List ℕ)) → AllDiffer texts → IsDistinct (pointwise nat_eq) texts
unfolding IsDistinct
distinct_from_differ [] differ = tt
distinct_from_differ (text ∷ texts) differ = (apart texts (λ other there same. first_apart text texts differ (subst (Contains texts) (sym same) there)), distinct_from_differ texts (λ i j member at_i at_j. let e = differ (suc i) (suc j) member at_i at_j in omega arith)) where
  apart : (others : List (List ℕ)) → ((other : List ℕ) → Contains others other → text ≡ other → ⊥) → AllByRecursion (λ other. pointwise nat_eq text other ≡ false) others
  apart [] free = tt
  apart (other ∷ others) free = (⊎_elim (λ same. absurd (free other (contains_here other others) (text_is text other same))) (λ differs. differs) (cases_Bool (pointwise nat_eq text other)), apart others (λ o there. free o (contains_there other others o there)))

-- lists without repetition whose members are among each other's are equally long at most
pub length_le : (texts others : List (List ℕ)) → AllDiffer texts → ((text : List ℕ) → Contains texts text → Contains others text) → length texts ≤ length others
length_le texts others differ within = length-le_from_is_member nat_list_eq_equiv texts others (distinct_from_differ texts differ)
    (λ text among. let (member, there, same) = any_found (pointwise nat_eq text) texts among in
    any_at (pointwise nat_eq text) others text (subst (Contains others) (sym (text_is text member same)) (within member there)) (text_same text))

pub none_among : (texts : List (List ℕ)) (text : List ℕ) → (Contains texts text → ⊥) → is_among texts text ≡ false
none_among texts text none = ⊎_elim (λ (yes : is_among texts text ≡ true). absurd (none (among_contains texts text yes))) (λ no. no) (cases_Bool (is_among texts text))

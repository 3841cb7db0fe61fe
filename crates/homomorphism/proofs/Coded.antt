-- Lists of keys at their codes, and among the others.
use Rattle.std.proofs.Common.{◌≡◌, ℕ, List, [], ◌∷◌, ◌++◌, Option, Some, None, Bool, true, false, refl, sym, ap, ◌∙◌, subst, ⊎_elim, Contains}
use Rattle.std.specs.Prelude.{if◌then◌else◌, unwrap_or, is_some}
use Rattle.std.specs.Ordering.{is_eq, nat_cmp}
use Rattle.std.specs.BTreeMap.{BTreeMap, get, is_at}
use Rattle.std.specs.Map.{lookup}
use Rattle.std.specs.declared.cmp.Ordering.{Ordering}
use Rattle.std.specs.declared.cmp.Ordering.TheVariants.{Less, Equal, Greater}
use Rattle.std.proofs.lemmas.Bool.{cases_eq}
use Rattle.std.proofs.lemmas.Cmp.{tied_itself}
use Rattle.std.proofs.lemmas.Map.Lookups.{exact_unsigned}
use Rattle.homomorphism.specs.Codes.{key_code}
use Rattle.homomorphism.specs.Listed.{key_cmp, own_list, coded_list, found_at}
use Rattle.homomorphism.specs.declared.key.Key.{Key}
use Rattle.homomorphism.specs.declared.coded_lists.KeyList.{KeyList}
use Rattle.homomorphism.specs.declared.coded_lists.CodedLists.{CodedLists}
use Rattle.homomorphism.proofs.Exact.{key_exact, key_apart, key_total, key_cases}

-- two different numbers are apart in a tree
pub number_apart : (a b : ℕ) → (a ≡ b → ⊥) → is_at (nat_cmp a) b ≡ false
number_apart a b differ = by (nat_cmp a b) refl
  where
    by : (o : Ordering) → nat_cmp a b ≡ o → is_eq o ≡ false
    by Less e = refl
    by Equal e = absurd (differ (exact_unsigned a b e))
    by Greater e = refl

-- the list of a key, or of another
pub own_none : (key : Key) → own_list key None ≡ []
unfolding own_list
own_none key = refl

pub own_is : (key : Key) (list : KeyList) → is_at (key_cmp key) list.key ≡ true → own_list key (Some list) ≡ list.numbers
unfolding own_list
own_is key list e = ap (λ t. if t then list.numbers else []) e

pub own_not : (key : Key) (list : KeyList) → is_at (key_cmp key) list.key ≡ false → own_list key (Some list) ≡ []
unfolding own_list
own_not key list e = ap (λ t. if t then list.numbers else []) e

at_exact : (key other : Key) → is_at (key_cmp key) other ≡ true → key ≡ other
at_exact key other e = by (key_cmp key other) refl e
  where
    by : (o : Ordering) → key_cmp key other ≡ o → is_eq o ≡ true → key ≡ other
    by Less f t = absurd (cc)
    by Equal f t = key_exact key other f
    by Greater f t = absurd (cc)

pub own_apart : (key other : Key) (old new : KeyList) → new.key ≡ old.key → is_at (key_cmp key) old.key ≡ true → (other ≡ key → ⊥) → own_list other (Some new) ≡ own_list other (Some old)
own_apart key other old new same own differ =
    own_not other new (ap (λ k. is_at (key_cmp other) k) same ∙ not_old) ∙ sym (own_not other old not_old)
  where
    not_old : is_at (key_cmp other) old.key ≡ false
    not_old = key_apart other old.key (λ e. differ (sym e ∙ sym (at_exact key old.key own)))

-- the numbers of a list
pub numbers_own : (key : Key) (list : KeyList) (numbers : List ℕ) (own : Bool) → own ≡ is_at (key_cmp key) list.key → own ≡ true → numbers ≡ list.numbers → numbers ≡ own_list key (Some list)
numbers_own key list numbers own is holds e = e ∙ sym (own_is key list (sym is ∙ holds))

pub numbers_not : (key : Key) (list : KeyList) (own : Bool) → own ≡ is_at (key_cmp key) list.key → own ≡ false → [] ≡ own_list key (Some list)
numbers_not key list own is fails = sym (own_not key list (sym is ∙ fails))

-- a number is added to a list
module _ (key : Key) (number : ℕ) (old new : KeyList) (own : Bool) (is : own ≡ is_at (key_cmp key) old.key) (same : new.key ≡ old.key) where
  at_new : is_at (key_cmp key) new.key ≡ is_at (key_cmp key) old.key
  at_new = ap (λ k. is_at (key_cmp key) k) same

  pub own_noted : own ≡ true → new.numbers ≡ old.numbers ++ number ∷ [] → own_list key (Some new) ≡ own_list key (Some old) ++ number ∷ []
  unfolding at_new
  own_noted holds e = own_is key new (at_new ∙ sym is ∙ holds) ∙ e ∙ ap (λ l. l ++ number ∷ []) (sym (own_is key old (sym is ∙ holds)))

  pub own_kept : own ≡ true → new.numbers ≡ old.numbers → own_list key (Some new) ≡ own_list key (Some old)
  unfolding at_new
  own_kept holds e = own_is key new (at_new ∙ sym is ∙ holds) ∙ e ∙ sym (own_is key old (sym is ∙ holds))

  pub own_struck : own ≡ true → ((before : List ℕ) → old.numbers ≡ before ++ number ∷ [] → new.numbers ≡ before) →
      (before : List ℕ) → own_list key (Some old) ≡ before ++ number ∷ [] → own_list key (Some new) ≡ before
  unfolding at_new
  own_struck holds taken before e = own_is key new (at_new ∙ sym is ∙ holds) ∙ taken before (sym (own_is key old (sym is ∙ holds)) ∙ e)

  pub own_absent : own ≡ true → ((Contains old.numbers number → ⊥) → new.numbers ≡ old.numbers) → (Contains (own_list key (Some old)) number → ⊥) → own_list key (Some new) ≡ own_list key (Some old)
  own_absent holds taken none = own_kept holds (taken (λ c. none (subst (λ l. Contains l number) (sym (own_is key old (sym is ∙ holds))) c)))

-- nothing ends in a number
pub empty_ends : (before : List ℕ) (number : ℕ) → [] ≡ before ++ number ∷ [] → ⊥
empty_ends [] number e = cc
empty_ends (x ∷ before) number e = cc

-- a list at a code is changed
module _ (key : Key) (code : ℕ) (was now : BTreeMap ℕ KeyList) (old new : KeyList) (is : code ≡ key_code key) (at : Some old ≡ get nat_cmp was code)
    (here : get nat_cmp now code ≡ Some new) (rest : (other : ℕ) → is_at (nat_cmp code) other ≡ false → get nat_cmp now other ≡ get nat_cmp was other) where
  pub coded_before : coded_list was key ≡ own_list key (Some old)
  unfolding coded_list
  coded_before = ap (own_list key) (ap (get nat_cmp was) (sym is) ∙ sym at)

  pub coded_after : coded_list now key ≡ own_list key (Some new)
  unfolding coded_list
  coded_after = ap (own_list key) (ap (get nat_cmp now) (sym is) ∙ here)

  pub coded_apart : ((other : Key) → (other ≡ key → ⊥) → own_list other (Some new) ≡ own_list other (Some old)) → (other : Key) → (other ≡ key → ⊥) → coded_list now other ≡ coded_list was other
  unfolding coded_list
  coded_apart apart other differ =
      ⊎_elim (λ e. ap (own_list other) (ap (get nat_cmp now) (sym e) ∙ here) ∙ apart other differ ∙ sym (ap (own_list other) (ap (get nat_cmp was) (sym e) ∙ sym at)))
      (λ unlike. ap (own_list other) (rest (key_code other) (number_apart code (key_code other) unlike))) (cases_eq code (key_code other))

-- the first list at a code
module _ (key : Key) (first : KeyList) (was now : Option KeyList) (same : first.key ≡ key) (absent : was ≡ None) (here : now ≡ Some first) where
  all_first : own_list key now ≡ first.numbers
  all_first = ap (own_list key) here ∙ own_is key first (ap (λ k. is_at (key_cmp key) k) same ∙ ap is_eq (tied_itself key_total key))

  none_before : (other : Key) → own_list other was ≡ []
  none_before other = ap (own_list other) absent ∙ own_none other

  pub first_noted : (number : ℕ) → first.numbers ≡ number ∷ [] → own_list key now ≡ own_list key was ++ number ∷ []
  unfolding all_first none_before
  first_noted number only = all_first ∙ only ∙ ap (λ l. l ++ number ∷ []) (sym (none_before key))

  pub first_empty : first.numbers ≡ [] → own_list key now ≡ own_list key was
  unfolding all_first none_before
  first_empty none = all_first ∙ none ∙ sym (none_before key)

  pub first_apart : (other : Key) → (other ≡ key → ⊥) → own_list other now ≡ own_list other was
  unfolding none_before
  first_apart other differ =
      ap (own_list other) here ∙ own_not other first (ap (λ k. is_at (key_cmp other) k) same ∙ key_apart other key (λ e. differ (sym e)))
      ∙ sym (none_before other)

-- the list at one code is changed, and for a key it is as before
pub coded_others : (code : ℕ) (was now : BTreeMap ℕ KeyList) (other : Key) →
    own_list other (get nat_cmp now code) ≡ own_list other (get nat_cmp was code) →
    ((n : ℕ) → is_at (nat_cmp code) n ≡ false → get nat_cmp now n ≡ get nat_cmp was n) → coded_list now other ≡ coded_list was other
unfolding coded_list
coded_others code was now other same rest =
    ⊎_elim (λ e. subst (λ n. own_list other (get nat_cmp now n) ≡ own_list other (get nat_cmp was n)) e same)
    (λ unlike. ap (own_list other) (rest (key_code other) (number_apart code (key_code other) unlike))) (cases_eq code (key_code other))

-- a list is read
pub coded_found : (key : Key) (code : ℕ) (coded : BTreeMap ℕ KeyList) (list : KeyList) (numbers : List ℕ) → code ≡ key_code key → Some list ≡ get nat_cmp coded code → numbers ≡ own_list key (Some list) → numbers ≡ coded_list coded key
unfolding coded_list
coded_found key code coded list numbers is at e = e ∙ ap (own_list key) (at ∙ ap (get nat_cmp coded) is)

pub coded_none : (key : Key) (code : ℕ) (coded : BTreeMap ℕ KeyList) → code ≡ key_code key → None ≡ get nat_cmp coded code → [] ≡ coded_list coded key
unfolding coded_list
coded_none key code coded is at = sym (own_none key) ∙ ap (own_list key) (at ∙ ap (get nat_cmp coded) is)

pub listed_other : (key : Key) (lists : CodedLists) (numbers : List ℕ) → Some numbers ≡ get key_cmp lists.others key → numbers ≡ found_at lists key
unfolding found_at
listed_other key lists numbers at = ap (λ o. unwrap_or o (coded_list lists.coded key)) at

pub listed_coded : (key : Key) (lists : CodedLists) (numbers : List ℕ) → None ≡ get key_cmp lists.others key → numbers ≡ coded_list lists.coded key → numbers ≡ found_at lists key
unfolding found_at
listed_coded key lists numbers at e = e ∙ ap (λ o. unwrap_or o (coded_list lists.coded key)) at

-- what holds of a key and of the others holds of all
pub coded_all : (key : Key) (was now : BTreeMap ℕ KeyList) → coded_list now key ≡ coded_list was key → ((other : Key) → (other ≡ key → ⊥) → coded_list now other ≡ coded_list was other) → (other : Key) → coded_list now other ≡ coded_list was other
coded_all key was now here apart other = ⊎_elim (λ e. subst (λ k. coded_list now k ≡ coded_list was k) (sym e) here) (λ differ. apart other differ) (key_cases key other)

-- the list of a key among the others, and the one at its code
unwrap_some : {X : Type 0} (o : Option X) (d e : X) → is_some o ≡ true → unwrap_or o d ≡ unwrap_or o e
unwrap_some None d e t = absurd (cc)
unwrap_some (Some x) d e t = refl

unwrap_none : {X : Type 0} (o : Option X) (d : X) → is_some o ≡ false → unwrap_or o d ≡ d
unwrap_none None d t = refl
unwrap_none (Some x) d t = absurd (cc)

pub listed_is : (lists : CodedLists) (key : Key) → found_at lists key ≡ unwrap_or (get key_cmp lists.others key) (coded_list lists.coded key)
unfolding found_at
listed_is lists key = refl

-- lists that stay
pub listed_same : (was now : CodedLists) (other : Key) → get key_cmp now.others other ≡ get key_cmp was.others other → coded_list now.coded other ≡ coded_list was.coded other → found_at now other ≡ found_at was other
unfolding found_at
listed_same was now other same coded = ap (λ o. unwrap_or o (coded_list now.coded other)) same ∙ ap (λ l. unwrap_or (get key_cmp was.others other) l) coded

module _ (key : Key) (number : ℕ) (was now : CodedLists) where
  -- the number is added to the key's list
  pub noted_other : is_some (get key_cmp was.others key) ≡ true → get key_cmp now.others key ≡ Some (unwrap_or (get key_cmp was.others key) [] ++ number ∷ []) → found_at now key ≡ found_at was key ++ number ∷ []
  unfolding found_at
  noted_other there here = ap (λ o. unwrap_or o (coded_list now.coded key)) here ∙ ap (λ l. l ++ number ∷ []) (unwrap_some (get key_cmp was.others key) [] (coded_list was.coded key) there)

  pub noted_coded : is_some (get key_cmp was.others key) ≡ false → now.others ≡ was.others → coded_list now.coded key ≡ coded_list was.coded key ++ number ∷ [] → found_at now key ≡ found_at was key ++ number ∷ []
  unfolding found_at
  noted_coded none same here = ap (λ m. unwrap_or (get key_cmp m key) (coded_list now.coded key)) same ∙ unwrap_none (get key_cmp was.others key) (coded_list now.coded key) none ∙ here
      ∙ ap (λ l. l ++ number ∷ []) (sym (unwrap_none (get key_cmp was.others key) (coded_list was.coded key) none))

  pub noted_taken : (mid : CodedLists) (same : Key) → same ≡ key → is_some (get key_cmp was.others key) ≡ false → mid.others ≡ was.others → coded_list was.coded key ≡ [] →
      get key_cmp now.others same ≡ Some (unwrap_or (get key_cmp mid.others same) [] ++ number ∷ []) → found_at now key ≡ found_at was key ++ number ∷ []
  unfolding found_at
  noted_taken mid same is none stay empty here = ap (λ o. unwrap_or o (coded_list now.coded key)) (subst (λ k. get key_cmp now.others k ≡ Some (unwrap_or (get key_cmp mid.others k) [] ++ number ∷ [])) is here)
      ∙ ap (λ l. l ++ number ∷ []) (ap (λ m. unwrap_or (get key_cmp m key) []) stay ∙ unwrap_none (get key_cmp was.others key) [] none ∙ sym (unwrap_none (get key_cmp was.others key) (coded_list was.coded key) none ∙ empty))

  -- the number is taken from the end
  pub struck_other : is_some (get key_cmp was.others key) ≡ true → ((before : List ℕ) → get key_cmp was.others key ≡ Some (before ++ number ∷ []) → get key_cmp now.others key ≡ Some before) →
      (before : List ℕ) → found_at was key ≡ before ++ number ∷ [] → found_at now key ≡ before
  unfolding found_at
  struck_other there taken before e = ap (λ o. unwrap_or o (coded_list now.coded key)) (taken before (by (get key_cmp was.others key) there e))
    where
      by : (o : Option (List ℕ)) → is_some o ≡ true → unwrap_or o (coded_list was.coded key) ≡ before ++ number ∷ [] → o ≡ Some (before ++ number ∷ [])
      by None t f = absurd (cc)
      by (Some l) t f = ap Some f

  pub kept_other : is_some (get key_cmp was.others key) ≡ true → ((list : List ℕ) → get key_cmp was.others key ≡ Some list → (Contains list number → ⊥) → get key_cmp now.others key ≡ Some list) →
      (Contains (found_at was key) number → ⊥) → found_at now key ≡ found_at was key
  unfolding found_at
  kept_other there taken none = ap (λ o. unwrap_or o (coded_list now.coded key)) (taken (unwrap_or (get key_cmp was.others key) (coded_list was.coded key)) (by (get key_cmp was.others key) there) none)
    where
      by : (o : Option (List ℕ)) → is_some o ≡ true → o ≡ Some (unwrap_or o (coded_list was.coded key))
      by None t = absurd (cc)
      by (Some l) t = refl

  pub struck_coded : is_some (get key_cmp was.others key) ≡ false → now.others ≡ was.others → ((before : List ℕ) → coded_list was.coded key ≡ before ++ number ∷ [] → coded_list now.coded key ≡ before) →
      (before : List ℕ) → found_at was key ≡ before ++ number ∷ [] → found_at now key ≡ before
  unfolding found_at
  struck_coded none same taken before e = ap (λ m. unwrap_or (get key_cmp m key) (coded_list now.coded key)) same ∙ unwrap_none (get key_cmp was.others key) (coded_list now.coded key) none
      ∙ taken before (sym (unwrap_none (get key_cmp was.others key) (coded_list was.coded key) none) ∙ e)

  pub kept_coded : is_some (get key_cmp was.others key) ≡ false → now.others ≡ was.others → ((Contains (coded_list was.coded key) number → ⊥) → coded_list now.coded key ≡ coded_list was.coded key) →
      (Contains (found_at was key) number → ⊥) → found_at now key ≡ found_at was key
  unfolding found_at
  kept_coded none same taken absent = ap (λ m. unwrap_or (get key_cmp m key) (coded_list now.coded key)) same ∙ unwrap_none (get key_cmp was.others key) (coded_list now.coded key) none
      ∙ taken (λ c. absent (subst (λ l. Contains l number) (sym (unwrap_none (get key_cmp was.others key) (coded_list was.coded key) none)) c))
      ∙ sym (unwrap_none (get key_cmp was.others key) (coded_list was.coded key) none)

pub new_lists : (lists : CodedLists) → lists.coded.entries ≡ [] → lists.others.entries ≡ [] → (key : Key) → found_at lists key ≡ []
unfolding found_at coded_list
new_lists lists coded others key = ap (λ es. unwrap_or (lookup (is_at (key_cmp key)) es) (coded_list lists.coded key)) others
    ∙ ap (λ es. own_list key (lookup (is_at (nat_cmp (key_code key))) es)) coded ∙ own_none key

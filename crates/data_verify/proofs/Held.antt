-- What a set of keys holds, before a row is added and since; codes of keys, and keys that are the same.
use Rattle.std.proofs.Common.{◌≡◌, ◌⊎◌, ℕ, ◌+◌, ◌<◌, ◌≤◌, List, [], ◌∷◌, ◌++◌, length, map, take, Some, None, Option, Bool, true, false, cond, refl, sym, ap, ◌∙◌, subst, inl, inr, ⊎_elim, Contains, IsSomeAnd, option_copied, slice_index_or, fold}
use Rattle.std.specs.List.{list_any}
use Rattle.std.specs.Map.{lookup}
use Rattle.std.specs.BTreeMap.{get, is_at}
use Rattle.std.specs.BTreeSet.{contains}
use Rattle.std.specs.Ordering.{nat_cmp, is_eq}
use Rattle.std.specs.declared.cmp.Ordering.{Ordering}
use Rattle.std.specs.declared.cmp.Ordering.TheVariants.{Less, Equal, Greater}
use Rattle.std.proofs.lemmas.Cmp.{tied_itself}
use Rattle.std.proofs.lemmas.List.{take_all, take_more, map-append}
use Rattle.std.proofs.lemmas.List.Folds.{fold-map}
use Rattle.std.proofs.lemmas.Option.{slice_get-get_or}
use Rattle.lists.proofs.Orders.{rows_total, rows_equal}
use Rattle.lists.proofs.Members.{contains_none, contains_cases, contains_got}
use Rattle.meaning.specs.declared.types.Term.{Term}
use Rattle.data_verify.specs.Keys.{reading, key_of, mixed, key_code, row_cmp, Holds, Adds}
use Rattle.data_verify.specs.declared.key_set.KeySet.{KeySet}

-- two lists of values of the same numbers
pub same_at : (f g : ℕ → List ℕ) (xs : List ℕ) (x : ℕ) → map f xs ≡ map g xs → Contains xs x → f x ≡ g x
same_at f g [] x e c = absurd (contains_none x c)
same_at f g (y ∷ xs) x e c =
    let first : f y ≡ g y = cc in
    let rest : map f xs ≡ map g xs = cc in
    ⊎_elim (λ same. subst (λ z. f z ≡ g z) same first) (λ h. same_at f g xs x rest h) (contains_cases y xs x c)

-- one number more
module _ (f g : ℕ → List ℕ) (xs : List ℕ) (i : ℕ) (l : i < length xs) where
  pub same_more : map f (take i xs) ≡ map g (take i xs) → f (slice_index_or xs i 0) ≡ g (slice_index_or xs i 0) → map f (take (i + 1) xs) ≡ map g (take (i + 1) xs)
  same_more before here =
      subst (λ z. map f z ≡ map g z) (sym (take_more xs i 0 l))
      (map-append f (take i xs) (slice_index_or xs i 0 ∷ []) ∙ ap (λ z. z ++ f (slice_index_or xs i 0) ∷ []) before ∙ ap (λ y. map g (take i xs) ++ y ∷ []) here ∙ sym (map-append g (take i xs) (slice_index_or xs i 0 ∷ [])))

  pub same_there : map f xs ≡ map g xs → f (slice_index_or xs i 0) ≡ g (slice_index_or xs i 0)
  same_there e = same_at f g xs (slice_index_or xs i 0) e (contains_got xs i (slice_index_or xs i 0) (slice_get-get_or xs i 0 l))

-- the code of all values
pub code_all : (terms : List Term) (row : List (List ℕ)) (variables : List ℕ) (i code : ℕ) → length variables ≤ i → code ≡ fold (λ h x. mixed h (reading terms row x)) 14695981039346656037 (take i variables) → code ≡ key_code (key_of terms variables row)
unfolding key_code
code_all terms row variables i code l e = e ∙ ap (fold (λ h x. mixed h (reading terms row x)) 14695981039346656037) (take_all i variables l) ∙ sym (fold-map mixed (reading terms row) 14695981039346656037 variables)

-- whether a set holds a key
module _ (terms : List Term) (variables : List ℕ) where
  abbrev IsOf : List (List ℕ) → Option (List (List ℕ)) → Type 0
  IsOf key first = IsSomeAnd first (λ row. key_of terms variables row ≡ key)

  of_cases : (key : List (List ℕ)) (first : Option (List (List ℕ))) → IsOf key first ⊎ (IsOf key first → ⊥)
  of_cases key None = inr (λ h. h)
  of_cases key (Some row) = by (row_cmp (key_of terms variables row) key) refl
    where
      itself : key_of terms variables row ≡ key → row_cmp (key_of terms variables row) key ≡ Equal
      itself e = ap (row_cmp (key_of terms variables row)) (sym e) ∙ tied_itself rows_total (key_of terms variables row)

      less : Less ≡ Equal → ⊥
      less e = cc

      greater : Greater ≡ Equal → ⊥
      greater e = cc

      by : (o : Ordering) → row_cmp (key_of terms variables row) key ≡ o → (key_of terms variables row ≡ key) ⊎ (key_of terms variables row ≡ key → ⊥)
      by Less e = inr (λ same. less (sym e ∙ itself same))
      by Equal e = inl (rows_equal (key_of terms variables row) key e)
      by Greater e = inr (λ same. greater (sym e ∙ itself same))

  pub held_cases : (keys : KeySet) (key : List (List ℕ)) → Holds terms variables keys key ⊎ (Holds terms variables keys key → ⊥)
  held_cases keys key = by (contains row_cmp keys.others key) refl
    where
      clash : false ≡ true → ⊥
      clash e = cc

      by : (t : Bool) → contains row_cmp keys.others key ≡ t → Holds terms variables keys key ⊎ (Holds terms variables keys key → ⊥)
      by true e = inl (inr e)
      by false e = ⊎_elim (λ first. inl (inl first)) (λ not. inr (λ h. ⊎_elim not (λ t. clash (sym e ∙ t)) h)) (of_cases key (option_copied (get nat_cmp keys.firsts (key_code key))))

  pub none_held : (keys : KeySet) (key : List (List ℕ)) → keys.firsts.entries ≡ [] → keys.others.keys ≡ [] → Holds terms variables keys key → ⊥
  none_held keys key firsts others h = ⊎_elim
      (λ first. subst (IsOf key) (ap (λ es. option_copied (lookup (is_at (nat_cmp (key_code key))) es)) firsts) first)
      (λ t. clash (sym (ap (list_any (is_at (row_cmp key))) others) ∙ t)) h
    where
      clash : false ≡ true → ⊥
      clash e = cc

  -- a key is added to the others
  module _ (was now : KeySet) (firsts : now.firsts.entries ≡ was.firsts.entries) where
    first_same : (key : List (List ℕ)) → option_copied (get nat_cmp now.firsts (key_code key)) ≡ option_copied (get nat_cmp was.firsts (key_code key))
    first_same key = ap (λ es. option_copied (lookup (is_at (nat_cmp (key_code key))) es)) firsts

    pub added_other : (added new : List (List ℕ)) → new ≡ added → ((key : List (List ℕ)) → contains row_cmp now.others key ≡ cond (is_at (row_cmp new) key) true (contains row_cmp was.others key)) → Adds terms variables was added now
    unfolding first_same
    added_other added new made put key = (
      (λ h. ⊎_elim (λ f. inl (inl (subst (IsOf key) (first_same key) f))) (λ t. back (row_cmp new key) refl (sym (put key) ∙ t)) h),
      (λ h. ⊎_elim (λ old. ⊎_elim (λ f. inl (subst (IsOf key) (sym (first_same key)) f)) (λ t. inr (put key ∙ before (is_at (row_cmp new) key) t)) old)
          (λ e. inr (put key ∙ here (made ∙ e))) h),
    )
      where
        back : (o : Ordering) → row_cmp new key ≡ o → cond (is_eq o) true (contains row_cmp was.others key) ≡ true → Holds terms variables was key ⊎ (added ≡ key)
        back Less e t = inl (inr t)
        back Greater e t = inl (inr t)
        back Equal e t = inr (sym made ∙ rows_equal new key e)

        before : (b : Bool) → contains row_cmp was.others key ≡ true → cond b true (contains row_cmp was.others key) ≡ true
        before true e = refl
        before false e = e

        here : new ≡ key → cond (is_at (row_cmp new) key) true (contains row_cmp was.others key) ≡ true
        here e = ap (λ o. cond (is_eq o) true (contains row_cmp was.others key)) (ap (row_cmp new) (sym e) ∙ tied_itself rows_total new)

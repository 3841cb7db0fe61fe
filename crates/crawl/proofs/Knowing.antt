-- What a crawl knows after values were taken in.
use Rattle.std.proofs.Common.{◌≡◌, ◌↔◌, ◌⊎◌, ◌∙◌, inl, inr, ⊎_elim, Bool, true, false, List, [], ◌∷◌, ◌++◌, refl, sym, ap, subst}
use Rattle.std.specs.Prelude.{Contains, IsTrue, nat_eq}
use Rattle.std.specs.BTreeSet.{contains, insert_key}
use Rattle.std.specs.Ordering.{nat_cmp, is_eq, match_ordering}
use Rattle.std.specs.Cmp.Lexicographic.{slice_cmp, pointwise, texts_ties}
use Rattle.std.specs.declared.cmp.Ordering.{Ordering}
use Rattle.std.specs.declared.cmp.Ordering.TheVariants.{Less, Equal, Greater}
use Rattle.std.proofs.lemmas.Cmp.{nat_list_cmp_total, nat_list_eq_equiv}
use Rattle.std.proofs.lemmas.Map.Views.{btree_set_contains_iff}
use Rattle.std.proofs.lemmas.List.Folds.{Any-from_list_any, list_any-from_Any}
use Rattle.std.proofs.lemmas.List.Elements.{Contains-append_cases, Contains-append_left, Contains-append_right}
use Rattle.lists.proofs.Members.{contains_here, contains_there, contains_cases, contains_none, contains_one}
use Rattle.lists.proofs.Orders.{text_is}
use Rattle.meaning.specs.Values.{Value}
use Rattle.crawl.specs.declared.known.KnownValues.{KnownValues}
use Rattle.crawl.specs.Knowing.{is_fresh, TakesIn}

abbrev pub order : Value → Value → Ordering
order = slice_cmp nat_cmp

pub texts_equal : (a b : Value) → order a b ≡ Equal → a ≡ b
texts_equal a b e = text_is a b (texts_ties a b ∙ ap is_eq e)

-- what a set of texts has
pub held_iff : (known : KnownValues) (v : Value) → IsTrue (contains order known.all v) ↔ Contains known.all.keys v
held_iff known v = btree_set_contains_iff nat_list_cmp_total texts_equal known.all v

pub fresh_iff : (known : KnownValues) (v : Value) → IsTrue (is_fresh known v) ↔ Contains known.fresh.items v
fresh_iff known v = (
  (λ e.
      let found = Any-from_list_any (λ (w : Value). pointwise nat_eq w v) known.fresh.items e in
      subst (Contains known.fresh.items) (text_is found.1 v found.4) (found.0, found.2, found.3)),
  (λ c. list_any-from_Any (λ (w : Value). pointwise nat_eq w v) known.fresh.items (c.0, v, c.1, c.2, nat_list_eq_equiv.refl v)),
)

pub held_or_not : (known : KnownValues) (v : Value) → Contains known.all.keys v ⊎ (Contains known.all.keys v → ⊥)
held_or_not known v = go (contains order known.all v) refl
  where
    go : (b : Bool) → contains order known.all v ≡ b → Contains known.all.keys v ⊎ (Contains known.all.keys v → ⊥)
    go true e = inl ((held_iff known v).0 e)
    go false e = inr (λ c. absurd (clash (sym e ∙ (held_iff known v).1 c)))
      where
        clash : false ≡ true → ⊥
        clash h = cc

-- one key more
inserted_into : (k x : Value) (ks : List Value) → Contains (insert_key order ks k) x → Contains ks x ⊎ (x ≡ k)
inserted_into k x [] c = inr (sym (contains_one k x c))
inserted_into k x (y ∷ ys) c = go (order k y) c (inserted_into k x ys)
  where
    go : (o : Ordering) → Contains (match_ordering o (k ∷ y ∷ ys) (y ∷ ys) (y ∷ insert_key order ys k)) x → (Contains (insert_key order ys k) x → Contains ys x ⊎ (x ≡ k)) → Contains (y ∷ ys) x ⊎ (x ≡ k)
    go Less c later = ⊎_elim (λ e. inr (sym e)) (λ d. inl d) (contains_cases k (y ∷ ys) x c)
    go Equal c later = inl c
    go Greater c later = ⊎_elim (λ e. inl (subst (Contains (y ∷ ys)) e (contains_here y ys))) (λ d. ⊎_elim (λ h. inl (contains_there y ys x h)) (λ e. inr e) (later d)) (contains_cases y (insert_key order ys k) x c)

inserted_from : (k x : Value) (ks : List Value) → Contains ks x ⊎ (x ≡ k) → Contains (insert_key order ks k) x
inserted_from k x [] c = ⊎_elim (λ d. absurd (contains_none x d)) (λ e. subst (Contains (k ∷ [])) (sym e) (contains_here k [])) c
inserted_from k x (y ∷ ys) c = go (order k y) refl c (inserted_from k x ys)
  where
    go : (o : Ordering) → order k y ≡ o → Contains (y ∷ ys) x ⊎ (x ≡ k) → (Contains ys x ⊎ (x ≡ k) → Contains (insert_key order ys k) x) → Contains (match_ordering o (k ∷ y ∷ ys) (y ∷ ys) (y ∷ insert_key order ys k)) x
    go Less e c later = ⊎_elim (λ d. contains_there k (y ∷ ys) x d) (λ s. subst (Contains (k ∷ y ∷ ys)) (sym s) (contains_here k (y ∷ ys))) c
    go Equal e c later = ⊎_elim (λ d. d) (λ s. subst (Contains (y ∷ ys)) (sym (s ∙ texts_equal k y e)) (contains_here y ys)) c
    go Greater e c later = ⊎_elim (λ d. ⊎_elim (λ s. subst (Contains (y ∷ insert_key order ys k)) s (contains_here y (insert_key order ys k))) (λ h. contains_there y (insert_key order ys k) x (later (inl h))) (contains_cases y ys x d)) (λ s. contains_there y (insert_key order ys k) x (later (inr s))) c

inserted : (ks : List Value) (k x : Value) → Contains (insert_key order ks k) x ↔ (Contains ks x ⊎ (x ≡ k))
inserted ks k x = (inserted_into k x ks, inserted_from k x ks)

-- a value that is known already
pub takes_known : (known : KnownValues) (value : Value) → Contains known.all.keys value → TakesIn (λ v. v ≡ value) known known
takes_known known value there = record {
  all = λ v. ((λ c. inl c), (λ c. ⊎_elim (λ d. d) (λ e. subst (Contains known.all.keys) (sym e) there) c));
  fresh = λ v. ((λ c. inl c), (λ c. ⊎_elim (λ d. d) (λ h. absurd (h.1 (subst (Contains known.all.keys) (sym h.0) there))) c));
}

-- a value that is inserted again
pub takes_again : (old new : KnownValues) (value : Value) → Contains old.all.keys value → new.all.keys ≡ insert_key order old.all.keys value → new.fresh.items ≡ old.fresh.items
    → TakesIn (λ v. v ≡ value) old new
takes_again old new value there all fresh = record {
  all = λ v. (
    (λ c. (inserted old.all.keys value v).0 (subst (λ l. Contains l v) all c)),
    (λ c. subst (λ l. Contains l v) (sym all) ((inserted old.all.keys value v).1 c)),
  );
  fresh = λ v. (
    (λ c. inl (subst (λ l. Contains l v) fresh c)),
    (λ c. subst (λ l. Contains l v) (sym fresh) (⊎_elim (λ d. d) (λ h. absurd (h.1 (subst (Contains old.all.keys) (sym h.0) there))) c)),
  );
}

-- a value that was not known
pub takes_new : (old new : KnownValues) (value : Value) → (Contains old.all.keys value → ⊥) → new.all.keys ≡ insert_key order old.all.keys value → new.fresh.items ≡ old.fresh.items ++ value ∷ [] → TakesIn (λ v. v ≡ value) old new
takes_new old new value none all fresh = record {
  all = λ v. (
    (λ c. (inserted old.all.keys value v).0 (subst (λ l. Contains l v) all c)),
    (λ c. subst (λ l. Contains l v) (sym all) ((inserted old.all.keys value v).1 c)),
  );
  fresh = λ v. (
    (λ c. ⊎_elim (λ d. inl d) (λ d. let e = sym (contains_one value v d) in inr (e, λ h. none (subst (Contains old.all.keys) e h)))
        (Contains-append_cases old.fresh.items (value ∷ []) v (subst (λ l. Contains l v) fresh c))),
    (λ c. subst (λ l. Contains l v) (sym fresh) (⊎_elim (λ d. Contains-append_left old.fresh.items (value ∷ []) v d)
        (λ h. Contains-append_right old.fresh.items (value ∷ []) v (subst (Contains (value ∷ [])) (sym h.0) (contains_here value []))) c)),
  );
}

-- nothing was taken in
pub takes_none : (known : KnownValues) → TakesIn (Contains []) known known
takes_none known = record {
  all = λ v. ((λ c. inl c), (λ c. ⊎_elim (λ d. d) (λ h. absurd (contains_none v h)) c));
  fresh = λ v. ((λ c. inl c), (λ c. ⊎_elim (λ d. d) (λ h. absurd (contains_none v h.0)) c));
}

-- values were taken in one after another
pub takes_both : (P Q R : Value → Type 0) → ((v : Value) → R v ↔ (P v ⊎ Q v)) → (old mid new : KnownValues) → TakesIn P old mid → TakesIn Q mid new → TakesIn R old new
takes_both P Q R both old mid new h k = record {
  all = λ v. (
    (λ c. ⊎_elim (λ d. ⊎_elim (λ a. inl a) (λ p. inr ((both v).1 (inl p))) ((h.all v).0 d)) (λ q. inr ((both v).1 (inr q))) ((k.all v).0 c)),
    (λ c. (k.all v).1 (⊎_elim (λ a. inl ((h.all v).1 (inl a))) (λ r. ⊎_elim (λ p. inl ((h.all v).1 (inr p))) (λ q. inr q) ((both v).0 r)) c)),
  );
  fresh = λ v. (
    (λ c. ⊎_elim (λ d. ⊎_elim (λ a. inl a) (λ p. inr ((both v).1 (inl p.0), p.1)) ((h.fresh v).0 d)) (λ q. inr ((both v).1 (inr q.0), λ a. q.1 ((h.all v).1 (inl a)))) ((k.fresh v).0 c)),
    (λ c. (k.fresh v).1 (⊎_elim (λ a. inl ((h.fresh v).1 (inl a))) (λ r. one v r.0 r.1) c)),
  );
}
  where
    one : (v : Value) → R v → (Contains old.all.keys v → ⊥) → Contains mid.fresh.items v ⊎ (Q v × (Contains mid.all.keys v → ⊥))
    one v r none = ⊎_elim (λ p. inl ((h.fresh v).1 (inr (p, none)))) (λ q. ⊎_elim (λ c. ⊎_elim (λ a. absurd (none a)) (λ p. inl ((h.fresh v).1 (inr (p, none)))) ((h.all v).0 c)) (λ n. inr (q, n)) (held_or_not mid v)) ((both v).0 r)

-- one more behind a list
pub one_more : (xs : List Value) (x v : Value) → Contains (xs ++ x ∷ []) v ↔ (Contains xs v ⊎ (v ≡ x))
one_more xs x v = (
  (λ c. ⊎_elim (λ d. inl d) (λ d. inr (sym (contains_one x v d))) (Contains-append_cases xs (x ∷ []) v c)),
  (λ c. ⊎_elim (λ d. Contains-append_left xs (x ∷ []) v d)
      (λ e. Contains-append_right xs (x ∷ []) v (subst (Contains (x ∷ [])) (sym e) (contains_here x []))) c),
)

-- one more in front of a list
one_front : (x : Value) (xs : List Value) (v : Value) → Contains (x ∷ xs) v ↔ (Contains xs v ⊎ (v ≡ x))
one_front x xs v = (
  (λ c. ⊎_elim (λ e. inr (sym e)) (λ d. inl d) (contains_cases x xs v c)),
  (λ c. ⊎_elim (λ d. contains_there x xs v d) (λ e. subst (Contains (x ∷ xs)) (sym e) (contains_here x xs)) c),
)

pub takes_front : (x : Value) (xs : List Value) (old mid new : KnownValues)
    → TakesIn (Contains xs) old mid → TakesIn (λ v. v ≡ x) mid new → TakesIn (Contains (x ∷ xs)) old new
takes_front x xs = takes_both (Contains xs) (λ v. v ≡ x) (Contains (x ∷ xs)) (one_front x xs)

-- What a list of found values has after values came.
use Rattle.std.proofs.Common.{◌≡◌, ◌↔◌, ◌⊎◌, inl, inr, ⊎_elim, List, [], ◌∷◌, ◌++◌, sym, subst}
use Rattle.std.specs.Prelude.{Contains}
use Rattle.lists.proofs.Members.{contains_none}
use Rattle.meaning.specs.Values.{Value}
use Rattle.crawl.specs.Finding.{Finds}
use Rattle.crawl.proofs.Knowing.{one_more}

pub finds_nothing : (known : List Value) (P : Value → Type 0) → ((v : Value) → P v → ⊥) → (xs : List Value)
    → Finds known P xs xs
finds_nothing known P nothing xs = record {
  from = λ v c. inl c;
  into = λ v c. ⊎_elim (λ d. inl d) (λ p. absurd (nothing v p)) c;
}

pub finds_none : (known xs : List Value) → Finds known (Contains []) xs xs
finds_none known = finds_nothing known (Contains []) contains_none

-- a value that is known
pub finds_known : (known xs : List Value) (x : Value) → Contains known x → Finds known (λ v. v ≡ x) xs xs
finds_known known xs x there = record {
  from = λ v c. inl c;
  into = λ v c. ⊎_elim (λ d. inl d) (λ e. inr (subst (Contains known) (sym e) there)) c;
}

-- a value that is put behind the others
pub finds_one : (known old new : List Value) (x : Value) → new ≡ old ++ x ∷ [] → Finds known (λ v. v ≡ x) old new
finds_one known old new x is = record {
  from = λ v c. (one_more old x v).0 (subst (λ (l : List Value). Contains l v) is c);
  into = λ v c. inl (subst (λ (l : List Value). Contains l v) (sym is) ((one_more old x v).1 c));
}

-- values that came one after another
pub finds_both : (known : List Value) (P Q R : Value → Type 0) → ((v : Value) → R v ↔ (P v ⊎ Q v))
    → (old mid new : List Value) → Finds known P old mid → Finds known Q mid new → Finds known R old new
finds_both known P Q R both old mid new h k = record {
  from = λ v c. ⊎_elim (λ d. ⊎_elim (λ a. inl a) (λ p. inr ((both v).1 (inl p))) (h.from v d))
      (λ q. inr ((both v).1 (inr q))) (k.from v c);
  into = λ v c. ⊎_elim (λ a. later v (inl a))
      (λ r. ⊎_elim (λ p. later v (inr p)) (λ q. k.into v (inr q)) ((both v).0 r)) c;
}
  where
    later : (v : Value) → Contains old v ⊎ P v → Contains new v ⊎ Contains known v
    later v c = ⊎_elim (λ m. k.into v (inl m)) (λ d. inr d) (h.into v c)

-- one more of a list
pub finds_more : (known xs : List Value) (x : Value) (old mid new : List Value)
    → Finds known (Contains xs) old mid → Finds known (λ v. v ≡ x) mid new
    → Finds known (Contains (xs ++ x ∷ [])) old new
finds_more known xs x = finds_both known (Contains xs) (λ v. v ≡ x) (Contains (xs ++ x ∷ [])) (one_more xs x)

-- more values are known
pub finds_within : (shared known : List Value) → ((v : Value) → Contains shared v → Contains known v)
    → (P : Value → Type 0) (old new : List Value) → Finds shared P old new → Finds known P old new
finds_within shared known within P old new h = record {
  from = h.from;
  into = λ v c. ⊎_elim (λ d. inl d) (λ d. inr (within v d)) (h.into v c);
}

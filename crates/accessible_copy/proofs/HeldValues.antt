-- Which facts hold a value, as numbers are added.
use Rattle.std.proofs.Common.{◌≡◌, ℕ, List, [], ◌∷◌, ◌++◌, length, false, sym, ap, ◌∙◌, subst, inl, inr, ⊎_elim}
use Rattle.std.specs.Prelude.{◌⊎◌, Contains}
use Rattle.std.specs.BTreeMap.{is_at}
use Rattle.std.proofs.lemmas.List.Elements.{Contains-append_left}
use Rattle.meaning.specs.declared.types.Val.{Val}
use Rattle.meaning.specs.declared.types.Ground.{Ground}
use Rattle.homomorphism.specs.declared.key.Key.TheVariants.{Value}
use Rattle.homomorphism.proofs.Exact.{key_apart, key_cases}
use Rattle.accessible_copy.specs.declared.holders.Holders.{Holders}
use Rattle.accessible_copy.specs.OpenFacts.{val_cmp, held_by, AreHolders}
use Rattle.accessible_copy.proofs.Lists.{got_cases}

-- values are told apart as keys are
value_is : (v w : Val) → Value 0 0 v ≡ Value 0 0 w → v ≡ w
value_is v w e = cc

pub val_apart : (v w : Val) → (w ≡ v → ⊥) → is_at (val_cmp v) w ≡ false
val_apart v w differ = key_apart (Value 0 0 v) (Value 0 0 w) (λ e. differ (value_is w v e))

val_cases : (v w : Val) → (w ≡ v) ⊎ (w ≡ v → ⊥)
val_cases v w = ⊎_elim (λ e. inl (value_is w v e)) (λ differ. inr (λ e. differ (ap (λ u. Value 0 0 u) e))) (key_cases (Value 0 0 v) (Value 0 0 w))

-- one number more at a value
pub held_more : (old new : Holders) (val : Val) (number : ℕ) → held_by new val ≡ held_by old val ++ number ∷ [] → ((other : Val) → (other ≡ val → ⊥) → held_by new other ≡ held_by old other)
    → (value : Val) (n : ℕ) → Contains (held_by old value) n → Contains (held_by new value) n
held_more old new val number here others value n c = ⊎_elim
    (λ same. subst (λ v. Contains (held_by new v) n) (sym same) (subst (λ l. Contains l n) (sym here) (Contains-append_left (held_by old val) (number ∷ []) n (subst (λ v. Contains (held_by old v) n) same c))))
    (λ differ. subst (λ l. Contains l n) (sym (others value differ)) c) (val_cases val value)

-- one fact more
pub holders_more : (facts : List Ground) (fact : Ground) (old new : Holders) (number : ℕ) → number ≡ length facts → AreHolders facts old → ((value : Val) → Contains fact.vals value → Contains (held_by new value) number)
    → ((value : Val) (n : ℕ) → Contains (held_by old value) n → Contains (held_by new value) n) → AreHolders (facts ++ fact ∷ []) new
holders_more facts fact old new number last are here kept n other value got has = ⊎_elim
    (λ h. kept value n (are n other value h has))
    (λ (at, same). subst (λ k. Contains (held_by new value) k) (last ∙ sym at) (here value (subst (λ (f : Ground). Contains f.vals value) (sym same) has)))
    (got_cases facts fact n other got)

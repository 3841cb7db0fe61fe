-- Facts as the keys of a set.
use Rattle.std.proofs.Common.{◌≡◌, ◌↔◌, List, [], ◌∷◌, Bool, true, false, refl, sym, ap, ◌∙◌, subst, not, ⊎_elim, true≢false, Contains, IsTrue}
use Rattle.std.specs.Prelude.{nat_eq, ◌&&◌}
use Rattle.std.specs.List.{list_any, IsDistinct, AllByRecursion}
use Rattle.std.specs.Cmp.Lexicographic.{pointwise}
use Rattle.std.proofs.lemmas.Map.Keys.{IsDistinct-head, IsDistinct-tail}
use Rattle.indexmap.specs.IndexSet.{insert_key}
use Rattle.lists.proofs.Members.{contains_cases, contains_none}
use Rattle.meaning.specs.declared.types.Val.{Val}
use Rattle.meaning.specs.declared.types.Val.TheVariants.{Const, Label}
use Rattle.meaning.specs.declared.types.Ground.{Ground}
use Rattle.meaning.specs.contracts.types.ValPartialEq.TheImpl as val_eq
use Rattle.meaning.specs.contracts.types.GroundPartialEq.TheImpl as ground_eq
use Rattle.meaning.specs.Search.{AreDistinct}
use Rattle.meaning.specs.Added.{is_same_val, is_same_fact, with_fact}
use Rattle.meaning_laws.proofs.Added.{fact_decides, there_decides}

-- `==` is the test of the definitions
val_test : (v w : Val) → (val_eq.ghosts).eq v w ≡ is_same_val v w
val_test (Const c) (Const d) = refl
val_test (Const c) (Label k) = refl
val_test (Label j) (Const d) = refl
val_test (Label j) (Label k) = refl

fact_test : (ground_eq.ghosts).eq ≡ is_same_fact
fact_test i f g = nat_eq f.rel g.rel && pointwise (λ v w. val_test v w i) f.vals g.vals

apart : (xs : List Ground) (x : Ground) → AllByRecursion (λ y. is_same_fact x y ≡ false) xs → Contains xs x → ⊥
apart [] x all c = contains_none x c
apart (y ∷ ys) x (differ, all) c = ⊎_elim (λ e. absurd (true≢false (sym ((fact_decides x y).1 (sym e)) ∙ differ))) (λ h. apart ys x all h) (contains_cases y ys x c)

-- keys of which no two are equal are distinct facts
pub distinct_keys : (xs : List Ground) → IsDistinct (ground_eq.ghosts).eq xs → AreDistinct xs
distinct_keys xs h = by xs (subst (λ E. IsDistinct E xs) fact_test h)
  where
    by : (xs : List Ground) → IsDistinct is_same_fact xs → AreDistinct xs
    by [] h = tt
    by (x ∷ xs) h = ((λ c. apart xs x (IsDistinct-head is_same_fact x xs h) c), by xs (IsDistinct-tail is_same_fact x xs h))

-- a key that is inserted is a fact more
pub inserted_is_added : (facts : List Ground) (fact : Ground) → insert_key (ground_eq.ghosts).eq facts fact ≡ with_fact facts fact
inserted_is_added facts fact = ap (λ E. insert_key E facts fact) fact_test

test_decides : (facts : List Ground) (fact : Ground) → (list_any ((ground_eq.ghosts).eq fact) facts ≡ true → Contains facts fact) × (Contains facts fact → list_any ((ground_eq.ghosts).eq fact) facts ≡ true)
test_decides facts fact = subst (λ E. (list_any (E fact) facts ≡ true → Contains facts fact) × (Contains facts fact → list_any (E fact) facts ≡ true)) (sym fact_test) (there_decides facts fact)

-- a fact was added exactly where it was not there
pub added_is_new : (facts : List Ground) (fact : Ground) (added : Bool) → added ≡ not (list_any ((ground_eq.ghosts).eq fact) facts) → (added ≡ false) ↔ Contains facts fact
added_is_new facts fact added is = by (list_any ((ground_eq.ghosts).eq fact) facts) (test_decides facts fact) is
  where
    by : (there : Bool) → (there ≡ true → Contains facts fact) × (Contains facts fact → there ≡ true) → added ≡ not there → (added ≡ false) ↔ Contains facts fact
    by true d e = ((λ _. d.0 refl), (λ _. e))
    by false d e = ((λ f. absurd (true≢false (sym e ∙ f))), (λ c. absurd (true≢false (sym (d.1 c)))))

-- what is found is there
pub found_is_there : (facts : List Ground) (fact : Ground) (found : Bool) → found ≡ list_any ((ground_eq.ghosts).eq fact) facts → IsTrue found ↔ Contains facts fact
found_is_there facts fact found is = ((λ t. (test_decides facts fact).0 (sym is ∙ t)), (λ c. is ∙ (test_decides facts fact).1 c))

-- Names with the variables of terms.
use Rattle.std.proofs.Common.{◌≡◌, ℕ, ◌+◌, ◌<◌, ◌≤◌, List, [], ◌∷◌, ◌++◌, true, false, length, sym, ◌∙◌, subst, ⊎_elim, arith, map, append_assoc, append-nil}
use Rattle.std.specs.Prelude.{Contains, nat_eq, fold}
use Rattle.std.proofs.lemmas.Bool.{cases_lt, cases_Bool, eqb-true, eqb-false}
use Rattle.std.proofs.lemmas.List.{length-append}
use Rattle.std.proofs.lemmas.List.Elements.{Contains-append_left, Contains-append_right}
use Rattle.lists.proofs.Members.{contains_here, contains_there, contains_cases}
use Rattle.meaning.specs.declared.types.Term.{Term}
use Rattle.meaning.specs.declared.types.Term.TheVariants.{Var, Const as Said}
use Rattle.homomorphism.proofs.Binding.{var_is}
use Rattle.connected_match.specs.Chains.{place_in, local_in, with_term}
use Rattle.connected_match.proofs.Places.{among_or_not, place_added}

-- names with those of terms, which come behind, each where a term first has it
pub record Naming (names : List ℕ) (terms : List Term) (all : List ℕ) : Type 0 where
  pub more : List ℕ
  pub is : all ≡ names ++ more
  pub from : (x : ℕ) → Contains more x → Contains terms (Var x)
  pub own : (x : ℕ) → Contains terms (Var x) → Contains all x
  pub numbered : (k : ℕ) → length names ≤ k → k < length names + length more → Contains (map (local_in all) terms) (Var k)

pub said_is_none : (c : List ℕ) (x : ℕ) → Said c ≡ Var x → ⊥
said_is_none c x e = cc

-- a variable that was not there, and then more terms
naming_added : (y : ℕ) (terms : List Term) (names : List ℕ) → place_in names y ≡ length names → Naming (names ++ y ∷ []) terms (fold with_term (names ++ y ∷ []) terms) →
    Naming names (Var y ∷ terms) (fold with_term (names ++ y ∷ []) terms)
naming_added y terms names absent rest =
    let all : List ℕ = fold with_term (names ++ y ∷ []) terms in
    let is : all ≡ names ++ y ∷ rest.more = rest.is ∙ append_assoc names (y ∷ []) rest.more in
    let here : place_in all y ≡ length names = subst (λ l. place_in l y ≡ length names) (sym is) (place_added names rest.more y absent) in
    let long = length-append names (y ∷ []) in
    record {
      more = y ∷ rest.more;
      is = is;
      from = λ x among. ⊎_elim (λ same. subst (λ z. Contains (Var y ∷ terms) (Var z)) same (contains_here (Var y) terms))
          (λ there. contains_there (Var y) terms (Var x) (rest.from x there)) (contains_cases y rest.more x among);
      own = λ x among. ⊎_elim (λ same. subst (Contains all) (var_is y x same) (subst (λ l. Contains l y) (sym is) (Contains-append_right names (y ∷ rest.more) y (contains_here y rest.more))))
          (rest.own x) (contains_cases (Var y) terms (Var x) among);
      numbered = λ k low high. ⊎_elim
          (λ less. contains_there (local_in all (Var y)) (map (local_in all) terms) (Var k) (rest.numbered k (omega (arith, less, long)) (omega (arith, high, long))))
          (λ most. let e : place_in all y ≡ k = omega (arith, here, low, most) in subst (λ n. Contains (Var (place_in all y) ∷ map (local_in all) terms) (Var n)) e (contains_here (Var (place_in all y)) (map (local_in all) terms)))
          (cases_lt (length names) k);
    }

-- a variable that was there, and then more terms
naming_there : (y : ℕ) (terms : List Term) (names : List ℕ) → Contains names y → Naming names terms (fold with_term names terms) → Naming names (Var y ∷ terms) (fold with_term names terms)
naming_there y terms names among rest =
    let all : List ℕ = fold with_term names terms in
    record {
      more = rest.more;
      is = rest.is;
      from = λ x i. contains_there (Var y) terms (Var x) (rest.from x i);
      own = λ x i. ⊎_elim (λ same. subst (Contains all) (var_is y x same) (subst (λ l. Contains l y) (sym rest.is) (Contains-append_left names rest.more y among)))
          (rest.own x) (contains_cases (Var y) terms (Var x) i);
      numbered = λ k low high. contains_there (local_in all (Var y)) (map (local_in all) terms) (Var k) (rest.numbered k low high);
    }

pub naming : (terms : List Term) (names : List ℕ) → Naming names terms (fold with_term names terms)
naming [] names = record {
  more = [];
  is = sym (append-nil names);
  from = λ x among. absurd (omega (arith, among.1));
  own = λ x among. absurd (omega (arith, among.1));
  numbered = λ k low high. absurd (omega (arith, low, high));
}
naming (Said c ∷ terms) names =
    let rest = naming terms names in
    record {
      more = rest.more;
      is = rest.is;
      from = λ x among. contains_there (Said c) terms (Var x) (rest.from x among);
      own = λ x among. ⊎_elim (λ same. absurd (said_is_none c x same)) (rest.own x) (contains_cases (Said c) terms (Var x) among);
      numbered = λ k low high. contains_there (Said c) (map (local_in (fold with_term names terms)) terms) (Var k) (rest.numbered k low high);
    }
naming (Var y ∷ terms) names = ⊎_elim
    (λ (new : nat_eq (place_in names y) (length names) ≡ true). rw new (naming_added y terms names (eqb-true (place_in names y) (length names) new) (naming terms (names ++ y ∷ []))))
    (λ (old : nat_eq (place_in names y) (length names) ≡ false). rw old (naming_there y terms names
    (⊎_elim (λ among. among) (λ past. absurd (eqb-false (place_in names y) (length names) old past)) (among_or_not names y)) (naming terms names)))
    (cases_Bool (nat_eq (place_in names y) (length names)))

-- Parts of a body that name no variable of the head, with the values of one match.
use Rattle.std.proofs.Common.{◌≡◌, ◌⊎◌, ℕ, zero, suc, ◌+◌, ◌<◌, ◌≤◌, List, [], ◌∷◌, ◌++◌, length, Some, None, Option, refl, sym, ap, ◌∙◌, subst, inl, inr, ⊎_elim, arith, Contains, slice_get}
use Rattle.std.proofs.lemmas.Bool.{cases_lt}
use Rattle.lists.proofs.Members.{contains_here, contains_cases, contains_none, got_push, got_before}
use Rattle.meaning_laws.proofs.Deciding.{same_facts}
use Rattle.meaning.specs.declared.types.Term.TheVariants.{Var}
use Rattle.meaning.specs.declared.types.Val.{Val}
use Rattle.meaning.specs.declared.types.Val.TheVariants.{Const}
use Rattle.meaning.specs.declared.types.Atom.{Atom}
use Rattle.meaning.specs.declared.types.Ground.{Ground}
use Rattle.meaning.specs.Matching.{AreFacts, OccursIn, GroundsOf}
use Rattle.homomorphism.specs.Bindings.{Agrees}
use Rattle.homomorphism.specs.Widening.{Widens, AreUntouched}
use Rattle.homomorphism.specs.Frontier.{IsApart, AreApart, IsBetween, IsStart}
use Rattle.homomorphism.proofs.Extending.{wider}
use Rattle.homomorphism.proofs.Runs.{chosen, past, stays, below_or_last}

-- one atom among others
pub in_one : (atom : Atom) (x : ℕ) → OccursIn (atom ∷ []) x → Contains atom.terms (Var x)
in_one atom x (other, c, o) = ⊎_elim (λ e. subst (λ (t : Atom). Contains t.terms (Var x)) (sym e) o) (λ h. absurd (contains_none other h)) (contains_cases atom [] other c)

pub only : (facts : List Ground) (a : ℕ → Val) (atoms : List Atom) (atom : Atom) → Contains atoms atom → AreFacts Const (GroundsOf facts) a atoms → AreFacts Const (GroundsOf facts) a (atom ∷ [])
only facts a atoms atom among are other c = are other (⊎_elim (λ e. subst (Contains atoms) e among) (λ h. absurd (contains_none other h)) (contains_cases atom [] other c))

-- an assignment with the values that are given
abbrev pub both : List (Option Val) → (ℕ → Val) → ℕ → Val
both start a x = chosen (slice_get start x) (a x)

pub agrees_both : (start : List (Option Val)) (a : ℕ → Val) → Agrees start (both start a)
agrees_both start a x v e = ap (λ o. chosen o (a x)) e

pub start_itself : (facts : List Ground) (atoms head : List Atom) (given : List (Option Val)) → IsStart facts atoms head given given
start_itself facts atoms head given = record {
  width = refl;
  wider = λ a ag. ag;
  like = λ a ag are. (a, ag, are, λ x o l. refl);
}

module _ (facts : List Ground) (atoms head : List Atom) (given found start : List (Option Val)) (w : Widens facts atoms given found) (between : IsBetween given found start) where
  kept : (x : ℕ) (v : Val) → slice_get given x ≡ Some (Some v) → slice_get start x ≡ Some (Some v)
  kept x v e = ⊎_elim (λ same. same ∙ e) (λ same. same ∙ w.kept x v e) (between.1 x)

  -- where a variable has a value, it is as in the match
  valued : (a : ℕ → Val) (x : ℕ) → (slice_get start x ≡ Some None → ⊥) → both found a x ≡ both start a x
  valued a x has = by (slice_get start x) refl
    where
      by : (o : Option (Option Val)) → slice_get start x ≡ o → chosen (slice_get found x) (a x) ≡ chosen (slice_get start x) (a x)
      by None e = ap (λ o. chosen o (a x)) (past start found x (w.width ∙ sym between.0) e) ∙ sym (ap (λ o. chosen o (a x)) e)
      by (Some None) e = absurd (has e)
      by (Some (Some v)) e = ap (λ o. chosen o (a x)) (⊎_elim (λ same. w.kept x v (sym same ∙ e) ∙ sym e) (λ same. sym same) (between.1 x))

  one_fact : (a : ℕ → Val) → Agrees given a → AreFacts Const (GroundsOf facts) a atoms → (atom : Atom) → Contains atoms atom → IsApart atom.terms given start → AreFacts Const (GroundsOf facts) (both start a) (atom ∷ [])
  one_fact a ag are atom among apart = ⊎_elim
      (λ has. same_facts facts (both found a) (both start a) (atom ∷ []) (λ x occurs. valued a x (has x (in_one atom x occurs))) (only facts (both found a) atoms atom among (w.sound (both found a) (agrees_both found a))))
      (λ free. same_facts facts a (both start a) (atom ∷ []) (λ x occurs. stays given start between.0 kept a ag x (free x (in_one atom x occurs))) (only facts a atoms atom among are))
      apart

  -- an assignment that makes the atoms facts has one like it with the values of the match
  pub started_is : AreApart atoms given start → AreUntouched head given start → IsStart facts atoms head given start
  started_is apart left = record {
    width = between.0;
    wider = wider given start kept;
    like = λ a ag are. (both start a, agrees_both start a, (λ atom among. one_fact a ag are atom among (apart atom among) atom (contains_here atom [])), λ x occurs low. stays given start between.0 kept a ag x (left x occurs));
  }

-- the values of the first variables
pub record AreBetween (given found : List (Option Val)) (count : ℕ) (start : List (Option Val)) : Type 0 where
  pub width : length start ≡ count
  pub each : (x : ℕ) → x < count → (slice_get start x ≡ slice_get given x) ⊎ (slice_get start x ≡ slice_get found x)

pub between_none : (given found : List (Option Val)) → AreBetween given found 0 []
between_none given found = record { width = refl; each = λ x l. absurd (omega arith) }

pub length_push : {X : Type 0} (xs : List X) (x : X) → length (xs ++ x ∷ []) ≡ length xs + 1
length_push [] x = refl
length_push (y ∷ xs) x = let h = length_push xs x in omega arith

pub between_more : (given found start : List (Option Val)) (count : ℕ) (value : Option Val) → AreBetween given found count start → (slice_get given count ≡ Some value) ⊎ (slice_get found count ≡ Some value) → AreBetween given found (count + 1) (start ++ value ∷ [])
between_more given found start count value r either = record {
  width = let e = length_push start value in let w = r.width in omega arith;
  each = λ x l. ⊎_elim (λ less. front x less (r.each x less)) (λ e. last x e) (below_or_last x count l);
}
  where
    got : (x : ℕ) → x < count → slice_get (start ++ value ∷ []) x ≡ slice_get start x
    got x less = got_before start (value ∷ []) x (subst (λ n. x < n) (sym r.width) less)

    front : (x : ℕ) → x < count → (slice_get start x ≡ slice_get given x) ⊎ (slice_get start x ≡ slice_get found x) →
        (slice_get (start ++ value ∷ []) x ≡ slice_get given x) ⊎ (slice_get (start ++ value ∷ []) x ≡ slice_get found x)
    front x less same = ⊎_elim (λ e. inl (got x less ∙ e)) (λ e. inr (got x less ∙ e)) same

    here : slice_get (start ++ value ∷ []) count ≡ Some value
    here = ap (slice_get (start ++ value ∷ [])) (sym r.width) ∙ got_push start value

    last : (x : ℕ) → x ≡ count → (slice_get (start ++ value ∷ []) x ≡ slice_get given x) ⊎ (slice_get (start ++ value ∷ []) x ≡ slice_get found x)
    last x e = ⊎_elim (λ g. inl (ap (slice_get (start ++ value ∷ [])) e ∙ here ∙ sym (ap (slice_get given) e ∙ g)))
        (λ g. inr (ap (slice_get (start ++ value ∷ [])) e ∙ here ∙ sym (ap (slice_get found) e ∙ g))) either

pub between_all : (given found start : List (Option Val)) (count : ℕ) → count ≡ length given → length found ≡ length given → AreBetween given found count start → IsBetween given found start
between_all given found start count e same r = (r.width ∙ e, λ x. ⊎_elim (λ less. r.each x (subst (λ n. x < n) (sym e) less)) (λ more. inl (behind start x (subst (λ n. n ≤ x) (sym (r.width ∙ e)) more) ∙ sym (behind given x more))) (cases_lt x (length given)))
  where
    behind : {X : Type 0} (xs : List X) (x : ℕ) → length xs ≤ x → slice_get xs x ≡ None
    behind [] x l = refl
    behind (y ∷ xs) zero l = absurd (omega arith)
    behind (y ∷ xs) (suc x) l = behind xs x (omega arith)

-- Matches with given head values.
use Rattle.std.proofs.Common.{◌≡◌, ℕ, zero, suc, ◌+◌, List, [], length, take, replicate, refl, sym, ap, ◌∙◌, subst, ⊎_elim, arith}
use Rattle.std.specs.Prelude.{Contains, Some, None, Option, slice_get}
use Rattle.std.proofs.lemmas.List.Elements.{Contains-push_cases}
use Rattle.lists.proofs.Places.{take_got}
use Rattle.meaning.specs.declared.types.Query.{Query}
use Rattle.meaning.specs.declared.types.Ground.{Ground}
use Rattle.meaning.specs.declared.types.Val.{Val}
use Rattle.meaning.specs.declared.types.Val.TheVariants.{Const}
use Rattle.meaning.specs.Matching.{IsQueryAnswer, GroundsOf}
use Rattle.meaning.specs.Runs.{Proof, HasGoal}
use Rattle.homomorphism.specs.Bindings.{Agrees, at}
use Rattle.homomorphism.specs.Narrowing.{Narrows, Differs}
use Rattle.homomorphism.specs.Matches.{IsMatch, NoMatch}
use Rattle.accessible_copy.specs.Goals.{IsHeadMatch}

none_given : (n x : ℕ) (v : Val) → slice_get {X = Option Val} (replicate n None) x ≡ Some (Some v) → ⊥
none_given zero x v e = cc
none_given (suc n) zero v e = cc
none_given (suc n) (suc x) v e = none_given n x v e

pub agrees_all : (n : ℕ) (a : ℕ → Val) → Agrees (replicate n None) a
agrees_all n a x v e = absurd (none_given n x v e)

pub long : (n : ℕ) → length {A = Option Val} (replicate n None) ≡ n
long zero = refl
long (suc n) = ap suc (long n)

pub head_some : (facts : List Ground) (query : Query) (head : List Val) (narrow : List (Option Val)) (values : List Val) → Narrows query.head head (replicate query.variables None) narrow → IsMatch facts query.atoms narrow values → IsHeadMatch facts query head values
head_some facts query head narrow values n m = record {
  width = m.width ∙ n.width ∙ long query.variables;
  facts_are = m.facts_are;
  head_is = sym (n.sound (at values) m.agrees);
}

pub head_none : (facts : List Ground) (query : Query) (head : List Val) (narrow : List (Option Val)) → Narrows query.head head (replicate query.variables None) narrow → NoMatch facts query.atoms narrow → IsQueryAnswer Const (GroundsOf facts) query head → ⊥
head_none facts query head narrow n nothing (a, are, e) = nothing a (n.complete a (agrees_all query.variables a) (sym e)) are

pub head_differs : (facts : List Ground) (query : Query) (head : List Val) → Differs query.head head (replicate query.variables None) → IsQueryAnswer Const (GroundsOf facts) query head → ⊥
head_differs facts query head differs (a, are, e) = differs a (agrees_all query.variables a) (sym e)

-- the first queries have no match
pub NoGoal : List Query → List Ground → List Val → Type 0
NoGoal queries facts head = (query : Query) → Contains queries query → IsQueryAnswer Const (GroundsOf facts) query head → ⊥

pub none_first : (facts : List Ground) (head : List Val) → NoGoal [] facts head
unfolding NoGoal
none_first facts head query c = absurd (omega arith)

pub none_more : (queries : List Query) (facts : List Ground) (head : List Val) (n : ℕ) (query : Query) → slice_get queries n ≡ Some query → NoGoal (take n queries) facts head → (IsQueryAnswer Const (GroundsOf facts) query head → ⊥) → NoGoal (take (n + 1) queries) facts head
unfolding NoGoal
none_more queries facts head n query got before not other c =
    ⊎_elim (λ h. before other h) (λ same. subst (λ (q : Query). IsQueryAnswer Const (GroundsOf facts) q head → ⊥) same not)
    (Contains-push_cases (take n queries) query other (subst (λ z. Contains z other) (take_got queries n query got) c))

pub none_all : (queries : List Query) (proof : Proof) (head : List Val) → NoGoal queries proof.copy head → HasGoal queries proof head → ⊥
unfolding NoGoal
none_all queries proof head nothing (query, among, is) = nothing query among is

-- The goals that are possible over a base are the queries that have an answer there, one query after the other.
use Rattle.std.proofs.Common.{◌≡◌, ◌⊎◌, ℕ, ◌+◌, List, [], ◌∷◌, ◌++◌, length, take, Some, sym, ap, ◌∙◌, subst, ⊎_elim, arith}
use Rattle.std.specs.Prelude.{Contains, slice_get}
use Rattle.std.proofs.lemmas.List.{length_push}
use Rattle.std.proofs.lemmas.List.Elements.{Contains-append_left, Contains-push, Contains-push_cases}
use Rattle.lists.proofs.Places.{take_got}
use Rattle.meaning.specs.declared.types.Ground.{Ground}
use Rattle.meaning.specs.declared.types.Query.{Query}
use Rattle.meaning.specs.declared.types.Val.{Val}
use Rattle.meaning.specs.declared.types.Val.TheVariants.{Const}
use Rattle.meaning.specs.Matching.{IsQueryAnswer, GroundsOf}
use Rattle.meaning.specs.Triggers.{ground}
use Rattle.proof_search.specs.Choices.{ArePossibleGoals}

module _ (queries : List Query) (head : List Val) (facts : List Ground) where
  -- those over more facts are those over fewer
  pub possible_of_more : (base : List Ground) (goals : List Query) → ((fact : Ground) → Contains base fact → Contains facts fact) →
      ArePossibleGoals queries head facts goals → ArePossibleGoals queries head base goals
  possible_of_more base goals within are = record {
    within = are.within;
    answered = λ query among (a, made, e). are.answered query among (a, (λ atom c. within (ground a atom) (made atom c)), e);
    few = are.few;
  }

  module _ (n : ℕ) (query : Query) (got : slice_get queries n ≡ Some query) (goals : List Query)
      (are : ArePossibleGoals (take n queries) head facts goals) where
    before : (q : Query) → Contains (take (n + 1) queries) q → Contains (take n queries) q ⊎ (query ≡ q)
    before q among = Contains-push_cases (take n queries) query q (subst (λ list. Contains list q) (take_got queries n query got) among)

    kept : (q : Query) → Contains (take n queries) q → Contains (take (n + 1) queries) q
    kept q among = subst (λ list. Contains list q) (sym (take_got queries n query got)) (Contains-append_left (take n queries) (query ∷ []) q among)

    -- one more
    pub possible_more : ArePossibleGoals (take (n + 1) queries) head facts (goals ++ query ∷ [])
    possible_more = record {
      within = λ q among. ⊎_elim (λ old. kept q (are.within q old))
          (λ same. subst (λ list. Contains list q) (sym (take_got queries n query got))
          (subst (λ x. Contains (take n queries ++ query ∷ []) x) same (Contains-push (take n queries) query)))
          (Contains-push_cases goals query q among);
      answered = λ q among answer. ⊎_elim (λ old. Contains-append_left goals (query ∷ []) q (are.answered q old answer))
          (λ same. subst (λ x. Contains (goals ++ query ∷ []) x) same (Contains-push goals query)) (before q among);
      few = let long = length_push goals query in
          let all = ap length (take_got queries n query got) ∙ length_push (take n queries) query in
          let few = are.few in omega arith;
    }

    -- one that has no answer
    pub possible_passed : (IsQueryAnswer Const (GroundsOf facts) query head → ⊥) → ArePossibleGoals (take (n + 1) queries) head facts goals
    possible_passed none = record {
      within = λ q among. kept q (are.within q among);
      answered = λ q among answer. ⊎_elim (λ old. are.answered q old answer)
          (λ same. absurd (none (subst (λ x. IsQueryAnswer Const (GroundsOf facts) x head) (sym same) answer))) (before q among);
      few = let all = ap length (take_got queries n query got) ∙ length_push (take n queries) query in
          let few = are.few in omega arith;
    }

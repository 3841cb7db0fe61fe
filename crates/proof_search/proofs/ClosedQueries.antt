-- What a search over a query closed under the rules says of the query.
use Rattle.std.proofs.Common.{◌≡◌, ℕ, ◌≤◌, List, length, map, sym, ap, ◌∙◌, subst}
use Rattle.std.specs.Prelude.{Contains}
use Rattle.meaning.specs.declared.types.Branch.{Branch}
use Rattle.meaning.specs.declared.types.Query.{Query}
use Rattle.meaning.specs.declared.types.Val.TheVariants.{Const, Label}
use Rattle.meaning.specs.Values.{Value}
use Rattle.meaning.specs.Sorts.{AtomsAreSorted}
use Rattle.meaning.specs.Matching.{value_of}
use Rattle.meaning.specs.Runs.{opening, frozen_head}
use Rattle.meaning.specs.Fitting.{RulesFit, QueryFits, QueryHasConstants}
use Rattle.access_schema.specs.Meaning.{meaning_of}
use Rattle.access_schema.proofs.Keeping.{well_formed, rules_fit, rules_sorted}
use Rattle.rule_pass.proofs.Bounds.{orderly}
use Rattle.least_search.specs.Walks.{CanGain}
use Rattle.least_search.specs.Costs.{IsLeastCost}
use Rattle.accessible_copy.specs.Proving.{Proving}
use Rattle.exposure_search.specs.Making.{IsBaseProof}
use Rattle.exposure_search.specs.Aims.{AreNamedFor}
use Rattle.exposure_search.specs.Exploring.{Exploring, exploring_of, IsFounded, space_size, CanExpose, GainsAt, HasGoalAt}
use Rattle.small_base.specs.Closed.{IsClosed}
use Rattle.small_base.proofs.Refuting.{rivals_of_more}
use Rattle.proof_search.specs.Choices.{ArePossibleGoals, IsLeastFor, CostsAtMost, IsSpaceOf}
use Rattle.proof_search.specs.declared.question.Question.{Question}
use Rattle.proof_search.specs.Questions.{MOST_KNOWN, IsQuestion}
use Rattle.proof_search.proofs.Based.{named_for}
use Rattle.proof_search.proofs.FewLabels.{labels_in}
use Rattle.proof_search.proofs.Cheaper.{goals_in, least_for}

module _ (question : Question) (is : IsQuestion question) (more : Query) (closed : IsClosed (meaning_of question.schema.now) question.query.now more) where
  pub fits_more : QueryFits (meaning_of question.schema.now) more
  fits_more = closed.fits (is.queries question.query.now is.among).fits

  known_rules : RulesFit (meaning_of question.schema.now) question.known.now
  known_rules = rules_fit question.schema.now question.known.now is.known

  known_more : QueryHasConstants question.known.now more
  known_more = closed.constants question.known.now known_rules.have (is.queries question.query.now is.among).constants

  sorted_more : AtomsAreSorted (meaning_of question.schema.now) more.atoms
  sorted_more = closed.sorted (rules_sorted question.schema.now) (is.queries question.query.now is.among).sorted

  -- the head of the question is the frozen one of the closed query
  head_more : question.head.now ≡ frozen_head more
  head_more = is.head ∙ ap (map (value_of Const Label)) (sym closed.more_atoms.head)

  -- what stands in its base has names
  pub named_over : (base : Proving) → IsBaseProof (meaning_of question.schema.now) base → base.start ≡ opening more → base.constants ≡ question.known.now →
      (goals : List Query) → ((q : Query) → Contains goals q → Contains question.queries.now q) →
      AreNamedFor (meaning_of question.schema.now) base.constants base.end.base base.end.next goals question.head.now
  named_over = named_for question is more fits_more known_more head_more

  module _ (base : Proving) (bases : IsBaseProof (meaning_of question.schema.now) base)
      (start : base.start ≡ opening more) (constants : base.constants ≡ question.known.now)
      (few : length base.entries ≤ question.firings) (goals : List Query)
      (are : ArePossibleGoals question.queries.now question.head.now base.end.base goals) (space : Exploring)
      (e : space ≡ exploring_of (meaning_of question.schema.now) base goals question.head.now question.firings space.marks) (founded : IsFounded space) where
    space_over : IsSpaceOf (meaning_of question.schema.now) question.queries.now more question.firings space
    space_over = record {
      schema_is = ap (λ (x : Exploring). x.schema) e;
      start = ap (λ (x : Exploring). x.start) e ∙ start;
      goals = goals_in (meaning_of question.schema.now) base question.queries.now goals question.head.now question.firings are space e;
      head = ap (λ (x : Exploring). x.head) e ∙ head_more;
      budget = ap (λ (x : Exploring). x.budget) e;
      labels = labels_in question.schema.now base goals question.head.now question.firings bases.run few space e;
      founded = founded;
    }

    known_is : question.known.now ≡ space.constants
    known_is = sym (ap (λ (x : Exploring). x.constants) e ∙ constants)

    -- over the closed query, and so over the query
    pub least_over : (best : ℕ) → IsLeastCost (space_size space) (CanGain (CanExpose space) (GainsAt space)) (HasGoalAt space) best → (branch : Branch) → CostsAtMost (meaning_of question.schema.now) branch best →
        IsLeastFor (meaning_of question.schema.now) question.known.now question.queries.now question.query.now branch
    least_over best least branch costs rival cost other is_rival cost_is other_is =
        let over : IsLeastFor (meaning_of question.schema.now) space.constants question.queries.now more branch =
        least_for (meaning_of question.schema.now) question.queries.now more question.firings space space_over (subst (λ known. RulesFit (meaning_of question.schema.now) known) known_is known_rules)
        (λ q among. subst (λ known. QueryHasConstants known q) known_is (is.queries q among).constants) fits_more (subst (λ known. QueryHasConstants known more) known_is known_more)
        (well_formed question.schema.now) (orderly question.schema.now) (rules_sorted question.schema.now) sorted_more
        is.firings (subst (λ (known : List Value). length known ≤ MOST_KNOWN) known_is is.few_known) best least branch
        costs in
        subst (λ known. IsLeastFor (meaning_of question.schema.now) known question.queries.now more branch) (sym known_is) over rival cost other
        (rivals_of_more (meaning_of question.schema.now) question.known.now question.queries.now question.query.now more rival closed.more_atoms is_rival) cost_is other_is

use Rattle.std.proofs.Common.{◌≡◌, ◌+◌, ◌++◌, ◌∷◌, [], ◌∙◌, List, Some, Ok, length, take, sym, ap, subst}
use Rattle.std.specs.Prelude.{slice_get}
use Rattle.std.proofs.lemmas.List.{take_all}
use Rattle.lists.proofs.Places.{got_indexed}
use Rattle.meaning.specs.declared.types.Query.{Query}
use Rattle.proof_search.specs.Choices.{ArePossibleGoals}
use Rattle.proof_search.proofs.PossibleGoals.{possible_more, possible_passed}
use Rattle.proof_search.proofs.goals.answered.Goals.{then-branch+in_ok-copied+in_ok-push, else-branch}
use Rattle.proof_search.proofs.goals.answered.Goals as goal

pub loop-query-preserved : goal.loop-query-preserved
loop-query-preserved c =
    let queries = c.args.queries.now in
    let head = c.args.head.now in
    let facts = c.args.facts.now in
    let n = c.loop-query.query-index in
    let query = c.query-item.result in
    let before = c.loop-query.goals in
    let got : slice_get queries n ≡ Some query = got_indexed queries n query c.loop-query-test.true c.query-item.is in
    elim c.if-branch.branch [
      | then-branch+in_ok-copied+in_ok-push w ↦
          let now : c.if-branch.goals ≡ before ++ query ∷ [] = w.goals-is ∙ w.in_ok-push.ensures.ok ∙ ap (λ (q : Query). before ++ q ∷ []) w.in_ok-copied.ensures in
          subst (ArePossibleGoals (take (n + 1) queries) head facts) (sym now) (possible_more queries head facts n query got before c.loop-query.invariant)
      | else-branch w ↦ rw w.goals-is
          (possible_passed queries head facts n query got before c.loop-query.invariant (c.in_ok-has_answer.ensures (ap Ok w.if-branch.false)))
    ]

pub returns : goal.returns
returns c =
    subst (λ (list : List Query). ArePossibleGoals list c.args.head.now c.args.facts.now c.loop-query.goals)
    (take_all c.loop-query.query-index c.args.queries.now c.loop-query-test.false) c.loop-query.invariant

use Rattle.std.proofs.Common.{◌≡◌, ◌≤◌, Some, length, subst}
use Rattle.std.specs.Prelude.{slice_get}
use Rattle.lists.proofs.Places.{got_indexed}
use Rattle.access_schema.specs.Meaning.{meaning_of}
use Rattle.proof_search.specs.Branches.{IsRefutingPair, IsSpentLog}
use Rattle.proof_search.specs.Outcomes.{IsFirst}
use Rattle.proof_search.proofs.Found.{none_tried, branch_more, spent_more, stuck_here, all_branches, first_spent}
use Rattle.proof_search.proofs.branches.first_branches.Goals.{in-Branch+in_ok-push-in-Branch, in-Spent}
use Rattle.proof_search.proofs.branches.first_branches.Goals as goal

pub loop-number-init : goal.loop-number-init
loop-number-init c =
    let asked = c.args.questions.now in
    none_tried (meaning_of asked.schema.now) asked.known.now asked.queries.now asked.firings c.new-firsts.result c.new-firsts.ensures

pub loop-number-preserved : goal.loop-number-preserved
loop-number-preserved c =
    let asked = c.args.questions.now in
    let schema = meaning_of asked.schema.now in
    let known = asked.known.now in
    let queries = asked.queries.now in
    let n = c.loop-number.number in
    let query = c.index-queries-number.result in
    let got : slice_get queries n ≡ Some query =
    subst (λ list. slice_get list n ≡ Some query) c.as_slice-queries.ensures
    (got_indexed c.as_slice-queries.result.now n query c.loop-number-test.true c.index-queries-number.is) in
    elim c.match-branch-2.branch [
      | in-Branch+in_ok-push-in-Branch w ↦
          let one : IsFirst schema known queries query w.in-Branch.first = rw w.in-Branch.is at c.in_ok-first.ensures in
          rw (w.firsts-is, w.spent-is, w.in_ok-push-in-Branch.ensures.ok)
          (branch_more schema known queries asked.firings n query got c.loop-number.firsts c.loop-number.spent w.in-Branch.first c.loop-number.invariant one)
      | in-Spent w ↦
          let one : IsSpentLog schema known queries asked.firings query w.in-Spent.log = rw w.in-Spent.is at c.in_ok-first.ensures in
          rw (w.firsts-is, w.spent-is, w.or-spent.ensures)
          (spent_more schema known queries asked.firings n query got c.loop-number.firsts c.loop-number.spent w.in-Spent.log c.loop-number.invariant one)
    ]

pub returns-in-Stuck : goal.returns-in-Stuck
returns-in-Stuck c =
    let asked = c.args.questions.now in
    let schema = meaning_of asked.schema.now in
    let n = c.loop-number.number in
    let query = c.index-queries-number.result in
    let got : slice_get asked.queries.now n ≡ Some query =
    subst (λ list. slice_get list n ≡ Some query) c.as_slice-queries.ensures
    (got_indexed c.as_slice-queries.result.now n query c.loop-number-test.true c.index-queries-number.is) in
    let one : IsRefutingPair schema asked.known.now asked.queries.now query c.in-Stuck.pair = rw c.in-Stuck.is at c.in_ok-first.ensures in
    stuck_here schema asked.known.now asked.queries.now asked.firings n query got c.loop-number.firsts c.loop-number.spent c.in-Stuck.pair c.loop-number.invariant one

pub returns-in-Some : goal.returns-in-Some
returns-in-Some c =
    let asked = c.args.questions.now in
    let most : length asked.queries.now ≤ c.loop-number.number = subst (λ list. length list ≤ c.loop-number.number) c.as_slice-queries.ensures c.loop-number-test.false in
    first_spent (meaning_of asked.schema.now) asked.known.now asked.queries.now asked.firings c.loop-number.number c.loop-number.firsts most
    c.in-Some.number c.in-Some.log (rw c.in-Some.is at c.loop-number.invariant)

pub returns-in-None : goal.returns-in-None
returns-in-None c =
    let asked = c.args.questions.now in
    let most : length asked.queries.now ≤ c.loop-number.number = subst (λ list. length list ≤ c.loop-number.number) c.as_slice-queries.ensures c.loop-number-test.false in
    all_branches (meaning_of asked.schema.now) asked.known.now asked.queries.now asked.firings c.loop-number.number c.loop-number.firsts most
    (rw c.in-None.is at c.loop-number.invariant)

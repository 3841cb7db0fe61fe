use Rattle.std.proofs.Common.{◌≡◌, ◌++◌, length, take}
use Rattle.std.specs.List.{AllZip}
use Rattle.std.specs.Vec.Iter.{into_iter_items}
use Rattle.proof_search.specs.Questions.{IsChoiceFor}
use Rattle.proof_search.proofs.branches.chosen_branches.Given as goal

-- the choices of the queries so far
abbrev pub invariant-loop-first : goal.invariant-loop-first
invariant-loop-first l = record {
  parts : l.yielded ++ into_iter_items l.first-iterator ≡ l.fn.firsts;
  number : l.number ≡ length l.yielded;
  chosen : AllZip (IsChoiceFor l.questions l.search) (take l.number l.questions.queries.now) l.choices;
}

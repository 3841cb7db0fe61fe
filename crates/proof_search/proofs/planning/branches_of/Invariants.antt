use Rattle.std.proofs.Common.{◌≡◌, ◌++◌}
use Rattle.std.specs.Vec.Iter.{into_iter_items}
use Rattle.proof_search.specs.Forms.{branches_in}
use Rattle.proof_search.proofs.planning.branches_of.Given as goal

-- the branches of the choices so far
abbrev pub invariant-loop-choice : goal.invariant-loop-choice
invariant-loop-choice l = record {
  parts : l.yielded ++ into_iter_items l.choice-iterator ≡ l.fn.choices;
  branches : l.branches ≡ branches_in l.yielded;
}

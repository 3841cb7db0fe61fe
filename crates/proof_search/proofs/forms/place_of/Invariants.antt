use Rattle.std.proofs.Common.{◌≡◌, ◌+◌, length}
use Rattle.proof_search.specs.Forms.{place_in}
use Rattle.proof_search.proofs.forms.place_of.Given as goal

abbrev pub invariant-loop-left : goal.invariant-loop-left
invariant-loop-left l = record {
  place : l.place + place_in l.left l.before ≡ place_in l.forms l.number;
  far : l.place + length l.left ≡ length l.forms;
}

abbrev pub decreases-loop-left : goal.decreases-loop-left
decreases-loop-left l = length l.left

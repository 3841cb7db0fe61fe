use Rattle.std.proofs.Common.{◌≡◌, ℕ, ◌<◌, Some, slice_get}
use Rattle.meaning.specs.declared.types.Rule.{Rule}
use Rattle.data_verify.specs.Finding.{IsOpen}
use Rattle.data_verify.proofs.verifying.has_open.Given as goal

abbrev pub invariant-loop-number : goal.invariant-loop-number
invariant-loop-number l = (k : ℕ) (rule : Rule) → k < l.number → slice_get l.rules k ≡ Some rule → IsOpen l.found k rule → ⊥

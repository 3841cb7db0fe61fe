use Rattle.std.proofs.Common.{◌≡◌, ◌<◌, ℕ, Contains, length, slice_index_or, take}
use Rattle.meaning.specs.declared.types.Term.TheVariants.{Var}
use Rattle.homomorphism.proofs.groups.turn_all.Given as goal

abbrev pub invariant-loop-term : goal.invariant-loop-term
invariant-loop-term l = (x : ℕ) → Contains (take l.term-index l.terms) (Var x) → x < length l.owners →
    slice_index_or l.counts (slice_index_or l.owners x 0) 0 ≡ slice_index_or l.whole (slice_index_or l.owners x 0) 0

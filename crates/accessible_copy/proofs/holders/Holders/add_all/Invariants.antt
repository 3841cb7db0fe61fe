use Rattle.std.proofs.Common.{ℕ, take}
use Rattle.std.specs.Prelude.{Contains}
use Rattle.meaning.specs.declared.types.Val.{Val}
use Rattle.accessible_copy.specs.OpenFacts.{held_by}
use Rattle.accessible_copy.proofs.holders.Holders.add_all.Given as goal

abbrev pub invariant-loop-val : goal.invariant-loop-val
invariant-loop-val l =
    ((value : Val) → Contains (take l.val-index l.vals) value → Contains (held_by l.self value) l.number)
    × ((value : Val) (n : ℕ) → Contains (held_by l.fn.self value) n → Contains (held_by l.self value) n)

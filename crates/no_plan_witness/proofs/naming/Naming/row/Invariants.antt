use Rattle.std.proofs.Common.{◌≡◌, take, map}
use Rattle.meaning.specs.Homomorphisms.{image}
use Rattle.no_plan_witness.specs.Texts.{text_under}
use Rattle.no_plan_witness.proofs.naming.Naming.row.Given as goal

abbrev pub invariant-loop-val : goal.invariant-loop-val
invariant-loop-val l = l.row.items ≡ map (image (text_under l.self)) (take l.val-index l.vals)

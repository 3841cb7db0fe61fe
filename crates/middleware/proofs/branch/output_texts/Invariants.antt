use Rattle.std.proofs.Common.{◌≡◌, map, take}
use Rattle.middleware.specs.Branches.{output_of}
use Rattle.middleware.proofs.branch.output_texts.Given as goal

abbrev pub invariant-loop-out : goal.invariant-loop-out
invariant-loop-out l = map (λ s. s.now) l.texts.items ≡ output_of (take l.out-index l.outs) l.row

use Rattle.std.proofs.Common.{◌≡◌, ℕ, List, map, take}
use Rattle.middleware.specs.BlockRounds.{out_of}
use Rattle.middleware.specs.Branches.{output_of}
use Rattle.middleware.proofs.branch.local_outs.Given as goal

abbrev pub invariant-loop-out : goal.invariant-loop-out
invariant-loop-out l = (texts : ℕ → List ℕ) → output_of l.locals (map texts l.columns) ≡ map (out_of texts) (take l.out-index l.outs)

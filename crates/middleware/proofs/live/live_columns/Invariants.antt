use Rattle.std.proofs.Common.{take}
use Rattle.middleware.specs.Cutting.{KeepsLive}
use Rattle.middleware.specs.Live.{is_live}
use Rattle.middleware.proofs.live.live_columns.Given as goal

abbrev pub invariant-loop-number : goal.invariant-loop-number
invariant-loop-number l = KeepsLive (is_live l.steps l.outs) l.columns (take l.number l.columns) l.kept

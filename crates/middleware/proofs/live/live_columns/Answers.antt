use Rattle.std.proofs.Common.{List, ℕ, arith, subst}
use Rattle.std.proofs.lemmas.List.{take_all}
use Rattle.middleware.specs.Cutting.{KeepsLive}
use Rattle.middleware.specs.Live.{is_live}
use Rattle.middleware.proofs.CutBlocks.{one_looked}
use Rattle.middleware.proofs.live.live_columns.Goals as goal

pub loop-number-preserved : goal.loop-number-preserved
loop-number-preserved c =
    one_looked (is_live c.args.steps.now c.args.outs.now) c.args.columns.now c.loop-number.number 0 (omega arith) c.loop-number.kept c.in_ok-kept.kept c.in_ok-kept.ensures c.loop-number.invariant

pub returns : goal.returns
returns c = subst (λ (l : List ℕ). KeepsLive (is_live c.args.steps.now c.args.outs.now) c.args.columns.now l c.loop-number.kept) (take_all c.loop-number.number c.args.columns.now (omega arith)) c.loop-number.invariant

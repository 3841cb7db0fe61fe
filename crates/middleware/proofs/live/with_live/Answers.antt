use Rattle.std.proofs.Common.{sym, ◌∙◌}
use Rattle.std.proofs.lemmas.Result.{IfOk-weaker}
use Rattle.middleware.specs.Cutting.{AddsKept, KeepsOne}
use Rattle.middleware.specs.Live.{is_live}
use Rattle.middleware.proofs.CutBlocks.{one_dead, one_live}
use Rattle.middleware.proofs.live.with_live.Goals as goal

pub returns : goal.returns
returns c = one_dead (is_live c.args.steps.now c.args.outs.now) c.args.column c.args.number c.args.kept (sym c.is_live_column.ensures ∙ c.if-is_live_column.false)

pub returns-then-is_live_column : goal.returns-then-is_live_column
returns-then-is_live_column c = IfOk-weaker c.with_kept.result (λ more. AddsKept c.args.column c.args.number c.args.kept more) (λ more. KeepsOne (is_live c.args.steps.now c.args.outs.now) c.args.column c.args.number c.args.kept more)
    (λ more a. one_live (is_live c.args.steps.now c.args.outs.now) c.args.column c.args.number c.args.kept more a) c.with_kept.ensures

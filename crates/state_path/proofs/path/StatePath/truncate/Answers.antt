use Rattle.std.proofs.Common.{◌≡◌, ◌∙◌}
use Rattle.state_path.proofs.Paths.{all_left, one_less, none_to_go}
use Rattle.state_path.proofs.path.StatePath.truncate.Goals as goal

pub loop-init : goal.loop-init
loop-init g c = (c.len-end.ensures, all_left c.args.self.now c.args.count c.len-end.result c.len-end.ensures)

pub loop-preserved : goal.loop-preserved
loop-preserved g c =
    (c.loop.invariant.0, c.pop.ensures ∙ one_less c.args.self.now c.loop.self c.args.count c.len-end.result c.loop.counter c.loop.invariant.0 c.loop.auto.counter c.loop-test.true c.loop.invariant.1)

pub returns : goal.returns
returns g c = none_to_go c.args.self.now c.loop.self c.args.count c.len-end.result c.loop.counter c.loop-test.false c.loop.invariant.1

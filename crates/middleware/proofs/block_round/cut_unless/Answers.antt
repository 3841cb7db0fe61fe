use Rattle.middleware.specs.Live.{is_live}
use Rattle.middleware.proofs.Gathering.{cut_itself}
use Rattle.middleware.proofs.block_round.cut_unless.Goals as goal

pub returns-then-stays : goal.returns-then-stays
returns-then-stays c = cut_itself (is_live c.args.steps.now c.args.outs.now) c.args.block

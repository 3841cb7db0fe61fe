use Rattle.middleware.specs.Live.{is_live}
use Rattle.middleware.proofs.Gathering.{cut_itself}
use Rattle.middleware.proofs.live.live_block.Goals as goal

pub returns-in-Err : goal.returns-in-Err
returns-in-Err c = cut_itself (is_live c.args.steps.now c.args.outs.now) c.args.block

pub returns-then-len-lt2 : goal.returns-then-len-lt2
returns-then-len-lt2 c = cut_itself (is_live c.args.steps.now c.args.outs.now) c.args.block

use Rattle.std.proofs.Common.{◌∙◌, List, map, arith, ap}
use Rattle.std.proofs.lemmas.List.{take_all}
use Rattle.meaning.specs.declared.types.Out.{Out}
use Rattle.middleware.specs.BlockRounds.{out_of}
use Rattle.middleware.proofs.BlockRounding.{outs_more}
use Rattle.middleware.proofs.branch.local_outs.Goals as goal

pub loop-out-preserved : goal.loop-out-preserved
loop-out-preserved c =
    outs_more c.args.columns.now c.args.outs.now c.loop-out.out-index c.out-item.result (omega arith) c.out-item.is c.loop-out.locals c.push.new.self c.in_ok-local_out.field-0 c.in_ok-push.ensures.ok
    c.in_ok-local_out.ensures c.loop-out.invariant

pub returns : goal.returns
returns c = λ texts. c.loop-out.invariant texts ∙ ap (λ (l : List Out). map (out_of texts) l) (take_all c.loop-out.out-index c.args.outs.now (omega arith))

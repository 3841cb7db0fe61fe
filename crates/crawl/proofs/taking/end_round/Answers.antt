use Rattle.std.proofs.Common.{refl, arith}
use Rattle.crawl.proofs.Gaining.{round_taken}
use Rattle.crawl.proofs.taking.end_round.Goals as goal

pub returns : goal.returns
returns c = λ answers start none long gains.
    let made = gains.made in
    let rounds = gains.rounds in
    round_taken answers start start c.args.progress.now refl none
    refl gains c.arrange.new.self.list.items c.arrange.ensures.same c.settle.new.self c.take_in.new.self
    c.settle.ensures.all c.settle.ensures.none c.in_ok-take_in.ensures _ c.arrange-2.ensures.all c.arrange-2.ensures.same
    c.arrange-2.ensures.ascend refl (omega (arith, made, long)) (omega (arith, rounds))

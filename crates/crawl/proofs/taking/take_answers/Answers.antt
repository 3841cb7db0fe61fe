use Rattle.std.proofs.Common.{◌≡◌, Some, sym, subst, arith}
use Rattle.std.specs.Prelude.{slice_get, Contains}
use Rattle.lists.proofs.Members.{contains_got}
use Rattle.lists.proofs.Places.{got_indexed}
use Rattle.crawl.specs.declared.known.KnownValues.{KnownValues}
use Rattle.crawl.proofs.Gaining.{answers_more}
use Rattle.crawl.proofs.taking.take_answers.Goals as goal

pub take_rows-requires : goal.take_rows-requires
take_rows-requires c = λ v known.
    let at = got_indexed c.args.asks.now c.loop-ask.ask-index c.ask-item.result c.loop-ask-test.true c.ask-item.is in
    subst (λ (k : KnownValues). Contains k.all.keys v) (sym c.loop-ask.invariant.gains.known)
    (c.requires.known c.ask-item.result
    (contains_got c.args.asks.now c.loop-ask.ask-index c.ask-item.result at) v known)

pub loop-ask-preserved : goal.loop-ask-preserved
loop-ask-preserved c =
    let number = c.loop-ask.invariant.number in
    let its : slice_get c.args.answers.now c.loop-ask.ask-index ≡ Some c.rows_at-rows.result = subst (λ k. slice_get c.args.answers.now k ≡ Some c.rows_at-rows.result) number c.rows_at-rows.ensures in
    record {
      number = omega (arith, number);
      gains = answers_more c.args.asks.now c.args.answers.now c.loop-ask.ask-index c.ask-item.result c.rows_at-rows.result c.requires.answered
          (got_indexed c.args.asks.now c.loop-ask.ask-index c.ask-item.result c.loop-ask-test.true c.ask-item.is) its
          c.args.progress.now c.loop-ask.progress c.take_rows.new.self c.loop-ask.invariant.gains c.in_ok-take_rows.ensures;
    }

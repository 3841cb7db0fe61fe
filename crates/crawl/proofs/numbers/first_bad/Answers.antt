use Rattle.std.proofs.Common.{◌≡◌, ◌∙◌, Some, List, refl, sym, ap, subst, take, arith}
use Rattle.std.specs.Prelude.{slice_get}
use Rattle.std.proofs.lemmas.List.{take_all}
use Rattle.lists.proofs.Places.{got_indexed}
use Rattle.access_schema.specs.Meaning.{meaning_of}
use Rattle.bad_numbers.specs.Found.{of_relation, earlier_of, FindsAmong}
use Rattle.crawl_rounds.specs.Log.{Answered, IsAmong}
use Rattle.crawl.specs.Progress.{answered_by}
use Rattle.crawl.proofs.Gaining.{answered_more}
use Rattle.crawl.proofs.Bringing.{found_first, found_more}
use Rattle.crawl.proofs.numbers.first_bad.Goals as goal

pub loop-ask-init : goal.loop-ask-init
loop-ask-init c = record { number = refl; finds = found_first (meaning_of c.args.schema.now) }

pub loop-ask-preserved : goal.loop-ask-preserved
loop-ask-preserved c =
    let k = c.loop-ask.ask-index in
    let number = c.loop-ask.invariant.number in
    let ask = c.ask-item.result in
    let rows = c.rows_at-rows.result in
    let its : slice_get c.args.answers.now k ≡ Some rows = subst (λ n. slice_get c.args.answers.now n ≡ Some rows) number c.rows_at-rows.ensures in
    record {
      number = omega (arith, number);
      finds = subst (FindsAmong (meaning_of c.args.schema.now) _) (sym (c.earlier-found.ensures ∙ ap (earlier_of c.loop-ask.found) c.of.ensures))
          (subst (λ (l : List Answered). FindsAmong (meaning_of c.args.schema.now) (IsAmong l) (earlier_of c.loop-ask.found (of_relation ask.request.rel c.bad_in.result)))
          (sym (answered_more c.args.asks.now c.args.answers.now k ask rows c.requires (got_indexed c.args.asks.now k ask c.loop-ask-test.true c.ask-item.is) its))
          (found_more (meaning_of c.args.schema.now) (answered_by (take k c.args.asks.now) (take k c.args.answers.now)) (record { request = ask.request; rows = rows })
          c.loop-ask.found c.bad_in.result c.loop-ask.invariant.finds c.bad_in.ensures));
    }

pub returns : goal.returns
returns c =
    let k = c.loop-ask.ask-index in
    let all = c.loop-ask-test.false in
    let long = c.requires in
    let finds = subst (λ l. FindsAmong (meaning_of c.args.schema.now) (IsAmong (answered_by l (take k c.args.answers.now))) c.loop-ask.found) (take_all k c.args.asks.now all) c.loop-ask.invariant.finds in
    subst (λ l. FindsAmong (meaning_of c.args.schema.now) (IsAmong (answered_by c.args.asks.now l)) c.loop-ask.found) (take_all k c.args.answers.now (omega (arith, all, long))) finds

use Rattle.std.proofs.Common.{◌≡◌, ◌∙◌, ◌+◌, ◌-◌, ◌/◌, ◌∷◌, Bool, length, sym, ap, subst, arith}
use Rattle.std.specs.Prelude.{◌||◌, option_map, slice_get}
use Rattle.lists.proofs.Places.{got_indexed}
use Rattle.meaning.specs.Values.{Value}
use Rattle.crawl_rounds.specs.Rows.{rows_of}
use Rattle.crawl.proofs.Beginning.{with_ends, insert_first, none_of, one_digit, or_first, or_other}
use Rattle.crawl.proofs.beginnings.beginning.Goals.{then-value, else-value}
use Rattle.crawl.proofs.beginnings.beginning.Goals as goal

pub returns-then-all-eq0 : goal.returns-then-all-eq0
returns-then-all-eq0 c = none_of c.args.first c.args.all.now c.args.count c.args.number (omega arith) (omega arith)

pub loop-preserved : goal.loop-preserved
loop-preserved c =
    let all = c.args.all.now in
    let value = c.index-all-rest.result in
    let mark : c.if-value.mark ≡ (value.1 || c.loop.mark) = elim c.if-value.branch as (λ _. c.if-value.mark ≡ (value.1 || c.loop.mark)) [
      | then-value w ↦ or_first c.if-value.mark value.1 c.loop.mark w.if-value.true w.mark-is
      | else-value w ↦ or_other c.if-value.mark value.1 c.loop.mark w.if-value.false w.mark-is
    ] in
    subst (λ (b : Bool). slice_get (rows_of c.args.first all c.args.count) c.args.number ≡ option_map (with_ends c.insert.new.self.items b) (slice_get (rows_of c.args.first all (c.args.count - (c.loop.counter + 1))) (c.loop.rest / length all))) (sym mark)
    (one_digit c.args.first all value c.args.count c.loop.counter c.args.number c.loop.rest c.loop.values.items c.insert.new.self.items c.loop.mark c.loop-test.true
    (got_indexed all _ value (omega arith) c.index-all-rest.is)
    (c.in_ok-insert.ensures.items ∙ insert_first c.loop.values.items c.in_ok-copy.field-0 ∙ ap (λ (v : Value). v ∷ c.loop.values.items) c.in_ok-copy.ensures)
    c.loop.invariant)

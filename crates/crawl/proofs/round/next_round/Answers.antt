use Rattle.std.proofs.Common.{◌≡◌, ◌∙◌, Bool, true, false, map, sym, arith}
use Rattle.std.proofs.lemmas.Result.{IfOk-weaker}
use Rattle.crawl_rounds.specs.Lent.{lent_class}
use Rattle.crawl.specs.Rounding.{RoundGoes}
use Rattle.crawl.proofs.Rounding.{stops_unasked, stops_over}
use Rattle.crawl.proofs.round.next_round.Goals as goal

clash : false ≡ true → ⊥
clash e = cc

pub returns-in_default-clause-stops : goal.returns-in_default-clause-stops
returns-in_default-clause-stops g c =
    stops_unasked g.S.Source.seen c.args.schema.now (map lent_class c.args.classes.now) c.args.cap c.args.progress.now c.count_wanted.ensures.ordered c.args.lanes.now

pub returns-then-wanted-from-clause-stops : goal.returns-then-wanted-from-clause-stops
returns-then-wanted-from-clause-stops g c =
    stops_over g.S.Source.seen c.args.schema.now (map lent_class c.args.classes.now) c.args.cap c.args.progress.now c.in-Ok.ensures.ordered
    c.in-Ok.wanted c.in-Ok.ensures.count (omega arith) c.args.lanes.now

pub returns : goal.returns
returns g c = record {
  goes = IfOk-weaker c.ask_next.result (λ (more : Bool). (more ≡ true) × RoundGoes g.S.Source.seen c.args.schema.now (map lent_class c.args.classes.now) c.args.cap c.args.progress.now c.ask_next.new.progress c.args.lanes.now c.ask_next.new.lanes) _
      (λ more h e. h.1) c.ask_next.ensures.goes;
  last = IfOk-weaker c.ask_next.result (λ (more : Bool). (more ≡ true) × RoundGoes g.S.Source.seen c.args.schema.now (map lent_class c.args.classes.now) c.args.cap c.args.progress.now c.ask_next.new.progress c.args.lanes.now c.ask_next.new.lanes) _
      (λ more h e. absurd (clash (sym e ∙ h.0))) c.ask_next.ensures.goes;
  stops = c.ask_next.ensures.stops;
}

-- Each relation may be asked, and the facts grow by those of its rows.
use Rattle.std.proofs.Common.{refl, get_or, arith}
use Rattle.std.proofs.lemmas.Option.{slice_get-get_or}
use Rattle.std.proofs.lemmas.Result.{err_from_is_err_and}
use Rattle.lists.proofs.Members.{contains_got}
use Rattle.source_trait.proofs.LaneSteps.{KindsStay-refl, KindsStay-trans}
use Rattle.rule_rows.proofs.Asking.{asked_ready, asks_take, stops_later}
use Rattle.rule_rows.proofs.ask.ask_all.Goals as goal

pub loop-rel-init : goal.loop-rel-init
loop-rel-init g c = record { asked = (c.new-facts.ensures, refl); stays = KindsStay-refl g.S.Source.seen c.args.lane.now.kinds.items }

pub ask_next-requires-after_bounds : goal.ask_next-requires-after_bounds
ask_next-requires-after_bounds g c κs within =
    asked_ready g.S.Source.seen c.args.schema.now _ c.loop-rel.facts c.args.lane.now.kinds.items c.loop-rel.lane.kinds.items c.loop-rel.invariant.asked (get_or c.args.rels.now c.loop-rel.rel-index 0)
    (c.requires.ready (get_or c.args.rels.now c.loop-rel.rel-index 0) (contains_got c.args.rels.now c.loop-rel.rel-index _ (slice_get-get_or c.args.rels.now c.loop-rel.rel-index 0 (omega arith))))

pub returns-in_err-ask_next-clause-stops : goal.returns-in_err-ask_next-clause-stops
returns-in_err-ask_next-clause-stops g c =
    let told = err_from_is_err_and c.from_residual.result c.from_residual.ensures.1 in
    rw (told.1, told.2) (stops_later g.S.Source.seen c.args.schema.now c.args.rels.now c.loop-rel.rel-index (omega arith) c.loop-rel.facts c.args.lane.now.kinds.items
    c.loop-rel.lane.kinds.items c.ask_next.new.lane.kinds.items c.loop-rel.invariant.asked c.in_err-ask_next.field-0.0 c.in_err-ask_next.ensures.stops)

pub returns-in_err-ask_next-clause-stays : goal.returns-in_err-ask_next-clause-stays
returns-in_err-ask_next-clause-stays g c = KindsStay-trans g.S.Source.seen _ _ _ c.loop-rel.invariant.stays c.ask_next.ensures.stays

pub loop-rel-preserved : goal.loop-rel-preserved
loop-rel-preserved g c =
    let (more, is, asked) = c.in_ok-ask_next.ensures.asked in record {
      asked = asks_take g.S.Source.seen c.args.schema.now c.args.rels.now c.loop-rel.rel-index (omega arith) c.loop-rel.facts more c.ask_next.new.facts is
          c.args.lane.now.kinds.items c.loop-rel.lane.kinds.items c.ask_next.new.lane.kinds.items c.loop-rel.invariant.asked asked;
      stays = KindsStay-trans g.S.Source.seen _ _ _ c.loop-rel.invariant.stays c.ask_next.ensures.stays;
    }

use Rattle.std.proofs.Common.{◌≡◌, ◌<◌, inr, false, true, length, refl, sym, ◌∙◌, rules, arith}
use Rattle.std.proofs.lemmas.Option.{slice_get_read}
use Rattle.middleware.specs.Sources.{needs_at}
use Rattle.lists.proofs.Booleans.{not_true}
use Rattle.middleware.proofs.Needing.{placed_more, placed_all, needs_next}
use Rattle.middleware.proofs.needs.have_place.Goals.{else-needs-via-then-needs+else-not-there, else-needs-via-else-needs}
use Rattle.middleware.proofs.needs.have_place.Goals as goal

pub returns-then-not-there-clause-lacks : goal.returns-then-not-there-clause-lacks
returns-then-not-there-clause-lacks g c = λ e.
    let needs : c.loop-lane.needs ≡ true = search rules in
    let lacks : c.has_source-there.result ≡ false = search rules in
    inr (
      c.loop-lane.lane-index,
      c.lane-item.result,
      slice_get_read c.args.lanes.now _ c.loop-lane.lane-index c.lane-item.result refl (omega arith) c.lane-item.is,
      sym c.loop-lane.invariant.needs ∙ needs,
      sym c.has_source-there.ensures ∙ lacks,
    )

pub loop-lane-preserved : goal.loop-lane-preserved
loop-lane-preserved g c = record {
  needs = needs_next c.args.lanes.now c.args.lines.now c.args.by_others c.loop-lane.lane-index;
  each = placed_more c.args.lanes.now c.args.lines.now c.args.rel (λ place. needs_at c.args.by_others place ≡ true) c.loop-lane.lane-index c.lane-item.result
      (slice_get_read c.args.lanes.now _ c.loop-lane.lane-index c.lane-item.result refl (omega arith) c.lane-item.is) c.loop-lane.invariant.each
      (λ need. elim c.else-needs.branch [
        | else-needs-via-then-needs+else-not-there w ↦
            let told = w.if-not-there.false in
            let there : c.has_source-there.result ≡ true = search rules in
            sym c.has_source-there.ensures ∙ there
        | else-needs-via-else-needs w ↦
            let told = w.if-needs.false in
            let needs : c.loop-lane.needs ≡ true = c.loop-lane.invariant.needs ∙ need in
            absurd (cc)
      ]);
}

pub returns-clause-all : goal.returns-clause-all
returns-clause-all g c = λ e.
    let off : c.is_empty.result ≡ false = not_true c.is_empty.result e in
    let some : 0 < length c.args.lanes.now = search rules in
    placed_all c.args.lanes.now c.args.lines.now c.args.rel (λ place. needs_at c.args.by_others place ≡ true) c.loop-lane.lane-index (omega arith) some
    c.loop-lane.invariant.each

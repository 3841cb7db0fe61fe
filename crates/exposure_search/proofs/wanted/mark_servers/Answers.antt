use Rattle.std.proofs.Common.{◌≡◌, Some, List, subst}
use Rattle.std.specs.Prelude.{slice_get}
use Rattle.std.proofs.lemmas.List.{take_all}
use Rattle.lists.proofs.Places.{got_indexed}
use Rattle.meaning.specs.declared.types.Rule.{Rule}
use Rattle.exposure_search.specs.Relevance.{AllMarked, BodiesMarked, IsMade}
use Rattle.exposure_search.proofs.Served.{bodies_next, bodies_none}
use Rattle.exposure_search.proofs.wanted.mark_servers.Goals.{then-serves_some+in_ok-mark_all, else-serves_some}
use Rattle.exposure_search.proofs.wanted.mark_servers.Goals as goal

pub loop-rule-init : goal.loop-rule-init
loop-rule-init c = record { stays = λ n on. on; served = bodies_none c.args.next (IsMade c.args.given.now c.args.atoms.now) c.args.marks.now.items }

pub loop-rule-preserved : goal.loop-rule-preserved
loop-rule-preserved c =
    let rules = c.args.rules.now in
    let i = c.loop-rule.rule-index in
    let rule = c.rule-item.result in
    let now = c.loop-rule.marks.items in
    let got : slice_get rules i ≡ Some rule = got_indexed rules i rule c.loop-rule-test.true c.rule-item.is in
    elim c.if-serves_some.branch [
      | then-serves_some+in_ok-mark_all w ↦
          rw w.marks-is (record {
            stays = λ n on. w.in_ok-mark_all.ensures.stays n (c.loop-rule.invariant.stays n on);
            served = bodies_next rules c.args.next (IsMade c.args.given.now c.args.atoms.now) now w.mark_all.new.marks.items i rule got w.in_ok-mark_all.ensures.stays c.loop-rule.invariant.served
                (λ fact makes kind. subst (λ atoms. AllMarked w.mark_all.new.marks.items atoms) w.as_slice.ensures w.in_ok-mark_all.ensures.all);
          })
      | else-serves_some w ↦
          rw w.marks-is (record {
            stays = c.loop-rule.invariant.stays;
            served = bodies_next rules c.args.next (IsMade c.args.given.now c.args.atoms.now) now now i rule got (λ n on. on) c.loop-rule.invariant.served
                (λ fact makes kind. absurd (c.serves_some.ensures w.if-serves_some.false fact makes kind));
          })
    ]

pub returns-clause-served : goal.returns-clause-served
returns-clause-served c = subst (λ (l : List Rule). BodiesMarked l c.args.next (IsMade c.args.given.now c.args.atoms.now) c.loop-rule.marks.items) (take_all c.loop-rule.rule-index c.args.rules.now c.loop-rule-test.false) c.loop-rule.invariant.served

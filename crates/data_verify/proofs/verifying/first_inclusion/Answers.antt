use Rattle.std.proofs.Common.{◌≡◌, Bool, true, false}
use Rattle.meaning.specs.Matching.{MeetsRule, itself, FactsOf}
use Rattle.data_verify.specs.Finding.{IsInclusion}
use Rattle.data_verify.proofs.First.{met_more, met_all}
use Rattle.data_verify.proofs.verifying.first_inclusion.Goals.{then-is_inclusion+in_ok-rows+in_default, else-is_inclusion}
use Rattle.data_verify.proofs.verifying.first_inclusion.Goals as goal

clash : (b is : Bool) → b ≡ is → b ≡ false → is ≡ true → ⊥
clash b is e f g = cc

pub loop-number-preserved : goal.loop-number-preserved
loop-number-preserved c =
    let now : IsInclusion c.loop-number.number c.rule-item.result → MeetsRule itself (FactsOf c.args.instance.now) c.rule-item.result = elim c.if-is_inclusion.branch [
      | then-is_inclusion+in_ok-rows+in_default w ↦ λ is. rw w.in_default.is at w.in_ok-rows.ensures.none
      | else-is_inclusion w ↦ λ is. absurd (clash _ _ c.is_inclusion.ensures w.if-is_inclusion.false is)
    ] in
    met_more c.args.schema.now.rules c.as_slice-rule-items.result.now c.loop-number.number c.rule-item.result c.as_slice-rule-items.ensures c.loop-number-test.true c.rule-item.is IsInclusion c.args.instance.now c.loop-number.invariant now

pub returns : goal.returns
returns c = met_all IsInclusion c.args.instance.now c.args.schema.now.rules c.as_slice-rule-items.result.now c.loop-number.number c.as_slice-rule-items.ensures c.loop-number-test.false c.loop-number.invariant

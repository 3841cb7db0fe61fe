use Rattle.access_schema.proofs.Keeping.{rules_fit}
use Rattle.meaning.specs.Matching.{MeetsRule, itself, FactsOf}
use Rattle.homomorphism.proofs.Covering.{told, denied}
use Rattle.data_verify.specs.Finding.{IsOpen}
use Rattle.data_verify.proofs.Texts.{meets}
use Rattle.data_verify.proofs.First.{rule_among, met_more, first_of, met_all}
use Rattle.data_verify.proofs.verifying.first_open.Goals.{then-is_open+in_ok-rows+in_default, else-is_open}
use Rattle.data_verify.proofs.verifying.first_open.Goals as goal

pub least_unmet-requires : goal.least_unmet-requires
least_unmet-requires c = (rules_fit c.args.schema.now c.args.schema.now.constants (λ t h. h)).numbered _ (rule_among _ _ _ _ c.as_slice-rule-items.ensures c.loop-number-test.true c.rule-item.is)

pub returns-in-Some : goal.returns-in-Some
returns-in-Some c = first_of c.args.schema.now.rules c.as_slice-rule-items.result.now c.loop-number.number c.rule-item.result c.as_slice-rule-items.ensures c.loop-number-test.true c.rule-item.is (IsOpen c.args.found.now) c.args.instance c.loop-number.invariant c.in-Some.rows
    (told _ c.is_open.ensures c.if-is_open.true) (rw c.in-Some.is at c.in_ok-rows.ensures.some c.args.instance c.in_ok-store.ensures)

pub loop-number-preserved : goal.loop-number-preserved
loop-number-preserved c =
    let now : IsOpen c.args.found.now c.loop-number.number c.rule-item.result → MeetsRule itself (FactsOf c.args.instance) c.rule-item.result = elim c.if-is_open.branch [
      | then-is_open+in_ok-rows+in_default w ↦ λ is. meets c.args.instance c.in_ok-store.store c.in_ok-store.ensures c.rule-item.result (rw w.in_default.is at w.in_ok-rows.ensures.none)
      | else-is_open w ↦ λ is. absurd (denied _ c.is_open.ensures w.if-is_open.false is)
    ] in
    met_more c.args.schema.now.rules c.as_slice-rule-items.result.now c.loop-number.number c.rule-item.result c.as_slice-rule-items.ensures c.loop-number-test.true c.rule-item.is (IsOpen c.args.found.now) c.args.instance c.loop-number.invariant now

pub returns : goal.returns
returns c = met_all (IsOpen c.args.found.now) c.args.instance c.args.schema.now.rules c.as_slice-rule-items.result.now c.loop-number.number c.as_slice-rule-items.ensures c.loop-number-test.false c.loop-number.invariant

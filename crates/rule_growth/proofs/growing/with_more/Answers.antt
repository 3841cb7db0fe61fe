use Rattle.std.proofs.Common.{List, subst}
use Rattle.std.specs.Prelude.{Contains}
use Rattle.meaning.specs.declared.types.Rule.{Rule}
use Rattle.access_schema.proofs.Keeping.{rules_fit}
use Rattle.homomorphism.proofs.AtomByAtom.{is_among}
use Rattle.rule_growth.proofs.growing.with_more.Goals as goal

pub is_added-requires : goal.is_added-requires
is_added-requires c =
    let schema = c.args.schema.now in
    let rule = c.rule-item.result in
    (rules_fit schema schema.constants (λ constant among. among)).numbered rule
    (subst (λ (rules : List Rule). Contains rules rule) c.as_slice-rule-items.ensures
    (is_among c.as_slice-rule-items.result.now c.loop-number.number rule c.loop-number-test.true c.rule-item.is))

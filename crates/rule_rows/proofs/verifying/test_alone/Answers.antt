use Rattle.rule_rows.proofs.verifying.test_alone.Goals as goal

pub test_rules-requires-clause-ready : goal.test_rules-requires-clause-ready
test_rules-requires-clause-ready g c κs within = λ rel among. absurd (c.requires.none rel among)

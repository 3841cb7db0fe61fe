use Rattle.rule_rows.specs.RuleRelations.{RulesName}
use Rattle.rule_rows.specs.Verifying.{used}
use Rattle.pdq_core.proofs.CompleteOffers.{untold_serve, lanes_untold, batch_untold, reachable_untold, untold_test}
use Rattle.pdq_core.proofs.laws.sources_that_do_not_tell_serve.Goals as goal

pub returns-clause-plan : goal.returns-clause-plan
returns-clause-plan g c = λ schema. lanes_untold g.S.Source.seen schema

pub returns-clause-tests : goal.returns-clause-tests
returns-clause-tests g c = λ schema. untold_test g.S.Source.seen schema

pub returns-clause-batch : goal.returns-clause-batch
returns-clause-batch g c = λ schema. batch_untold g.S.Source.seen schema

pub returns-clause-crawl : goal.returns-clause-crawl
returns-clause-crawl g c = λ schema. reachable_untold g.S.Source.seen schema

pub returns-clause-rules : goal.returns-clause-rules
returns-clause-rules g c = λ schema old new. untold_serve g.S.Source.seen schema (RulesName schema) (used old) (used new)

use Rattle.rule_rows.specs.RuleRelations.{RulesName}
use Rattle.rule_rows.specs.Verifying.{used}
use Rattle.pdq_core.proofs.CompleteOffers.{offers_serve, offers_execute, offers_batch, offers_crawl, offers_test}
use Rattle.pdq_core.proofs.laws.sources_that_tell_serve.Goals as goal

pub returns-clause-plan : goal.returns-clause-plan
returns-clause-plan g c = λ schema. offers_execute g.S.Source.seen schema

pub returns-clause-tests : goal.returns-clause-tests
returns-clause-tests g c = λ schema. offers_test g.S.Source.seen schema

pub returns-clause-batch : goal.returns-clause-batch
returns-clause-batch g c = λ schema. offers_batch g.S.Source.seen schema

pub returns-clause-crawl : goal.returns-clause-crawl
returns-clause-crawl g c = λ schema. offers_crawl g.S.Source.seen schema

pub returns-clause-rules : goal.returns-clause-rules
returns-clause-rules g c = λ schema old new. offers_serve g.S.Source.seen schema (RulesName schema) (used old) (used new)

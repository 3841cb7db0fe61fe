use Rattle.middleware.specs.PlanSources.{IsAccessed}
use Rattle.rule_rows.specs.RuleRelations.{RulesName}
use Rattle.rule_rows.specs.Verifying.{used}
use Rattle.run_laws.proofs.Folders.{files_offer}
use Rattle.run_laws.proofs.files.told_files_serve.Goals as goal

pub returns-clause-plan : goal.returns-clause-plan
returns-clause-plan g c = λ schema plan calls old new instance kind files some folders give calm integers within.
    c.sources_that_tell_serve.ensures.plan schema plan calls old new instance some
    (λ lane among. files_offer g.S.Source.seen schema (IsAccessed schema plan) lane.kinds.items instance kind files
    (folders lane among) give)
    calm integers within

pub returns-clause-rules : goal.returns-clause-rules
returns-clause-rules g c = λ schema old new instance kind files folder give calm.
    c.sources_that_tell_serve.ensures.rules schema old new instance
    (files_offer g.S.Source.seen schema (RulesName schema) (used old) instance kind files folder give) calm

pub returns-clause-tests : goal.returns-clause-tests
returns-clause-tests g c = λ schema old new instance kind files folder give calm integers.
    c.sources_that_tell_serve.ensures.tests schema old new instance
    (files_offer g.S.Source.seen schema (RulesName schema) (used old) instance kind files folder give) calm integers

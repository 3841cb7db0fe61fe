use Rattle.middleware.specs.PlanSources.{IsAccessed}
use Rattle.rule_rows.specs.RuleRelations.{RulesName}
use Rattle.rule_rows.specs.Verifying.{used}
use Rattle.run_laws.proofs.Folders.{untold_offer}
use Rattle.run_laws.proofs.files.untold_files_serve.Goals as goal

pub returns-clause-plan : goal.returns-clause-plan
returns-clause-plan g c = λ schema plan old new kind folders lines calm.
    c.sources_that_do_not_tell_serve.ensures.plan schema plan old new
    (λ lane among. untold_offer g.S.Source.seen schema (IsAccessed schema plan) lane.kinds.items kind (folders lane among) lines) calm

pub returns-clause-rules : goal.returns-clause-rules
returns-clause-rules g c = λ schema old new kind folder lines calm.
    c.sources_that_do_not_tell_serve.ensures.rules schema old new
    (untold_offer g.S.Source.seen schema (RulesName schema) (used old) kind folder lines) calm

pub returns-clause-tests : goal.returns-clause-tests
returns-clause-tests g c = λ schema old new kind texts folder lines calm.
    c.sources_that_do_not_tell_serve.ensures.tests schema old new texts
    (untold_offer g.S.Source.seen schema (RulesName schema) (used old) kind folder lines) calm

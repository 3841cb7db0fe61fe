use Rattle.std.proofs.Common.{◌↔◌, ◌⊎◌, ℕ, List, subst, sym, ◌∙◌}
use Rattle.std.specs.Prelude.{Contains}
use Rattle.std.proofs.lemmas.Result.{IfOk-weaker}
use Rattle.access_schema.specs.Names.{AllDiffer}
use Rattle.access_schema.proofs.Texts.{once_differ}
use Rattle.sql_select.specs.Known.{literals_in}
use Rattle.sql_select.proofs.Literals.{selects_are, holds_both}
use Rattle.sql_select.proofs.constants.known.Goals as goal

pub returns-clause-order : goal.returns-clause-order
returns-clause-order c = IfOk-weaker c.collect.result _ _ (λ texts e. e ∙ selects_are c.args.schema.now.constants c.args.statement.now.selects) c.collect.ensures

pub returns-clause-once : goal.returns-clause-once
returns-clause-once c = IfOk-weaker c.collect.result _ _ (λ texts e. subst (λ (t : List (List ℕ)). AllDiffer t) (sym (e ∙ selects_are c.args.schema.now.constants c.args.statement.now.selects))
    (once_differ c.args.schema.now.constants (literals_in c.args.statement.now.selects) c.args.schema.now.valid.constants_differ)) c.collect.ensures

pub returns-clause-members : goal.returns-clause-members
returns-clause-members c = IfOk-weaker c.collect.result _ _ (λ texts e. subst (λ (t : List (List ℕ)). (text : List ℕ) → Contains t text ↔ (Contains c.args.schema.now.constants text ⊎ Contains (literals_in c.args.statement.now.selects) text))
    (sym (e ∙ selects_are c.args.schema.now.constants c.args.statement.now.selects)) (holds_both c.args.schema.now.constants (literals_in c.args.statement.now.selects))) c.collect.ensures

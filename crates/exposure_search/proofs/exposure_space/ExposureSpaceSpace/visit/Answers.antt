use Rattle.std.proofs.Common.{◌+◌, sym, subst}
use Rattle.std.specs.Prelude.{IfOk}
use Rattle.std.proofs.lemmas.Result.{IfOk-weaker}
use Rattle.least_search.specs.Walks.{no_facts}
use Rattle.exposure_search.specs.Exploring.{space_size, HasTry}
use Rattle.exposure_search.specs.Aims.{LeadsTo}
use Rattle.exposure_search.specs.Visiting.{IsVisit}
use Rattle.exposure_search.specs.Spaces.{open_walk}
use Rattle.exposure_search.proofs.exposure_space.ExposureSpaceSpace.visit.Goals as goal

pub visit_set-requires-clause-walk : goal.visit_set-requires-clause-walk
visit_set-requires-clause-walk c =
    subst (λ s. LeadsTo s c.args.path.now c.args.set.now) (sym c.self.view_is)
    (open_walk c.args.self.now c.args.path.now (no_facts (space_size c.args.self.now)) c.args.set.now c.requires)

pub returns-clause-goal : goal.returns-clause-goal
returns-clause-goal c =
    IfOk-weaker c.visit_set.result (IsVisit c.args.self.now c.args.path.now c.args.set.now c.args.room c.args.below) _ (λ visit is. is.ended.goal)
    (subst (λ s. IfOk c.visit_set.result (IsVisit s c.args.path.now c.args.set.now c.args.room c.args.below)) c.self.view_is c.visit_set.ensures.visit)

pub returns-clause-none : goal.returns-clause-none
returns-clause-none c =
    IfOk-weaker c.visit_set.result (IsVisit c.args.self.now c.args.path.now c.args.set.now c.args.room c.args.below) _ (λ visit is. is.ended.none)
    (subst (λ s. IfOk c.visit_set.result (IsVisit s c.args.path.now c.args.set.now c.args.room c.args.below)) c.self.view_is c.visit_set.ensures.visit)

pub returns-clause-long : goal.returns-clause-long
returns-clause-long c =
    IfOk-weaker c.visit_set.result (IsVisit c.args.self.now c.args.path.now c.args.set.now c.args.room c.args.below) _ (λ visit is. is.ended.long)
    (subst (λ s. IfOk c.visit_set.result (IsVisit s c.args.path.now c.args.set.now c.args.room c.args.below)) c.self.view_is c.visit_set.ensures.visit)

pub returns-clause-room : goal.returns-clause-room
returns-clause-room c =
    IfOk-weaker c.visit_set.result (IsVisit c.args.self.now c.args.path.now c.args.set.now c.args.room c.args.below) _ (λ visit is. is.few)
    (subst (λ s. IfOk c.visit_set.result (IsVisit s c.args.path.now c.args.set.now c.args.room c.args.below)) c.self.view_is c.visit_set.ensures.visit)

pub returns-clause-spent : goal.returns-clause-spent
returns-clause-spent c =
    IfOk-weaker c.visit_set.result (IsVisit c.args.self.now c.args.path.now c.args.set.now c.args.room c.args.below) _ (λ visit is. is.spent)
    (subst (λ s. IfOk c.visit_set.result (IsVisit s c.args.path.now c.args.set.now c.args.room c.args.below)) c.self.view_is c.visit_set.ensures.visit)

pub returns-clause-run : goal.returns-clause-run
returns-clause-run c =
    IfOk-weaker c.visit_set.result (IsVisit c.args.self.now c.args.path.now c.args.set.now c.args.room c.args.below) _ (λ visit is. is.ended.run)
    (subst (λ s. IfOk c.visit_set.result (IsVisit s c.args.path.now c.args.set.now c.args.room c.args.below)) c.self.view_is c.visit_set.ensures.visit)

pub returns-clause-possible : goal.returns-clause-possible
returns-clause-possible c =
    IfOk-weaker c.visit_set.result (IsVisit c.args.self.now c.args.path.now c.args.set.now c.args.room c.args.below) _ (λ visit is. is.moves.possible)
    (subst (λ s. IfOk c.visit_set.result (IsVisit s c.args.path.now c.args.set.now c.args.room c.args.below)) c.self.view_is c.visit_set.ensures.visit)

pub returns-clause-complete : goal.returns-clause-complete
returns-clause-complete c =
    IfOk-weaker c.visit_set.result (IsVisit c.args.self.now c.args.path.now c.args.set.now c.args.room c.args.below) _ (λ visit is. is.moves.complete)
    (subst (λ s. IfOk c.visit_set.result (IsVisit s c.args.path.now c.args.set.now c.args.room c.args.below)) c.self.view_is c.visit_set.ensures.visit)

pub returns-clause-due : goal.returns-clause-due
returns-clause-due c =
    IfOk-weaker c.visit_set.result (IsVisit c.args.self.now c.args.path.now c.args.set.now c.args.room c.args.below) _ (λ visit is e.
    subst (λ fired. HasTry c.args.self.now c.args.path.now (fired + 1)) (is.spent e) (is.ended.due e))
    (subst (λ s. IfOk c.visit_set.result (IsVisit s c.args.path.now c.args.set.now c.args.room c.args.below)) c.self.view_is c.visit_set.ensures.visit)

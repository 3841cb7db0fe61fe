use Rattle.std.proofs.Common.{◌⊎◌, sym, subst}
use Rattle.std.specs.Prelude.{IfSome, IfNone}
use Rattle.accessible_copy.specs.declared.goals.Match.{Match}
use Rattle.accessible_copy.specs.Goals.{IsGoal}
use Rattle.accessible_copy.specs.Proving.{Proving}
use Rattle.least_search.specs.Walks.{no_facts}
use Rattle.exposure_search.specs.Exploring.{Exploring, space_size, HasGoalAt, HasRunBeyond}
use Rattle.exposure_search.specs.Aims.{LeadsTo}
use Rattle.exposure_search.specs.Visiting.{IsReached}
use Rattle.exposure_search.specs.Spaces.{open_walk}
use Rattle.exposure_search.proofs.Settled.{mapped_some, mapped_none}
use Rattle.exposure_search.proofs.exposure_space.ExposureSpace.reach.Goals as goal

pub reach_set-reached-requires-clause-walk : goal.reach_set-reached-requires-clause-walk
reach_set-reached-requires-clause-walk c =
    subst (λ s. LeadsTo s c.args.path.now c.args.set.now) (sym c.self.view_is)
    (open_walk c.args.self c.args.path.now (no_facts (space_size c.args.self)) c.args.set.now c.requires)

pub returns-clause-reached : goal.returns-clause-reached
returns-clause-reached c =
    rw c.with_match.ensures (mapped_some _ c.in-Ok.found (λ (pair : Proving × Match). IsReached c.args.self c.args.path.now pair.0)
    (subst (λ s. IfSome c.in-Ok.found (λ (m : Match). IsReached s c.args.path.now c.reach_set-reached.new.proof)) c.self.view_is c.in-Ok.ensures.reached))

pub returns-clause-found : goal.returns-clause-found
returns-clause-found c =
    rw c.with_match.ensures (mapped_some _ c.in-Ok.found (λ (pair : Proving × Match). IsGoal c.args.self.queries pair.0.end.copy c.args.self.head pair.1.select pair.1.assignment.vals)
    (subst (λ (s : Exploring). IfSome c.in-Ok.found (λ (m : Match). IsGoal s.queries c.reach_set-reached.new.proof.end.copy s.head m.select m.assignment.vals)) c.self.view_is c.in-Ok.ensures.found))

pub returns-clause-none : goal.returns-clause-none
returns-clause-none c =
    rw c.with_match.ensures (mapped_none _ c.in-Ok.found _
    (subst (λ s. IfNone c.in-Ok.found (HasRunBeyond s ⊎ (HasGoalAt s c.args.set.now → ⊥))) c.self.view_is c.in-Ok.ensures.none))

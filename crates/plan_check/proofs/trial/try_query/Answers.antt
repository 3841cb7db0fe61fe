use Rattle.std.proofs.Common.{◌≡◌, [], refl}
use Rattle.meaning.specs.Triggers.{State}
use Rattle.meaning.specs.Runs.{opening_state, frozen_head}
use Rattle.access_schema.specs.Meaning.{meaning_of}
use Rattle.access_schema.proofs.Keeping.{rules_fit}
use Rattle.plan_check.specs.Trials.{SomeHas}
use Rattle.plan_check.proofs.Trying.{triable_counted}
use Rattle.plan_check.proofs.Ending.{all_contained}
use Rattle.plan_check.proofs.trial.try_query.Goals as goal

pub has_head_soon-requires : goal.has_head_soon-requires
has_head_soon-requires c = triable_counted (meaning_of c.args.trial.now.schema.now) c.args.trial.now.known.now c.args.trial.now.others.now c.requires.trial.others

pub returns-then-found : goal.returns-then-found
returns-then-found c =
    let start : State = opening_state c.args.query.now in
    let has : SomeHas start.facts c.args.trial.now.others.now (frozen_head c.args.query.now) =
    rw (c.store.ensures, c.in_ok-start.ensures) at (c.in_ok-found.ensures c.if-found.true) in
    all_contained (meaning_of c.args.trial.now.schema.now) c.args.trial.now.known.now (rules_fit c.args.trial.now.schema.now c.args.trial.now.known.now c.requires.trial.known) c.args.query.now c.requires.query c.args.trial.now.others.now
    [] start refl has

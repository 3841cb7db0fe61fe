use Rattle.std.proofs.Common.{◌≡◌}
use Rattle.meaning.specs.Triggers.{State, IsQuiet}
use Rattle.meaning.specs.Runs.{opening_state, frozen_head}
use Rattle.meaning_laws.proofs.Carrying.{run_fires}
use Rattle.access_schema.specs.Meaning.{meaning_of}
use Rattle.access_schema.proofs.Keeping.{rules_fit, rules_sorted}
use Rattle.plan_check.specs.Trials.{SomeHas, IsNamedEnd}
use Rattle.plan_check.proofs.Trying.{triable_counted}
use Rattle.plan_check.proofs.Ending.{all_contained, is_separated}
use Rattle.plan_check.proofs.trial.shown_by.Goals as goal

pub has_head-requires : goal.has_head-requires
has_head-requires c = triable_counted (meaning_of c.args.trial.now.schema.now) c.args.trial.now.known.now c.args.trial.now.others.now c.requires.trial.others

pub returns-then-found : goal.returns-then-found
returns-then-found c =
    let schema = meaning_of c.args.trial.now.schema.now in
    let end : State = c.args.chased.state in
    let has : SomeHas end.facts c.args.trial.now.others.now (frozen_head c.args.query.now) =
    rw c.store.ensures at (c.in_ok-found.ensures.yes c.if-found.true) in
    all_contained schema c.args.trial.now.known.now (rules_fit c.args.trial.now.schema.now c.args.trial.now.known.now c.requires.trial.known) c.args.query.now c.requires.query c.args.trial.now.others.now c.args.chased.log end
    (run_fires c.args.trial.now.schema.now.rules c.args.chased.log (opening_state c.args.query.now) end c.requires.chase.run) has

pub returns-in-Ended : goal.returns-in-Ended
returns-in-Ended c =
    let schema = meaning_of c.args.trial.now.schema.now in
    let end : State = c.args.chased.state in
    let missing : SomeHas end.facts c.args.trial.now.others.now (frozen_head c.args.query.now) → ⊥ =
    rw c.store.ensures at (c.in_ok-found.ensures.no c.if-found.false) in
    let quiet : IsQuiet c.args.trial.now.schema.now.rules end = rw c.in-Ended.is at c.requires.chase.stopped in
    let named : IsNamedEnd schema c.args.trial.now.known.now end.facts (frozen_head c.args.query.now) c.in_ok-instance-in-Ended.instance c.in_ok-instance-in-Ended.row =
    rw (c.store-in-Ended.ensures, c.as_slice-in-Ended.ensures.value, c.in_ok-head-in-Ended.ensures, c.as_slice.ensures) at c.in_ok-instance-in-Ended.ensures in
    is_separated schema c.args.trial.now.known.now (rules_fit c.args.trial.now.schema.now c.args.trial.now.known.now c.requires.trial.known) c.args.query.now c.requires.query c.args.trial.now.others.now c.args.chased.log end
    (run_fires c.args.trial.now.schema.now.rules c.args.chased.log (opening_state c.args.query.now) end c.requires.chase.run)
    (rules_sorted c.args.trial.now.schema.now) c.requires.trial.others quiet missing
    c.in_ok-instance-in-Ended.instance c.in_ok-instance-in-Ended.row named

pub returns : goal.returns
returns c =
    let end : State = c.args.chased.state in
    let missing : SomeHas end.facts c.args.trial.now.others.now (frozen_head c.args.query.now) → ⊥ =
    rw c.store.ensures at (c.in_ok-found.ensures.no c.if-found.false) in
    let (count, goes_on) = rw c.in-Spent.is at c.requires.chase.stopped in
    record { end = end; run = c.requires.chase.run; count = count; goes_on = goes_on; missing = missing }

use Rattle.std.proofs.Common.{ap, ◌∙◌, rules, []}
use Rattle.std.specs.Prelude.{unwrap_or}
use Rattle.accessible_copy.specs.OpenFacts.{held_by}
use Rattle.accessible_copy.proofs.HeldValues.{val_apart}
use Rattle.accessible_copy.proofs.holders.Holders.add.Goals as goal

pub returns-in_ok-push-in-Some-clause-others : goal.returns-in_ok-push-in-Some-clause-others
returns-in_ok-push-in-Some-clause-others c = λ other differ. ap (λ o. unwrap_or o []) (((c.get_mut.follows.holds c.push.new.self).3 (search rules)).2 other (val_apart c.args.val.now other differ))

pub returns-in_ok-insert-in-None-clause-others : goal.returns-in_ok-insert-in-None-clause-others
returns-in_ok-insert-in-None-clause-others c = λ other differ.
    ap (λ o. unwrap_or o []) (c.in_ok-insert-in-None.ensures.updates.2 other (val_apart c.in_ok-copy-in-None.field-0 other (rw c.in_ok-copy-in-None.ensures differ)))
    ∙ ap (λ m. held_by (record { numbers = m }) other) c.get_mut.follows.holds-at-none

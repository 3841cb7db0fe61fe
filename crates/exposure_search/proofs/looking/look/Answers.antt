use Rattle.std.proofs.Common.{◌≡◌, None, Ok, length, sym, ap, ◌∙◌, arith}
use Rattle.access_schema.specs.Meaning.{meaning_of}
use Rattle.exposure_search.proofs.Logs.{settled_long}
use Rattle.exposure_search.proofs.Settled.{found_goal, none_found}
use Rattle.exposure_search.proofs.looking.look.Goals as goal

pub returns-clause-goal : goal.returns-clause-goal
returns-clause-goal c e = found_goal c.args.queries.now c.settle_copy.new.proof.end c.args.head.now c.in_ok-found.found (sym c.is_some.ensures ∙ c.end_of-end.ensures.goal e) c.in_ok-found.ensures.some

pub returns-clause-still : goal.returns-clause-still
returns-clause-still c e = c.in_ok-ended.ensures.still (ap (λ r. Ok r) (c.end_of-end.ensures.none e).1)

pub returns-clause-none : goal.returns-clause-none
returns-clause-none c e =
    let absent : c.in_ok-found.found ≡ None = none_found c.args.queries.now c.settle_copy.new.proof.end c.args.head.now c.in_ok-found.found (sym c.is_some.ensures ∙ (c.end_of-end.ensures.none e).0) c.in_ok-found.ensures.some in
    rw absent at c.in_ok-found.ensures.none

pub returns-clause-fired : goal.returns-clause-fired
returns-clause-fired c =
    let long = settled_long (meaning_of c.args.schema.now) c.args.proof.now c.settle_copy.new.proof c.in_ok-ended.ensures.more in
    let before : c.mark-before.result.firings ≡ length c.args.proof.now.entries = c.mark-before.ensures in
    let after : c.mark-after.result.firings ≡ length c.settle_copy.new.proof.entries = c.mark-after.ensures in
    omega arith

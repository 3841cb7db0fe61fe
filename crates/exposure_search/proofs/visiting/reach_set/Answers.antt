use Rattle.std.proofs.Common.{◌≤◌, length, Ok, ap, inl, arith}
use Rattle.access_schema.specs.Meaning.{meaning_of}
use Rattle.exposure_search.proofs.Settled.{none_then, some_always}
use Rattle.exposure_search.proofs.Visited.{proof_reached, none_there, path_beyond}
use Rattle.exposure_search.proofs.visiting.reach_set.Goals as goal

pub returns-clause-reached : goal.returns-clause-reached
returns-clause-reached c =
    let low : length c.go_along.new.proof.entries ≤ c.args.aim.now.budget = omega (arith, c.mark.ensures) in
    let few : length c.settle.new.proof.entries ≤ c.args.aim.now.budget = omega (arith, c.settle.ensures.budget) in
    some_always c.in_ok-goal.field-0
    (proof_reached (meaning_of c.args.aim.now.schema.now) c.args.aim.now.queries.now c.args.aim.now.head.now c.args.aim.now.budget c.args.aim.now.marks c.args.proof.now c.go_along.new.proof c.args.path.now c.args.set.now c.in_ok-go_along.ensures.exposes c.in_ok-go_along.ensures.same c.in_ok-go_along.ensures.made c.requires.walk
    c.settle.new.proof c.settle.ensures.run c.settle.ensures.more few)

pub returns-clause-none : goal.returns-clause-none
returns-clause-none c =
    none_then _ _ c.in_ok-goal.field-0
    (λ none. none_there (meaning_of c.args.aim.now.schema.now) c.args.aim.now.queries.now c.args.aim.now.head.now c.args.aim.now.budget c.args.aim.now.marks c.args.proof.now c.go_along.new.proof c.args.path.now c.args.set.now c.in_ok-go_along.ensures.exposes c.in_ok-go_along.ensures.same c.in_ok-go_along.ensures.made c.requires.walk
    c.settle.new.proof c.settle.ensures.run c.settle.ensures.more c.in_ok-settle.field-0 (λ e. c.in_ok-settle.ensures.going (ap (λ r. Ok r) e)) (λ e. c.in_ok-settle.ensures.quiet (ap (λ r. Ok r) e)) (λ e. c.in_ok-settle.ensures.spent (ap (λ r. Ok r) e)) none c.requires.aimed.named (let next = c.next-next.ensures in omega arith))
    c.in_ok-goal.ensures.none

pub returns-then-mark-from-clause-none : goal.returns-then-mark-from-clause-none
returns-then-mark-from-clause-none c =
    inl (path_beyond (meaning_of c.args.aim.now.schema.now) c.args.aim.now.queries.now c.args.aim.now.head.now c.args.aim.now.budget c.args.aim.now.marks c.args.proof.now c.go_along.new.proof c.args.path.now c.args.set.now c.in_ok-go_along.ensures.exposes c.in_ok-go_along.ensures.same c.in_ok-go_along.ensures.made c.requires.walk (omega (arith, c.mark.ensures)))

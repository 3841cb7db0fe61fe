use Rattle.std.proofs.Common.{[], Option, refl, sym, subst}
use Rattle.std.proofs.lemmas.Option.{slice_get_within}
use Rattle.lists.proofs.Members.{contains_got}
use Rattle.access_schema.specs.Meaning.{meaning_of}
use Rattle.shared_rounds.specs.SharedRounds.{AreAskedAt, Turn}
use Rattle.plan_course.proofs.Standing.{at_step, no_turn, stands_behind}
use Rattle.plan_course.proofs.Growing.{pending_of_turn, pending_turn}
use Rattle.plan_course.proofs.turns.turn.Goals as goal

pub pending_of-requires-clause-left : goal.pending_of-requires-clause-left
pending_of-requires-clause-left c =
    let its = c.in-Some.branch.now in
    let (n, is) = c.requires.at in
    let here = at_step c.args.plan.now n c.args.course its (sym c.in-Some.ensures) is in
    slice_get_within its.steps c.args.course.step here.turn.its here.of_branch

pub pending_of-requires-clause-ready : goal.pending_of-requires-clause-ready
pending_of-requires-clause-ready c =
    let its = c.in-Some.branch.now in
    c.requires.ready its (contains_got c.args.plan.now.branches c.args.course.branch its (sym c.in-Some.ensures))

pub returns-in_ok-pending_of-in-Some-clause-turns : goal.returns-in_ok-pending_of-in-Some-clause-turns
returns-in_ok-pending_of-in-Some-clause-turns c = λ n facts is k.
    pending_turn c.args.schema.now c.args.plan.now c.args.course c.in_ok-pending_of-in-Some.field-0 c.in-Some.branch.now
    (sym c.in-Some.ensures)
    c.in_ok-pending_of-in-Some.ensures n is facts k

pub returns-in_ok-pending_of-in-Some-clause-of_step : goal.returns-in_ok-pending_of-in-Some-clause-of_step
returns-in_ok-pending_of-in-Some-clause-of_step c = λ n is.
    pending_of_turn c.args.schema.now c.args.plan.now c.args.course c.in_ok-pending_of-in-Some.field-0 c.in-Some.branch.now
    (sym c.in-Some.ensures)
    c.in_ok-pending_of-in-Some.ensures n is

pub returns-in-None-clause-turns : goal.returns-in-None-clause-turns
returns-in-None-clause-turns c = λ n facts is k.
    let none = no_turn c.args.plan.now n c.args.course (stands_behind c.args.plan.now c.args.course (sym c.in-None.ensures) is.stands) is in
    subst (λ (o : Option Turn). AreAskedAt (meaning_of c.args.schema.now) facts o []) (sym none) refl

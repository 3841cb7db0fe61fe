use Rattle.std.proofs.Common.{sym, subst}
use Rattle.homomorphism.specs.Frontier.{AreApart, IsBetween, IsStart}
use Rattle.homomorphism.specs.Widening.{Widens, AreUntouched}
use Rattle.homomorphism.proofs.Starting.{started_is}
use Rattle.homomorphism.proofs.start.start.Goals as goal

pub returns-clause-some : goal.returns-clause-some
returns-clause-some c =
    let w : Widens c.args.store.now c.args.body.now c.args.given c.in-Some.found = rw c.in_ok-copy.ensures at (rw c.in-Some.is at c.in_ok-found.ensures.some) in
    let between : IsBetween c.args.given c.in-Some.found c.in_ok-start.start.items = rw c.as_slice-4.ensures at (rw c.as_slice-5.ensures at c.in_ok-start.ensures) in
    let apart : AreApart c.args.body.now c.args.given c.in_ok-start.start.items = rw c.as_slice-7.ensures at (rw c.as_slice-8.ensures.value at (c.are_apart.ensures c.if-not-are_apart.false)) in
    let left : AreUntouched c.args.head.now c.args.given c.in_ok-start.start.items = rw c.as_slice-else-not-are_apart.ensures at (rw c.as_slice-else-not-are_apart-2.ensures.value at (c.are_left.ensures c.if-not-are_left.false)) in
    subst (IsStart c.args.store.now c.args.body.now c.args.head.now c.args.given) (sym c.from_vec.ensures)
    (started_is c.args.store.now c.args.body.now c.args.head.now c.args.given c.in-Some.found c.in_ok-start.start.items w between apart left)

use Rattle.homomorphism.specs.Matches.{NoMatch}
use Rattle.homomorphism.specs.Widening.{Widens}
use Rattle.homomorphism.proofs.AtomByAtom.{match_of}
use Rattle.homomorphism.proofs.find.first_match.Goals as goal

pub returns-in-Some-clause-some : goal.returns-in-Some-clause-some
returns-in-Some-clause-some c =
    let found : Widens c.args.store.now c.args.atoms.now c.args.fixed.now c.in-Some.found = rw c.as_slice.ensures at (rw c.in_ok-copy.ensures at (rw c.in-Some.is at c.in_ok-found.ensures.some)) in
    match_of c.args.store.now c.args.atoms.now c.args.fixed.now c.in-Some.found c.in_ok-assignment.field-0.vals found c.in_ok-assignment.ensures

pub returns-clause-none : goal.returns-clause-none
returns-clause-none c =
    let none : NoMatch c.args.store.now c.args.atoms.now c.args.fixed.now = rw c.as_slice.ensures at (rw c.in_ok-copy.ensures at (rw c.in_default.is at c.in_ok-found.ensures.none)) in
    none

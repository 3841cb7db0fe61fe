use Rattle.std.proofs.Common.{arith, refl}
use Rattle.homomorphism.specs.Matches.{NoMatch}
use Rattle.homomorphism.specs.Widening.{Widens, taken}
use Rattle.homomorphism.proofs.Runs.{whole_is, none_of_taken}
use Rattle.homomorphism.proofs.search.search_run.Goals as goal

pub extend-requires-clause-within : goal.extend-requires-clause-within
extend-requires-clause-within c = λ n h. c.requires.all.within c.args.run.now n (0, omega arith, refl) h

pub returns-then-branch-clause-some : goal.returns-then-branch-clause-some
returns-then-branch-clause-some c =
    let w : Widens c.args.store.now (taken c.args.atoms.now c.args.run.now) c.args.given c.extend.new.given.items = rw c.into_vec-now.ensures at (c.in_ok-extend.ensures.found c.if-branch.true) in
    rw c.from_vec.ensures (whole_is c.args.store.now c.args.atoms.now c.args.run.now c.args.given c.extend.new.given.items c.requires.all w)

pub returns-clause-none : goal.returns-clause-none
returns-clause-none c =
    let none : NoMatch c.args.store.now (taken c.args.atoms.now c.args.run.now) c.args.given = rw c.into_vec-now.ensures at (c.in_ok-extend.ensures.none c.if-branch.false) in
    none_of_taken c.args.store.now c.args.atoms.now c.args.run.now c.args.given (λ n h. c.requires.all.within c.args.run.now n (0, omega arith, refl) h) none

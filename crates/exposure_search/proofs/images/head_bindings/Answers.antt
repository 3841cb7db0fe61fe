use Rattle.std.proofs.Common.{replicate}
use Rattle.std.specs.Prelude.{None}
use Rattle.homomorphism.specs.Narrowing.{NarrowsIf}
use Rattle.exposure_search.proofs.Imaging.{bindings_some, bindings_none}
use Rattle.exposure_search.proofs.images.head_bindings.Goals as goal

pub returns-clause-some : goal.returns-clause-some
returns-clause-some c =
    let n : NarrowsIf c.args.query.now.head c.args.head.now (replicate c.args.query.now.variables None) c.in_ok-unify.field-0 = rw c.as_slice.ensures at (rw c.as_slice-2.ensures at (rw c.in_ok-given.ensures at c.in_ok-unify.ensures)) in
    bindings_some c.args.query.now c.args.head.now c.in_ok-unify.field-0 (record { atoms = c.requires.atoms; head = c.requires.head }) n

pub returns-clause-none : goal.returns-clause-none
returns-clause-none c =
    let n : NarrowsIf c.args.query.now.head c.args.head.now (replicate c.args.query.now.variables None) c.in_ok-unify.field-0 = rw c.as_slice.ensures at (rw c.as_slice-2.ensures at (rw c.in_ok-given.ensures at c.in_ok-unify.ensures)) in
    bindings_none c.args.query.now c.args.head.now c.in_ok-unify.field-0 n

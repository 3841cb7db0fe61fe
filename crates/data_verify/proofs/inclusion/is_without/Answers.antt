use Rattle.homomorphism.proofs.Covering.{told}
use Rattle.data_verify.proofs.KeySets.{without_is}
use Rattle.data_verify.proofs.inclusion.is_without.Goals as goal

pub returns : goal.returns
returns c = without_is c.args.body.now c.args.head.now c.args.variables.now c.args.keys.now c.args.fact.now c.in_ok-contains.field-0 (told _ c.fits_atom.ensures c.if-not-fits_atom.false)
    (rw c.as_slice-own.ensures at (rw c.as_slice-terms.ensures at (rw c.as_slice.ensures at c.in_ok-contains.ensures)))

use Rattle.lists.proofs.Booleans.{test_fails}
use Rattle.homomorphism.proofs.Covering.{told}
use Rattle.data_verify.specs.Inclusion.{Fits}
use Rattle.data_verify.proofs.Terms.{rest_of, fits_rest, fits_not, fits_end}
use Rattle.data_verify.proofs.fitting.fits.Goals as goal

pub returns-in_default-values : goal.returns-in_default-values
returns-in_default-values c = test_fails (λ f. fits_not c.loop-left.left.now c.loop-left.values.now c.in-len1-up.len_at_least c.in_default-values.len_below (c.loop-left.invariant.0 f))

pub loop-left-preserved : goal.loop-left-preserved
loop-left-preserved c = rest_of c.loop-left.left.now c.loop-left.values.now c.term-item.result c.value-item.result c.in-len1-up.len_at_least c.term-item.is c.in-len1-up-values.len_at_least c.value-item.is Fits _ c.loop-left.invariant
    (fits_rest _ _ _ _ (told _ c.fits_before.ensures c.if-not-fits_before.false))

pub returns : goal.returns
returns c =
    let end = fits_end c.loop-left.left.now c.loop-left.values.now c.is_empty.result c.in_default.len_below c.is_empty.ensures in
    ((λ t. c.loop-left.invariant.1 (end.0 t)), (λ f. end.1 (c.loop-left.invariant.0 f)))

use Rattle.homomorphism.proofs.Binding.{place_fits}
use Rattle.homomorphism.proofs.bind.could_be.Goals as goal

pub clashes-requires : goal.clashes-requires
clashes-requires c = place_fits _ _ _ _ c.loop-place-test.true c.index-terms-place.is c.requires

use Rattle.meaning_laws.specs.Trims.{IsNeeded}
use Rattle.meaning_laws.proofs.Resting.{rest_is_reached}
use Rattle.meaning_laws.proofs.laws.rest_is_reached.Goals as goal

pub returns : goal.returns
returns c schema constants queries head wanted first limit start rules follow low met short named fits =
    rest_is_reached schema constants first (IsNeeded queries head wanted) start rules follow low met limit short named fits

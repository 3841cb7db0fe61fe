use Rattle.std.specs.Prelude.{Contains}
use Rattle.meaning_laws.specs.Trims.{IsNeeded}
use Rattle.meaning_laws.proofs.Trimming.{relevant_trim}
use Rattle.meaning_laws.proofs.laws.relevant_trims.Goals as goal

pub returns : goal.returns
returns c schema constants base next queries head wanted relevant exposures copy end goal closed =
    relevant_trim schema constants base next queries head (IsNeeded queries head wanted) (Contains relevant) closed exposures copy end goal

use Rattle.std.proofs.Common.{take}
use Rattle.exposure_search.proofs.MovesFrom.{AreAdded}
use Rattle.exposure_search.proofs.candidates.add_candidates.Given as goal

-- those by the first methods were added
abbrev pub invariant-loop-number : goal.invariant-loop-number
invariant-loop-number l = AreAdded l.schema.methods l.proof.constants l.place l.fact l.needed (take l.number-index l.numbers) l.fn.candidates.items l.candidates.items

use Rattle.std.proofs.Common.{◌≡◌, length, take}
use Rattle.exposure_search.specs.Candidates.{IsCandidateIndex}
use Rattle.exposure_search.proofs.candidate_index.CandidateIndex.of.Given as goal

-- the first candidates are listed
abbrev pub invariant-loop-number : goal.invariant-loop-number
invariant-loop-number l = IsCandidateIndex (take l.number l.candidates) l.numbers.items × (length l.numbers.items ≡ l.facts)

use Rattle.std.proofs.Common.{◌≡◌, map, take}
use Rattle.exposure_search.specs.declared.candidates.Candidate.{Candidate}
use Rattle.exposure_search.proofs.candidates.candidate_moves.Given as goal

-- the moves of the first candidates
abbrev pub invariant-loop-candidate : goal.invariant-loop-candidate
invariant-loop-candidate l = l.moves.items ≡ map (λ (candidate : Candidate). candidate.step) (take l.candidate-index l.candidates)

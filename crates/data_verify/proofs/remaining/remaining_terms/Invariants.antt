use Rattle.std.proofs.Common.{◌≡◌, length, map, take}
use Rattle.homomorphism.specs.Texts.{text_at}
use Rattle.data_verify.specs.Remaining.{remaining_term}
use Rattle.data_verify.proofs.remaining.remaining_terms.Given as goal

abbrev pub invariant-loop-term : goal.invariant-loop-term
invariant-loop-term l = l.rest.items ≡ map (remaining_term (length l.values) (text_at l.values))
    (take l.term-index l.terms)

use Rattle.homomorphism.specs.Listed.{keys_of}
use Rattle.homomorphism.proofs.Noting.{Noting, keys_before}
use Rattle.homomorphism.proofs.key_lists.KeyLists.note_all.Given as goal

abbrev pub invariant-loop-position : goal.invariant-loop-position
invariant-loop-position l = Noting l.positions (keys_of l.fact) (keys_before l.fact l.val-items l.position) l.number l.fn.self l.self

use Rattle.std.proofs.Common.{◌≡◌, map, take}
use Rattle.data_verify.specs.Breaking.{row_under}
use Rattle.homomorphism.specs.Texts.{text_at}
use Rattle.data_verify.proofs.rows.rows_under.Given as goal

abbrev pub invariant-loop-atom : goal.invariant-loop-atom
invariant-loop-atom l = l.rows.items ≡ map (row_under (text_at l.values)) (take l.atom-index l.atoms)

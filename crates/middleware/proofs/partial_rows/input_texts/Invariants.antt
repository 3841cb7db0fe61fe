use Rattle.std.proofs.Common.{◌≡◌, map, take}
use Rattle.middleware.specs.Joining.{input_row_of}
use Rattle.middleware.proofs.partial_rows.input_texts.Given as goal

abbrev pub invariant-loop-input : goal.invariant-loop-input
invariant-loop-input l = map (λ s. s.now) l.texts.items ≡ input_row_of l.places (take l.input-index l.inputs) l.row

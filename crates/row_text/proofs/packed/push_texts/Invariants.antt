use Rattle.std.proofs.Common.{◌≡◌, ◌++◌, map, take}
use Rattle.csv.specs.Records.{fields_of}
use Rattle.row_text.proofs.packed.push_texts.Given as goal

abbrev pub invariant-loop-text : goal.invariant-loop-text
invariant-loop-text l = fields_of l.values ≡ fields_of l.initial.values ++ map (λ s. s.now) (take l.text-index l.texts)

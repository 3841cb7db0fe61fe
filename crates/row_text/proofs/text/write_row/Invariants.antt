use Rattle.std.proofs.Common.{◌≡◌, take, map}
use Rattle.row_text.proofs.text.write_row.Given as goal

-- the fields are those of the texts so far
abbrev pub invariant-loop-text : goal.invariant-loop-text
invariant-loop-text l = map (λ f. f.now) l.fields.items ≡ map (λ s. s.now) (take l.text-index l.row)

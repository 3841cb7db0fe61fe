use Rattle.std.proofs.Common.{◌≡◌, map, take}
use Rattle.row_text.proofs.text.write_names.Given as goal

-- the texts are the names so far
abbrev pub invariant-loop-name : goal.invariant-loop-name
invariant-loop-name l = map (λ t. t.now) l.texts.items ≡ take l.name-index l.names

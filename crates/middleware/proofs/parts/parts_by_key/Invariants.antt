use Rattle.std.proofs.Common.{◌≡◌, length, map, take}
use Rattle.row_text.specs.Packed.{AreEnds, cut_at}
use Rattle.middleware.specs.Parts.{part_of}
use Rattle.middleware.proofs.parts.parts_by_key.Given as goal

-- the parts of the keys so far lie one behind another
abbrev pub invariant-loop-number : goal.invariant-loop-number
invariant-loop-number l = record {
  are : AreEnds 0 l.ends.items (length l.rows);
  cut : cut_at 0 l.ends.items l.rows ≡ map (part_of l.positions l.answer) (take l.number l.keys);
}

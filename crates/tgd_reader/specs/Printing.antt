-- What inner functions of printing write, and the numbers that they look up.
use Rattle.std.specs.Prelude.{◌≡◌, ◌<◌, ◌++◌, ℕ, List, map, length, All, slice_get}
use Rattle.std.specs.List.{AllByRecursion}
use Rattle.meaning.specs.declared.types.Relation.{Relation}
use Rattle.meaning.specs.declared.types.Atom.{Atom}
use Rattle.meaning.specs.declared.types.Rule.{Rule}
use Rattle.meaning.specs.declared.types.Method.{Method}
use Rattle.access_schema.specs.declared.schema.SourceLine.{SourceLine}
use Rattle.pq_text.specs.Pieces.{Piece, text_of, lines_text}
use Rattle.access_schema.specs.declared.part.Part.{Part}
use Rattle.tgd_reader.specs.Printed.{part_pieces, columns_in}

-- These pieces were written behind what stood there.
abbrev pub Writes : List ℕ → List ℕ → List Piece → Type 0
Writes old new pieces = new ≡ old ++ text_of pieces

-- These declarations were written behind what stood there, each on a line.
abbrev pub WritesLines : List ℕ → List ℕ → List Part → Type 0
WritesLines old new parts = new ≡ old ++ lines_text (map part_pieces parts)

-- The atom is over one of the relations.
abbrev pub IsPlaced : List Relation → Atom → Type 0
IsPlaced relations atom = atom.rel < length relations

-- So are all atoms of the rule.
abbrev pub IsRulePlaced : List Relation → Rule → Type 0
IsRulePlaced relations rule = AllByRecursion (IsPlaced relations) rule.body × AllByRecursion (IsPlaced relations) rule.head

-- The method is over one of the relations, and its inputs are columns of it.
abbrev pub IsMethodPlaced : List Relation → Method → Type 0
IsMethodPlaced relations method = (method.rel < length relations) × All (λ place. place < length (columns_in (slice_get relations method.rel))) method.inputs

-- The source line is for one of the relations.
abbrev pub IsSourcePlaced : List Relation → SourceLine → Type 0
IsSourcePlaced relations source = source.rel < length relations

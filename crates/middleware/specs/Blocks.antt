-- Blocks: tables whose choices of one row of each are the partial rows.
use Rattle.std.specs.Prelude.{◌≡◌, ◌<◌, ◌↔◌, ◌⊎◌, ℕ, List, [], ◌∷◌, Contains, length, Bool, true}
use Rattle.std.specs.List.{range_with_len}
use Rattle.source_trait.specs.Asking.{RowList}
use Rattle.middleware.specs.Naming.{Texts, Fits, AreOfTexts}
use Rattle.middleware.specs.declared.blocks.Block.{Block}

-- the texts are of a row of the block
abbrev pub FitsBlock : Texts → Block → Type 0
FitsBlock texts block = Fits texts block.columns block.rows

-- the texts are of a row of each block
abbrev pub FitsAll : Texts → List Block → Type 0
FitsAll texts blocks = (block : Block) → Contains blocks block → FitsBlock texts block

-- the block has the column
abbrev pub HasColumn : Block → ℕ → Type 0
HasColumn block k = Contains block.columns k

-- no column is one of both
abbrev pub IsApart : List ℕ → List ℕ → Type 0
IsApart columns others = (k : ℕ) → Contains columns k → Contains others k → ⊥

-- no two blocks share a column
abbrev pub AreApart : List Block → Type 0
AreApart [] = Unit {0}
AreApart (block ∷ blocks) = ((other : Block) → Contains blocks other → IsApart block.columns other.columns) × AreApart blocks

-- each row of the block has a value for each of its columns
abbrev pub IsWhole : Block → Type 0
IsWhole block = AreOfTexts block.columns block.rows

-- each row of each block has a value for each of its columns
abbrev pub AreWhole : List Block → Type 0
AreWhole blocks = (block : Block) → Contains blocks block → IsWhole block

-- the block is over some of the first n columns
abbrev pub IsBelow : ℕ → Block → Type 0
IsBelow n block = (k : ℕ) → HasColumn block k → k < n

-- blocks over some of the first n columns, no two of which share one
pub record AreTables (n : ℕ) (blocks : List Block) : Type 0 where
  pub below : (block : Block) → Contains blocks block → IsBelow n block
  pub apart : AreApart blocks

-- one of the blocks has the column
abbrev pub HaveColumn : List Block → ℕ → Type 0
HaveColumn blocks k = (block : Block) × Contains blocks block × HasColumn block k

-- each live one of the first n columns is in a block
abbrev pub HaveLive : (ℕ → Bool) → ℕ → List Block → Type 0
HaveLive live n blocks = (k : ℕ) → k < n → live k ≡ true → HaveColumn blocks k

-- Partial rows of n columns and blocks: the values of each partial row are of a row of each block, and texts that are of a row of each
-- block are those of a partial row at the live columns.
pub record AreBlocks (live : ℕ → Bool) (n : ℕ) (partial : RowList) (blocks : List Block) : Type 0 where
  pub wide : (row : List (List ℕ)) → Contains partial row → length row ≡ n
  pub whole : AreWhole blocks
  pub there : (texts : Texts) → Fits texts (range_with_len 0 n) partial → FitsAll texts blocks
  pub back : (texts : Texts) → FitsAll texts blocks
      → (its : Texts) × Fits its (range_with_len 0 n) partial × ((k : ℕ) → k < n → live k ≡ true → its k ≡ texts k)

-- Texts are of a row of the join where they are of a row of either block.
pub record IsJoin (table block both : Block) : Type 0 where
  pub columns : (k : ℕ) → HasColumn both k ↔ (HasColumn table k ⊎ HasColumn block k)
  pub whole : IsWhole table → IsWhole block → IsWhole both
  pub fits : IsWhole table → (texts : Texts) → FitsBlock texts both ↔ (FitsBlock texts table × FitsBlock texts block)

-- texts are of a row of the table and of each block where they are of the join and of each other block
pub record GathersRows (table : Block) (blocks : List Block) (both : Block) (left rest : List Block) : Type 0 where
  pub both_whole : IsWhole both
  pub left_whole : AreWhole left
  pub rest_whole : AreWhole rest
  pub fits : (texts : Texts) → (FitsBlock texts table × FitsAll texts blocks) ↔ (FitsBlock texts both × FitsAll texts left × FitsAll texts rest)

-- Some of the blocks were joined with a table, among them each that has one of the columns or no row; the others are the rest, but for
-- those that are still left.
pub record Gathers (n : ℕ) (columns : List ℕ) (table : Block) (blocks : List Block) (both : Block) (left rest : List Block) : Type 0 where
  pub below : IsBelow n both
  pub left_tables : AreTables n left
  pub rest_tables : AreTables n rest
  pub apart : (block other : Block) → Contains rest block → Contains left other → IsApart block.columns other.columns
  pub some : (block : Block) → Contains rest block → (row : List (List ℕ)) × Contains block.rows row
  pub lacks : (block : Block) → Contains rest block → IsApart block.columns columns
  pub from : (k : ℕ) → HasColumn both k → HasColumn table k ⊎ ((HaveColumn left k → ⊥) × (HaveColumn rest k → ⊥))
  pub keeps : (k : ℕ) → HasColumn table k ⊎ HaveColumn blocks k → HasColumn both k ⊎ (HaveColumn left k ⊎ HaveColumn rest k)
  pub rows : IsWhole table → AreWhole blocks → GathersRows table blocks both left rest

-- The block without columns that are not live.
pub record IsCut (live : ℕ → Bool) (block cut : Block) : Type 0 where
  pub within : (k : ℕ) → HasColumn cut k → HasColumn block k
  pub keeps : (k : ℕ) → live k ≡ true → HasColumn block k → HasColumn cut k
  pub whole : IsWhole block → IsWhole cut
  pub there : (texts : Texts) → FitsBlock texts block → FitsBlock texts cut
  pub back : IsWhole block → (texts : Texts) → FitsBlock texts cut
      → (its : Texts) × FitsBlock its block × ((k : ℕ) → HasColumn cut k → its k ≡ texts k)

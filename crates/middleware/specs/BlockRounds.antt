-- What a step asks of partial rows in blocks, the blocks behind it, and the outputs of blocks.
use Rattle.std.specs.Prelude.{◌≡◌, ℕ, Bool, List, [], ◌∷◌, ◌++◌, map}
use Rattle.meaning.specs.declared.types.Out.{Out}
use Rattle.meaning.specs.declared.types.Out.TheVariants.{Const as Fixed, Col as Made}
use Rattle.meaning.specs.declared.types.Step.{Step}
use Rattle.meaning.specs.Plans.{made}
use Rattle.source_trait.specs.Asking.{RowList}
use Rattle.middleware.specs.Live.{is_shown}
use Rattle.middleware.specs.Naming.{Texts, AreAsked, IsLocal}
use Rattle.middleware.specs.Blocks.{AreBlocks, Gathers, IsCut}
use Rattle.middleware.specs.Branches.{HasAdded, output_of}
use Rattle.middleware.specs.declared.blocks.Block.{Block}
use Rattle.middleware.specs.declared.block_round.Asking.{Asking}

-- What a step asks: its places are those of a table that was joined of each block with a column at an input, and the others are beside it.
pub record Asks (step : Step) (inputs : List ℕ) (count : ℕ) (blocks : List Block) (asking : Asking) : Type 0 where
  pub columns : List ℕ
  pub first : Block
  pub table : Block
  pub first_rows : first.rows ≡ [] ∷ []
  pub first_columns : first.columns ≡ []
  pub asked : AreAsked columns step.places inputs
  pub gathers : Gathers count columns first blocks table [] asking.rest.items
  pub local : IsLocal table.columns count step.places asking.step.places asking.columns
  pub rows_are : asking.rows ≡ table.rows
  pub count_is : asking.count ≡ made count step.places
  pub method_is : asking.step.method ≡ step.method

-- A block was joined with each of the others that has one of its columns, and cut.
pub record Checks (live : ℕ → Bool) (count : ℕ) (grown : Block) (others blocks : List Block) : Type 0 where
  pub both : Block
  pub cut : Block
  pub rest : List Block
  pub gathers : Gathers count grown.columns grown others both [] rest
  pub cuts : IsCut live both cut
  pub blocks_are : blocks ≡ rest ++ cut ∷ []

-- the text of an output place
abbrev pub out_of : Texts → Out → List ℕ
out_of texts (Fixed c) = c
out_of texts (Made k) = texts k

-- the outputs of the partial rows whose blocks these are were added
abbrev pub AddsOutputs : List Out → ℕ → List Block → RowList → RowList → Type 0
AddsOutputs outs n blocks into more = (partial : RowList) → AreBlocks (is_shown outs) n partial blocks → HasAdded into (map (output_of outs) partial) more

-- How the words behind a command's name are items: positionals, options with the texts of their numbers, and flags.
use Rattle.std.specs.Prelude.{◌≡◌, ◌≢◌, ◌++◌, ◌+◌, ℕ, Bool, true, false, List, [], ◌∷◌, codes, if◌then◌else◌}
use Rattle.std.specs.Fmt.{decimal}
use Rattle.command_words.specs.Table.{option_word, same_option, takes, InRange, default_number, flag_word, same_flag, takes_flag}
use Rattle.command_words.specs.declared.table.CommandName.{CommandName}
use Rattle.command_words.specs.declared.table.OptionName.{OptionName}
use Rattle.command_words.specs.declared.table.FlagName.{FlagName}
use Rattle.command_words.specs.declared.item.Item.{Item as Lent}
use Rattle.command_words.specs.declared.item.Item.TheVariants as lent

pub data Item : Type 0 where
  Positional : List ℕ → Item
  Given : OptionName → List ℕ → Item
  Raised : FlagName → Item

-- A positional is not empty and does not begin with a dash.
abbrev pub IsPositional : List ℕ → Type 0
IsPositional [] = ⊥
IsPositional (b ∷ bs) = b ≢ 45

-- The words begin with this item, and the rest stands behind it.
pub data Begins (name : CommandName) : List (List ℕ) → Item → List (List ℕ) → Type 0 where
  -- a positional
  InFront : (word : List ℕ) (rest : List (List ℕ)) → IsPositional word → Begins name (word ∷ rest) (Positional word) rest
  -- an option of the command, `--name value`
  InTwoWords : (option : OptionName) (value : List ℕ) (rest : List (List ℕ)) → takes name option ≡ true →
      Begins name ((codes "--" ++ option_word option) ∷ value ∷ rest) (Given option value) rest
  -- an option of the command, `--name=value`
  InOneWord : (option : OptionName) (value : List ℕ) (rest : List (List ℕ)) → takes name option ≡ true →
      Begins name ((codes "--" ++ option_word option ++ codes "=" ++ value) ∷ rest) (Given option value) rest
  -- a flag of the command, `--name` and no more
  AsFlag : (flag : FlagName) (rest : List (List ℕ)) → takes_flag name flag ≡ true → Begins name ((codes "--" ++ flag_word flag) ∷ rest) (Raised flag) rest

-- The words are these items, one behind another.
pub data Splits (name : CommandName) : List (List ℕ) → List Item → Type 0 where
  End : Splits name [] []
  More : (words : List (List ℕ)) (item : Item) (rest : List (List ℕ)) (items : List Item) →
      Begins name words item rest → Splits name rest items → Splits name words (item ∷ items)

-- the positionals among the items, in their order
abbrev pub positionals_of : List Item → List (List ℕ)
positionals_of [] = []
positionals_of (Positional word ∷ items) = word ∷ positionals_of items
positionals_of (Given option value ∷ items) = positionals_of items
positionals_of (Raised flag ∷ items) = positionals_of items

-- the texts that the items give for an option
abbrev pub texts_of : OptionName → List Item → List (List ℕ)
texts_of option [] = []
texts_of option (Positional word ∷ items) = texts_of option items
texts_of option (Given other text ∷ items) = if same_option option other then text ∷ texts_of option items else texts_of option items
texts_of option (Raised flag ∷ items) = texts_of option items

-- how many times a flag is among the items
abbrev pub times_raised : FlagName → List Item → ℕ
times_raised flag [] = 0
times_raised flag (Positional word ∷ items) = times_raised flag items
times_raised flag (Given option text ∷ items) = times_raised flag items
times_raised flag (Raised other ∷ items) = (if same_flag flag other then 1 else 0) + times_raised flag items

-- The option has this number: it is given once, in digits without a leading zero and within its range, or it is not given.
pub data IsSet (option : OptionName) (items : List Item) (n : ℕ) : Type 0 where
  Once : texts_of option items ≡ decimal n ∷ [] → InRange option n → IsSet option items n
  Absent : texts_of option items ≡ [] → n ≡ default_number option → IsSet option items n

-- The flag is raised: it is among the items, once. Or it is not there.
abbrev pub IsRaised : FlagName → List Item → Bool → Type 0
IsRaised flag items true = times_raised flag items ≡ 1
IsRaised flag items false = times_raised flag items ≡ 0

-- an item that is lent, as one of the definition
abbrev pub item_of : Lent → Item
item_of (lent.Positional word) = Positional word.now
item_of (lent.Given option value) = Given option value.now
item_of (lent.Raised flag) = Raised flag

-- What the words behind a command's name give: at most three positionals, a number or none for each option, and each flag or not.
use Rattle.std.specs.Prelude.{◌≡◌, ◌≤◌, ◌&&◌, ℕ, Bool, List, [], ◌∷◌, length, nat_eq, nat_le, if◌then◌else◌, Option, None, Some, option_map, unwrap_or}
use Rattle.std.specs.Cmp.Lexicographic.{pointwise}
use Rattle.std.specs.Fmt.{decimal}
use Rattle.std.specs.Str.Parse.{digits_value}
use Rattle.command_words.specs.Table.{InRange, default_number}
use Rattle.command_words.specs.Splits.{Item, Splits, positionals_of, texts_of, IsSet, times_raised, IsRaised}
use Rattle.command_words.specs.Words.{Command, Help, Schema, Explain, Run, Batch, Exec, Check, Verify, Crawl, Reach, World}
use Rattle.command_words.specs.declared.table.CommandName.{CommandName}
use Rattle.command_words.specs.declared.table.CommandName.TheVariants as name
use Rattle.command_words.specs.declared.table.OptionName.{OptionName}
use Rattle.command_words.specs.declared.table.OptionName.TheVariants.{Firings, Search, Workers, Calls}
use Rattle.command_words.specs.declared.table.FlagName.{FlagName}
use Rattle.command_words.specs.declared.table.FlagName.TheVariants as flag
use Rattle.command_words.specs.declared.given.Arguments.{Arguments}
use Rattle.command_words.specs.declared.given.Positionals.{Positionals}
use Rattle.command_words.specs.declared.given.Positionals.TheVariants as some

abbrev pub words_of : Positionals → List (List ℕ)
words_of some.Zero = []
words_of (some.One first) = first.now ∷ []
words_of (some.Two first second) = first.now ∷ second.now ∷ []
words_of (some.Three first second third) = first.now ∷ second.now ∷ third.now ∷ []

abbrev pub given_number : OptionName → Arguments → Option ℕ
given_number Firings arguments = arguments.firings
given_number Search arguments = arguments.search
given_number Workers arguments = arguments.workers
given_number Calls arguments = arguments.calls

-- the number that is given, or the default
abbrev pub number_of : OptionName → Arguments → ℕ
number_of option arguments = unwrap_or (given_number option arguments) (default_number option)

-- whether the flag is given
abbrev pub given_flag : FlagName → Arguments → Bool
given_flag flag.Verify arguments = arguments.verify

-- The items give the option this number once, or none.
abbrev pub IsGiven : OptionName → List Item → Option ℕ → Type 0
IsGiven option items None = texts_of option items ≡ []
IsGiven option items (Some n) = (texts_of option items ≡ decimal n ∷ []) × InRange option n

-- The items give these arguments.
pub record Give (items : List Item) (arguments : Arguments) : Type 0 where
  pub in_order : positionals_of items ≡ words_of arguments.positionals
  pub are_given : (option : OptionName) → IsGiven option items (given_number option arguments)
  pub are_raised : (flag : FlagName) → IsRaised flag items (given_flag flag arguments)

-- The words split into items that give these arguments.
pub record AreArguments (name : CommandName) (words : List (List ℕ)) (arguments : Arguments) : Type 0 where
  pub items : List Item
  pub splits : Splits name words items
  pub give : Give items arguments

-- A command may have these items: there are at most three positionals, each option has a number, and no flag is raised twice.
pub record MayBe (items : List Item) : Type 0 where
  pub few : length (positionals_of items) ≤ 3
  pub settable : (option : OptionName) → (n : ℕ) × IsSet option items n
  pub once : (flag : FlagName) → times_raised flag items ≤ 1

-- the number of 1 to 10,000 that is written so, in digits without a leading zero
abbrev pub size_of : List ℕ → Option ℕ
size_of text =
    if pointwise nat_eq text (decimal (digits_value 10 text)) && (nat_le 1 (digits_value 10 text) && nat_le (digits_value 10 text) 10000) then Some (digits_value 10 text) else None

-- The command of a task with these positionals, and these numbers of firings, search units, workers and calls and this flag where it takes them.
abbrev pub made_task : CommandName → List (List ℕ) → ℕ → ℕ → ℕ → ℕ → Bool → Option Command
made_task name.Run (schema ∷ query ∷ []) n units lanes calls verify = Some (Run schema query n units lanes calls verify)
made_task name.Batch (schema ∷ queries ∷ []) n units lanes calls verify = Some (Batch schema queries n units lanes calls)
made_task name.Exec (schema ∷ plan ∷ []) n units lanes calls verify = Some (Exec schema plan lanes calls)
made_task name.Crawl (schema ∷ []) n units lanes calls verify = Some (Crawl schema lanes calls)
made_task name.Reach (schema ∷ query ∷ []) n units lanes calls verify = Some (Reach schema query lanes calls)
made_task _ _ _ _ _ _ _ = None

-- And so any command.
abbrev pub made : CommandName → List (List ℕ) → ℕ → ℕ → ℕ → ℕ → Bool → Option Command
made name.Help [] n units lanes calls verify = Some Help
made name.Schema (schema ∷ []) n units lanes calls verify = Some (Schema schema)
made name.Explain (schema ∷ query ∷ []) n units lanes calls verify = Some (Explain schema query n units)
made name.Check (schema ∷ query ∷ plan ∷ []) n units lanes calls verify = Some (Check schema query plan n)
made name.Verify (schema ∷ []) n units lanes calls verify = Some (Verify schema)
made name.World (text ∷ []) n units lanes calls verify = option_map (λ size. World size lanes) (size_of text)
made which positionals n units lanes calls verify = made_task which positionals n units lanes calls verify

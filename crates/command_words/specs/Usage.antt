-- What `help` prints: a line for each command.
use Rattle.std.specs.Prelude.{◌++◌, ℕ, List, [], ◌∷◌, codes, if◌then◌else◌}
use Rattle.command_words.specs.Table.{command_word, positional_names, commands, option_word, options_of, flag_word, flags, takes_flag}
use Rattle.command_words.specs.declared.table.CommandName.{CommandName}
use Rattle.command_words.specs.declared.table.OptionName.{OptionName}
use Rattle.command_words.specs.declared.table.FlagName.{FlagName}

-- words, a blank before each
abbrev pub spaced : List (List ℕ) → List ℕ
spaced [] = []
spaced (word ∷ words) = codes " " ++ word ++ spaced words

-- options, each as ` [--name N]`
abbrev pub option_usage : List OptionName → List ℕ
option_usage [] = []
option_usage (option ∷ others) = codes " [--" ++ option_word option ++ codes " N]" ++ option_usage others

-- those of the flags that the command takes, as ` [--name]`
abbrev pub flag_usage : CommandName → List FlagName → List ℕ
flag_usage name [] = []
flag_usage name (flag ∷ others) = (if takes_flag name flag then codes " [--" ++ flag_word flag ++ codes "]" else []) ++ flag_usage name others

abbrev pub usage_lines : List CommandName → List ℕ
usage_lines [] = []
usage_lines (name ∷ names) =
    codes "  " ++ command_word name ++ spaced (positional_names name) ++ option_usage (options_of name) ++ flag_usage name flags ++ codes "\n" ++ usage_lines names

abbrev pub usage : List ℕ
usage = codes "usage: pdq COMMAND\n" ++ usage_lines commands

-- The commands, the options and the flags: one case a row.
use Rattle.std.specs.Prelude.{◌≤◌, ℕ, Bool, true, false, List, [], ◌∷◌, codes, if◌then◌else◌}
use Rattle.command_words.specs.declared.table.CommandName.{CommandName}
use Rattle.command_words.specs.declared.table.CommandName.TheVariants.{Help, Schema, Explain, Run, Batch, Exec, Check, Verify, Crawl, Reach, World}
use Rattle.command_words.specs.declared.table.OptionName.{OptionName}
use Rattle.command_words.specs.declared.table.OptionName.TheVariants.{Firings, Search, Workers, Calls}
use Rattle.command_words.specs.declared.table.FlagName.{FlagName}
use Rattle.command_words.specs.declared.table.FlagName.TheVariants as flag

-- the word that a command's list begins with
abbrev pub command_word : CommandName → List ℕ
command_word Help = codes "help"
command_word Schema = codes "schema"
command_word Explain = codes "explain"
command_word Run = codes "run"
command_word Batch = codes "batch"
command_word Exec = codes "exec"
command_word Check = codes "check"
command_word Verify = codes "verify"
command_word Crawl = codes "crawl"
command_word Reach = codes "reach"
command_word World = codes "world"

-- what a command's positionals are called in the text that `help` prints
abbrev pub positional_names : CommandName → List (List ℕ)
positional_names Help = []
positional_names Schema = codes "SCHEMA" ∷ []
positional_names Explain = codes "SCHEMA" ∷ codes "QUERY" ∷ []
positional_names Run = codes "SCHEMA" ∷ codes "QUERY" ∷ []
positional_names Batch = codes "SCHEMA" ∷ codes "QUERIES" ∷ []
positional_names Exec = codes "SCHEMA" ∷ codes "PLAN" ∷ []
positional_names Check = codes "SCHEMA" ∷ codes "QUERY" ∷ codes "PLAN" ∷ []
positional_names Verify = codes "SCHEMA" ∷ []
positional_names Crawl = codes "SCHEMA" ∷ []
positional_names Reach = codes "SCHEMA" ∷ codes "QUERY" ∷ []
positional_names World = codes "N" ∷ []

-- the commands in the order in which `help` prints them
abbrev pub commands : List CommandName
commands = Help ∷ Schema ∷ Explain ∷ Run ∷ Batch ∷ Exec ∷ Check ∷ Verify ∷ Crawl ∷ Reach ∷ World ∷ []

-- the word that names an option, behind two dashes
abbrev pub option_word : OptionName → List ℕ
option_word Firings = codes "firings"
option_word Search = codes "search"
option_word Workers = codes "workers"
option_word Calls = codes "calls"

abbrev pub same_option : OptionName → OptionName → Bool
same_option Firings Firings = true
same_option Search Search = true
same_option Workers Workers = true
same_option Calls Calls = true
same_option _ _ = false

-- the options that a command takes, in the order in which `help` prints them
abbrev pub options_of : CommandName → List OptionName
options_of Help = []
options_of Schema = []
options_of Explain = Firings ∷ Search ∷ []
options_of Run = Firings ∷ Search ∷ Workers ∷ Calls ∷ []
options_of Batch = Firings ∷ Search ∷ Workers ∷ Calls ∷ []
options_of Exec = Workers ∷ Calls ∷ []
options_of Check = Firings ∷ []
options_of Verify = []
options_of Crawl = Workers ∷ Calls ∷ []
options_of Reach = Workers ∷ Calls ∷ []
options_of World = Workers ∷ []

-- the option is one of these
abbrev pub is_among : OptionName → List OptionName → Bool
is_among option [] = false
is_among option (other ∷ others) = if same_option option other then true else is_among option others

-- a command takes the option
abbrev pub takes : CommandName → OptionName → Bool
takes name option = is_among option (options_of name)

-- the least number that an option takes
abbrev pub least : OptionName → ℕ
least Firings = 0
least Search = 0
least Workers = 1
least Calls = 0

-- the greatest number that an option takes
abbrev pub limit : OptionName → ℕ
limit Firings = 100000
limit Search = 1000000
limit Workers = 8
limit Calls = 1000000

-- an option takes the number
abbrev pub InRange : OptionName → ℕ → Type 0
InRange option n = (least option ≤ n) × (n ≤ limit option)

-- the number of an option that is not given
abbrev pub default_number : OptionName → ℕ
default_number Firings = 10000
default_number Search = 10000
default_number Workers = 1
default_number Calls = 100000

-- the flags: options without a number
abbrev pub flags : List FlagName
flags = flag.Verify ∷ []

-- the word that names a flag, behind two dashes
abbrev pub flag_word : FlagName → List ℕ
flag_word flag.Verify = codes "verify"

abbrev pub same_flag : FlagName → FlagName → Bool
same_flag flag.Verify flag.Verify = true

-- the flags that a command takes
abbrev pub takes_flag : CommandName → FlagName → Bool
takes_flag Run flag.Verify = true
takes_flag _ _ = false

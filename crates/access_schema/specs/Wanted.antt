-- The texts of terms that are collected: names of variables, or constants.
use Rattle.std.specs.Prelude.{ℕ, List, Option}
use Rattle.access_schema.specs.declared.part.NamedTerm.{NamedTerm}
use Rattle.access_schema.specs.declared.collect.Wanted.{Wanted}
use Rattle.access_schema.specs.declared.collect.Wanted.TheVariants.{Variables, Constants}
use Rattle.access_schema.specs.Content.{variable_of, constant_of}

-- the text of a term where it is wanted
abbrev pub text_of : Wanted → NamedTerm → Option (List ℕ)
text_of Variables term = variable_of term
text_of Constants term = constant_of term

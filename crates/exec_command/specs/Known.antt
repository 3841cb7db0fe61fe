-- What is known to a plan that is executed by itself, and the names of its columns.
use Rattle.std.specs.Prelude.{ℕ, ◌+◌, List, [], ◌∷◌, ◌++◌, flat_map, map, codes}
use Rattle.std.specs.List.{range_with_len}
use Rattle.std.specs.Fmt.{decimal}
use Rattle.meaning.specs.declared.types.Place.{Place}
use Rattle.meaning.specs.declared.types.Place.TheVariants.{Const, Col, New}
use Rattle.meaning.specs.declared.types.Out.{Out}
use Rattle.meaning.specs.declared.types.Out.TheVariants.{Const as Fixed, Col as Made}
use Rattle.meaning.specs.declared.types.Step.{Step}
use Rattle.meaning.specs.declared.types.Branch.{Branch}
use Rattle.meaning.specs.declared.types.Plan.{Plan}
use Rattle.access_schema.specs.declared.schema.Schema.{Schema}

-- The constant of a place, if it is one.
abbrev pub constant_in : Place → List (List ℕ)
constant_in (Const text) = text ∷ []
constant_in (Col k) = []
constant_in New = []

-- The constant of a place of an output, if it is one.
abbrev pub constant_out : Out → List (List ℕ)
constant_out (Fixed text) = text ∷ []
constant_out (Made k) = []

-- The constants of a step.
abbrev pub constants_of_step : Step → List (List ℕ)
constants_of_step step = flat_map constant_in step.places

-- The constants of a branch: those of its steps, and then those of its output.
abbrev pub constants_of_branch : Branch → List (List ℕ)
constants_of_branch branch = flat_map constants_of_step branch.steps ++ flat_map constant_out branch.output

-- The constants of a plan, in the order of its text.
abbrev pub constants_of_plan : Plan → List (List ℕ)
constants_of_plan plan = flat_map constants_of_branch plan.branches

-- The known constants are those of the schema and those of the plan itself.
abbrev pub known_to : Schema → Plan → List (List ℕ)
known_to schema plan = schema.constants ++ constants_of_plan plan

-- The name of the column with this number, which counts from 0.
abbrev pub column_name : ℕ → List ℕ
column_name k = codes "column" ++ decimal (k + 1)

-- The columns of a plan's rows are named column1, column2 and so on.
abbrev pub column_names : ℕ → List (List ℕ)
column_names width = map column_name (range_with_len 0 width)

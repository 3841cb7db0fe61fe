-- A plan for the statement of a world: it reads the first relation, and follows each value through the others.
use Rattle.std.specs.Prelude.{ℕ, ◌-◌, [], ◌∷◌, map}
use Rattle.std.specs.List.{range_with_len}
use Rattle.meaning.specs.declared.types.SchemaParts.{SchemaParts}
use Rattle.meaning.specs.declared.types.Step.{Step}
use Rattle.meaning.specs.declared.types.Branch.{Branch}
use Rattle.meaning.specs.declared.types.Plan.{Plan}
use Rattle.meaning.specs.declared.types.Place.TheVariants.{Col, New}
use Rattle.meaning.specs.declared.types.Out.TheVariants.{Col as Made}
use Rattle.world_laws.specs.World.{method_name, world_relations, world_methods, world_rules}

-- what plans, answers and runs read of the schema of a world
abbrev pub world : SchemaParts
world = record { relations = world_relations; methods = world_methods; rules = world_rules; constants = [] }

-- the access of the first relation, which makes two columns
abbrev pub first_step : Step
first_step = record { method = method_name 1; places = New ∷ New ∷ [] }

-- the access of another relation at the last column so far, which makes one more
abbrev pub next_step : ℕ → Step
next_step k = record { method = method_name k; places = Col (k - 1) ∷ New ∷ [] }

abbrev pub world_branch : Branch
world_branch = record { steps = first_step ∷ map next_step (range_with_len 2 7); output = Made 0 ∷ Made 8 ∷ [] }

abbrev pub world_plan : Plan
world_plan = record { width = 2; branches = world_branch ∷ [] }

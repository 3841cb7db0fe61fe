-- A plan that was read has few columns.
use Rattle.std.proofs.Common.{◌≤◌, ℕ, List, Bool, true, false, length, drop, Option, arith, if◌then◌else◌}
use Rattle.std.proofs.lemmas.List.{length-drop}
use Rattle.meaning.specs.declared.types.Plan.{Plan}
use Rattle.plan_form.proofs.Sizes.{few_places}
use Rattle.plan_check.specs.Forms.{HasFewColumns}
use Rattle.plan_check.proofs.Sizes.{few_columns}
use Rattle.command_io.specs.Inputs.{Contents, has_mark, without_mark, PlanIsRead}

behind_mark : (t : Bool) (bytes : List ℕ) → length (if t then drop 3 bytes else bytes) ≤ length bytes
behind_mark true bytes = let short = length-drop 3 bytes in omega arith
behind_mark false bytes = omega arith

pub read_columns : (told : Option Contents) (name : List ℕ) (plan : Plan) → PlanIsRead told name plan → HasFewColumns plan
read_columns told name plan read =
    let places = few_places (without_mark read.bytes) plan read.holds.1 in
    let mark = behind_mark (has_mark read.bytes) read.bytes in
    let within = read.within in
    few_columns plan (omega arith)

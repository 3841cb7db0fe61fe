-- How a plan is printed, and how the fault of a plan that is not lawful is.
use Rattle.std.specs.Prelude.{◌++◌, ◌+◌, ℕ, List, [], flat_map, codes}
use Rattle.std.specs.Fmt.{decimal}
use Rattle.pq_text.specs.Printing.{printed_name, printed_value}
use Rattle.pq_text.specs.Listed.{listed}
use Rattle.meaning.specs.declared.types.Place.{Place}
use Rattle.meaning.specs.declared.types.Place.TheVariants.{Const, Col, New}
use Rattle.meaning.specs.declared.types.Out.{Out}
use Rattle.meaning.specs.declared.types.Out.TheVariants.{Const as Fixed, Col as Made}
use Rattle.meaning.specs.declared.types.Step.{Step}
use Rattle.meaning.specs.declared.types.Branch.{Branch}
use Rattle.meaning.specs.declared.types.Plan.{Plan}
use Rattle.plan_form.specs.declared.fault.PlanFaultKind.{PlanFaultKind}
use Rattle.plan_form.specs.declared.fault.PlanFaultKind.TheVariants.{NoSuchMethod, InputNotKnown, UnknownConstant, BadColumn, WrongArity, WrongWidth}
use Rattle.plan_form.specs.declared.fault.PlanFault.{PlanFault}

-- ---- plans

-- a dollar sign and the number of a column
abbrev pub column_text : ℕ → List ℕ
column_text column = codes "$" ++ decimal column

-- a place is a constant in quotes, a column, or the word `new`
abbrev pub place_text : Place → List ℕ
place_text (Const text) = printed_value text
place_text (Col column) = column_text column
place_text New = codes "new"

-- an output place is a constant in quotes or a column
abbrev pub out_text : Out → List ℕ
out_text (Fixed text) = printed_value text
out_text (Made column) = column_text column

-- the access line of a step
abbrev pub step_text : Step → List ℕ
step_text step = codes "access " ++ printed_name step.method ++ codes "(" ++ listed place_text step.places ++ codes ")\n"

-- the line `branch`, the access lines and the output line of a branch
abbrev pub branch_text : Branch → List ℕ
branch_text branch =
    codes "branch\n" ++ flat_map step_text branch.steps ++ codes "output " ++ listed out_text branch.output ++ codes "\n"

-- the text of a plan: its width, its branches, and the line `end`
abbrev pub plan_text : Plan → List ℕ
plan_text plan = codes "plan " ++ decimal plan.width ++ codes "\n" ++ flat_map branch_text plan.branches ++ codes "end\n"

-- ---- faults

-- what is wrong, in words
abbrev pub kind_text : PlanFaultKind → List ℕ
kind_text NoSuchMethod = codes "no such method"
kind_text InputNotKnown = codes "input not known"
kind_text UnknownConstant = codes "unknown constant"
kind_text BadColumn = codes "bad column"
kind_text WrongArity = codes "wrong arity"
kind_text WrongWidth = codes "wrong width"

-- the number of a branch and of a step, counted from 1
abbrev pub step_number_text : PlanFault → List ℕ
step_number_text fault = codes " branch " ++ decimal (fault.branch + 1) ++ codes " step " ++ decimal (fault.step + 1)

-- the number of a place, counted from 1
abbrev pub place_number_text : PlanFault → List ℕ
place_number_text fault = codes " place " ++ decimal (fault.place + 1)

-- where the fault stands: no method and a wrong arity stand at a step, and a wrong width nowhere
abbrev pub where_text : PlanFaultKind → PlanFault → List ℕ
where_text WrongWidth fault = []
where_text NoSuchMethod fault = step_number_text fault ++ codes ":"
where_text WrongArity fault = step_number_text fault ++ codes ":"
where_text InputNotKnown fault = step_number_text fault ++ place_number_text fault ++ codes ":"
where_text UnknownConstant fault = step_number_text fault ++ place_number_text fault ++ codes ":"
where_text BadColumn fault = step_number_text fault ++ place_number_text fault ++ codes ":"

-- the line of a plan that is not lawful
abbrev pub illegal_text : PlanFault → List ℕ
illegal_text fault = codes "illegal:" ++ where_text fault.kind fault ++ codes " " ++ kind_text fault.kind ++ codes "\n"

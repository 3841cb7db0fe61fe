use Rattle.std.proofs.Common.{take}
use Rattle.std.specs.List.{AllZip}
use Rattle.sql_conjunctive.specs.Queries.{IsSelectForm}
use Rattle.sql_conjunctive.proofs.selects.select_forms.Given as goal

-- the forms of the selects so far
abbrev pub invariant-loop-select : goal.invariant-loop-select
invariant-loop-select l = AllZip (IsSelectForm l.schema) (take l.select-index l.selects) l.forms.items

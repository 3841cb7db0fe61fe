use Rattle.std.proofs.Common.{◌∙◌, List, sym, subst}
use Rattle.std.specs.List.{AllByRecursion, AllZip}
use Rattle.lists.proofs.Members.{all_from}
use Rattle.meaning.specs.declared.types.Relation.{Relation}
use Rattle.meaning.specs.declared.types.Select.{Select}
use Rattle.sql_select.specs.declared.piece.RawSelect.{RawSelect}
use Rattle.sql_select.specs.Limits.{IsWithinLimits}
use Rattle.sql_select.specs.Statements.{Means}
use Rattle.sql_select.proofs.Sorted.{all_conditions, sorted_text, sort_is_sql}
use Rattle.sql_select.proofs.statement.read_text.Goals as goal

pub resolve_selects-requires-clause-within : goal.resolve_selects-requires-clause-within
resolve_selects-requires-clause-within c =
    subst (λ (raws : List RawSelect). AllByRecursion IsWithinLimits raws) (sym c.as_slice-parts.ensures) (all_from IsWithinLimits c.in_ok-raws.raws c.in_ok-raws.ensures.within.each)

pub sorted_statement-requires : goal.sorted_statement-requires
sorted_statement-requires c =
    all_conditions c.args.schema.now c.args.text.now c.as_slice-parts.result.now c.in-Ok.selects
    (rw c.as_slice.ensures at c.in-Ok.ensures.means)

pub returns-in-Ok-clause-read : goal.returns-in-Ok-clause-read
returns-in-Ok-clause-read c =
    sorted_text c.args.schema.now c.args.text.now c.in_ok-raws.raws c.in-Ok.selects c.in_ok-raws.ensures.written
    c.in_ok-raws.ensures.within c.in_ok-raws.ensures.wide (rw (c.as_slice.ensures, c.as_slice-parts.ensures) at c.in-Ok.ensures.means)
    c.sorted_statement.result c.sorted_statement.ensures.same c.sorted_statement.ensures.sorted

pub returns-in-Ok-clause-fault : goal.returns-in-Ok-clause-fault
returns-in-Ok-clause-fault c =
    sort_is_sql c.args.schema.now c.args.text.now c.in_ok-raws.raws c.in-Ok.selects c.in_ok-raws.ensures.written
    c.in_ok-raws.ensures.within c.in_ok-raws.ensures.wide (rw (c.as_slice.ensures, c.as_slice-parts.ensures) at c.in-Ok.ensures.means)
    c.sorted_statement.result (rw c.as_slice-parts.ensures at c.sorted_statement.ensures.fault)

use Rattle.meaning.specs.Sorts.{AtomsAreSorted}
use Rattle.access_schema.specs.Meaning.{meaning_of}
use Rattle.sql_select.proofs.Sorted.{denied}
use Rattle.plan_check.proofs.forms.branch_form.Goals as goal

pub returns-then-are_sorted : goal.returns-then-are_sorted
returns-then-are_sorted c =
    let sorted : AtomsAreSorted (meaning_of c.args.schema.now) c.in_ok-query.query.atoms =
    rw c.as_slice.ensures at (c.are_sorted.ensures.0 c.if-are_sorted.true) in
    (c.in_ok-query.ensures, sorted)

pub returns : goal.returns
returns c =
    let unsorted : AtomsAreSorted (meaning_of c.args.schema.now) c.in_ok-query.query.atoms → ⊥ =
    rw c.as_slice.ensures at (denied _ c.are_sorted.ensures c.if-are_sorted.false) in
    (c.in_ok-query.query, c.in_ok-query.ensures, unsorted)

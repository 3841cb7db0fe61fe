use Rattle.std.proofs.Common.{◌+◌, ◌++◌, ◌∷◌, [], take, sym, subst}
use Rattle.std.specs.List.{AllZip}
use Rattle.std.proofs.lemmas.Slice.Zip.{all_zipped_more}
use Rattle.lists.proofs.Places.{take_indexed}
use Rattle.sql_conjunctive.specs.Queries.{IsSelectForm}
use Rattle.sql_conjunctive.proofs.selects.select_forms.Goals as goal

pub loop-select-preserved : goal.loop-select-preserved
loop-select-preserved c =
    let P = IsSelectForm c.args.schema.now in
    let selects = c.as_slice-selects.result.now in
    let n = c.loop-select.select-index in
    let before = c.loop-select.forms.items in
    let select = c.select-item.result in
    let form = c.in_ok-select_form.field-0 in
    subst (AllZip P (take (n + 1) selects)) (sym c.in_ok-push.ensures.items)
    (subst (λ list. AllZip P list (before ++ form ∷ [])) (sym (take_indexed selects n select c.loop-select-test.true c.select-item.is))
    (all_zipped_more P (take n selects) before select form c.loop-select.invariant c.in_ok-select_form.ensures))

use Rattle.std.proofs.Common.{◌≡◌, ◌∙◌, Some, sym, inr, length, rules}
use Rattle.std.proofs.lemmas.Result.{IfOk-weaker}
use Rattle.source_trait.specs.Index.{index_in}
use Rattle.source_trait.proofs.Indexing.{all_agree, index_found}
use Rattle.source_trait.proofs.holding.indexed.Goals as goal

pub returns-then-is_empty-clause-found : goal.returns-then-is_empty-clause-found
returns-then-is_empty-clause-found c =
    let none : length c.args.positions.now ≡ 0 = search rules in
    IfOk-weaker c.copy.result _ _ (λ found is. is ∙ all_agree c.args.positions.now c.args.values.now c.args.rows.now none) c.copy.ensures

pub rows_with-requires : goal.rows_with-requires
rows_with-requires c =
    let at : index_in c.args.indexes.now.items c.args.rel c.args.positions.now ≡ Some c.in-Some.index.now = rw (← c.deref.ensures.value) (sym c.in-Some.ensures) in
    (index_found c.args.indexes.now.items c.args.rel c.args.rows.now c.args.positions.now c.in-Some.index.now c.requires at).0

pub returns-in-Some-clause-found : goal.returns-in-Some-clause-found
returns-in-Some-clause-found c =
    let at : index_in c.args.indexes.now.items c.args.rel c.args.positions.now ≡ Some c.in-Some.index.now = rw (← c.deref.ensures.value) (sym c.in-Some.ensures) in
    let on = (index_found c.args.indexes.now.items c.args.rel c.args.rows.now c.args.positions.now c.in-Some.index.now c.requires at).1 in
    rw (← on) c.rows_with.ensures

pub returns-clause-made : goal.returns-clause-made
returns-clause-made c = inr (c.in_ok-index.index, c.in_ok-push.ensures.items, c.in_ok-index.ensures.rel, c.in_ok-index.ensures.indexes)

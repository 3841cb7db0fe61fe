use Rattle.std.proofs.Common.{◌++◌, ◌∷◌, [], ◌∙◌, sym, ap, arith}
use Rattle.std.proofs.lemmas.List.FromFn.{map-range_with_len_more}
use Rattle.source_trait.specs.Asking.{RowList}
use Rattle.world_source.specs.Formulas.{row_of}
use Rattle.world_source.proofs.formula.Formula.rows.Goals as goal

pub loop-number-preserved : goal.loop-number-preserved
loop-number-preserved c =
    let f = row_of c.args.self.step c.args.self.count in
    c.in_ok-rows.ensures
    ∙ ap (λ (l : RowList). l ++ f c.loop-number.number ∷ []) c.loop-number.invariant
    ∙ sym (map-range_with_len_more f 0 c.loop-number.number c.loop-number.number (omega arith))

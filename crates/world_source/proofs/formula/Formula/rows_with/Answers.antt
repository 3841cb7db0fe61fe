use Rattle.std.proofs.Common.{◌∙◌, sym, length}
use Rattle.std.proofs.lemmas.Bool.{eqb-true}
use Rattle.std.proofs.lemmas.Result.{IfOk-weaker}
use Rattle.source_trait.proofs.Indexing.{all_agree}
use Rattle.world_source.specs.Formulas.{rows_of}
use Rattle.world_source.proofs.formula.Formula.rows_with.Goals as goal

pub returns-then-is_empty : goal.returns-then-is_empty
returns-then-is_empty c =
    let all = all_agree c.args.positions.now c.args.values.now (rows_of c.args.self.step c.args.self.count) (eqb-true (length c.args.positions.now) 0 (sym c.is_empty.ensures ∙ c.if-is_empty.true)) in
    IfOk-weaker c.rows.result _ _ (λ rows is. is ∙ all) c.rows.ensures

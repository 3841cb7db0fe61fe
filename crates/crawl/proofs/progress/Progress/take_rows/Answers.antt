use Rattle.std.proofs.Common.{◌≡◌, ◌<◌, ◌∙◌, [], length, take, Some, sym, ap, subst, arith}
use Rattle.std.specs.Prelude.{slice_get, Contains}
use Rattle.std.proofs.lemmas.List.{take_all}
use Rattle.std.proofs.lemmas.Option.{slice_get-get_or}
use Rattle.lists.proofs.Places.{take_got}
use Rattle.meaning.specs.Values.{Row}
use Rattle.source_trait.specs.Asking.{RowList}
use Rattle.crawl.specs.declared.known.KnownValues.{KnownValues}
use Rattle.crawl.specs.Progress.{Gains, StandsIn, IsRowOf}
use Rattle.crawl.proofs.Gaining.{rows_none, rows_more}
use Rattle.crawl.proofs.progress.Progress.take_rows.Goals as goal

pub loop-number-init : goal.loop-number-init
loop-number-init c = rows_none c.args.request.now.rel c.args.self.now

pub take_row-requires : goal.take_row-requires
take_row-requires c = λ v known.
    subst (λ (k : KnownValues). Contains k.all.keys v) (sym c.loop-number.invariant.known) (c.requires v known)

pub loop-number-preserved : goal.loop-number-preserved
loop-number-preserved c =
    let less : c.loop-number.number < length c.args.rows.now = omega arith in
    let at : slice_get c.args.rows.now c.loop-number.number ≡ Some c.at.result = slice_get-get_or c.args.rows.now c.loop-number.number [] less ∙ ap (λ (r : Row). Some r) (sym c.at.ensures) in
    subst (λ (l : RowList). Gains (StandsIn l) (IsRowOf c.args.request.now.rel l) c.args.self.now c.take_row.new.self) (sym (take_got c.args.rows.now c.loop-number.number c.at.result at))
    (rows_more c.args.request.now.rel (take c.loop-number.number c.args.rows.now) c.at.result c.args.self.now c.loop-number.self c.take_row.new.self c.loop-number.invariant c.in_ok-take_row.ensures)

pub returns : goal.returns
returns c =
    subst (λ (l : RowList). Gains (StandsIn l) (IsRowOf c.args.request.now.rel l) c.args.self.now c.loop-number.self) (take_all c.loop-number.number c.args.rows.now (omega arith)) c.loop-number.invariant

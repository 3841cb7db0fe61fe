use Rattle.std.proofs.Common.{◌∙◌, ◌++◌, ◌∷◌, [], List, take, sym, ap, subst}
use Rattle.std.specs.Prelude.{Contains}
use Rattle.lists.proofs.Places.{take_got}
use Rattle.meaning.specs.Values.{Value}
use Rattle.crawl.specs.Finding.{Finds}
use Rattle.crawl.proofs.Finding.{finds_none, finds_more}
use Rattle.crawl.proofs.found.FoundValues.take_row.Goals as goal

pub loop-column-init : goal.loop-column-init
loop-column-init c = record {
  finds = finds_none c.args.shared.now c.args.self.now.list.items;
  copy = c.in_ok-copy.ensures.items;
}

pub loop-column-preserved : goal.loop-column-preserved
loop-column-preserved c =
    let k = c.loop-column.column in
    let more = take_got c.args.row.now k c.value_at.result.now c.value_at.ensures in
    let old = c.args.self.now.list.items in
    let new = c.take_text.new.self.list.items in
    record {
      finds = subst (λ (l : List Value). Finds c.args.shared.now (Contains l) old new) (sym more)
          (finds_more c.args.shared.now (take k c.args.row.now) c.value_at.result.now old
          c.loop-column.self.list.items new c.loop-column.invariant.finds c.in_ok-take_text.ensures.finds);
      copy = c.in_ok-push.ensures.items
          ∙ ap (λ (l : List Value). l ++ c.in_ok-take_text.field-0 ∷ []) c.loop-column.invariant.copy
          ∙ ap (λ (v : Value). take k c.args.row.now ++ v ∷ []) c.in_ok-take_text.ensures.text ∙ sym more;
    }

use Rattle.std.proofs.Common.{◌++◌, ◌∷◌, [], ◌∙◌, ap, sym, List, ℕ, ◌-◌, take, drop, arith}
use Rattle.csv.specs.Records.{fields_of}
use Rattle.row_text.proofs.Packing.{part_more}
use Rattle.row_text.proofs.lent.copy_values.Goals as goal

pub loop-place-preserved : goal.loop-place-preserved
loop-place-preserved c = record {
  started = omega (arith, c.loop-place.invariant.started);
  copied = c.in_ok-push.ensures.items
      ∙ ap (λ (l : List (List ℕ)). l ++ c.in_ok-from_str.field-0 ∷ []) c.loop-place.invariant.copied
      ∙ ap (λ (v : List ℕ). take (c.loop-place.place - c.args.start) (drop c.args.start (fields_of c.args.values.now)) ++ v ∷ []) (c.in_ok-from_str.ensures ∙ c.text_at.ensures)
      ∙ sym (part_more (fields_of c.args.values.now) c.args.start c.loop-place.place c.args.end c.loop-place.invariant.started c.loop-place-test.true c.requires.within);
}

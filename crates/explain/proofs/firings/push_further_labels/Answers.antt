use Rattle.std.specs.Prelude.{◌++◌, ◌+◌, ℕ, List, flat_map, codes, map}
use Rattle.std.specs.List.{range_with_len}
use Rattle.lists.proofs.Members.{joined_twice}
use Rattle.meaning.specs.declared.types.Val.{Val}
use Rattle.meaning.specs.declared.types.Val.TheVariants.{Label}
use Rattle.explain.specs.Printing.{val_text}
use Rattle.fact_lines.proofs.Joining.{grown}
use Rattle.explain.proofs.Joining.{range_more}
use Rattle.explain.proofs.firings.push_further_labels.Goals as goal

pub loop-place-preserved : goal.loop-place-preserved
loop-place-preserved c =
    let label : ℕ → Val = λ k. Label k in
    let item : Val → List ℕ = λ y. codes ", " ++ val_text y in
    record {
      text = grown c.args.out.now.items c.loop-place.out.items c.push_label.new.out.items (flat_map item (map label (range_with_len c.args.from c.loop-place.place))) (item (label (c.args.from + c.loop-place.place))) _
          c.loop-place.invariant.text
          (joined_twice c.loop-place.out.items c.push_str.new.out.items c.push_label.new.out.items (codes ", ") (val_text (label (c.args.from + c.loop-place.place))) c.in_ok-push_str.ensures.text c.in_ok-push_label.ensures.text)
          (range_more item label c.args.from c.loop-place.place);
      utf8 = λ utf8. c.in_ok-push_label.ensures.utf8 (c.in_ok-push_str.ensures.utf8 (c.loop-place.invariant.utf8 utf8));
    }

use Rattle.std.proofs.Common.{refl, arith}
use Rattle.std.specs.Prelude.{codes}
use Rattle.std.proofs.lemmas.Grind.{common_steps}
use Rattle.pq_text.proofs.PrintedTexts.{ascii_then}
use Rattle.pq_text.proofs.listed.print_further.Goals as goal

pub loop-item-preserved : goal.loop-item-preserved
loop-item-preserved g c = record {
  text = grind (arith, common_steps);
  utf8 = λ utf8. c.in_ok-print.ensures.utf8
      (ascii_then c.loop-item.out.items c.extend_from_slice.new.self.items (codes ", ") c.in_ok-extend_from_slice.ensures.items refl (c.loop-item.invariant.utf8 utf8));
}

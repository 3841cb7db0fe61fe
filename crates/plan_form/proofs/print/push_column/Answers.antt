use Rattle.std.proofs.Common.{refl, arith}
use Rattle.std.specs.Prelude.{codes}
use Rattle.std.proofs.lemmas.Result.{on_ok_weaker}
use Rattle.pq_text.proofs.PrintedTexts.{ascii_then, number_then}
use Rattle.plan_form.proofs.print.push_column.Goals as goal

pub returns-clause-utf8 : goal.returns-clause-utf8
returns-clause-utf8 c =
    on_ok_weaker c.print_number.result
    (λ written utf8. number_then c.extend_from_slice.new.self.items c.print_number.new.out.items c.args.column written (let r = c.ranges.column in omega arith)
    (ascii_then c.args.out.now.items c.extend_from_slice.new.self.items (codes "$") c.in_ok-extend_from_slice.ensures.items refl utf8))
    c.print_number.ensures

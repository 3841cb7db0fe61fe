use Rattle.std.proofs.Common.{refl, arith}
use Rattle.std.specs.Prelude.{codes}
use Rattle.pq_text.proofs.PrintedTexts.{ascii_then, number_then}
use Rattle.plan_form.proofs.print.push_plan.Goals as goal

pub returns-clause-utf8 : goal.returns-clause-utf8
returns-clause-utf8 c = λ utf8.
    let begun = ascii_then c.args.out.now.items c.extend_from_slice.new.self.items (codes "plan ") c.in_ok-extend_from_slice.ensures.items refl utf8 in
    let numbered = number_then c.extend_from_slice.new.self.items c.print_number.new.out.items c.args.plan.now.width c.in_ok-print_number.ensures (omega arith) begun in
    let opened = ascii_then c.print_number.new.out.items c.extend_from_slice-2.new.self.items (codes "\n") c.in_ok-extend_from_slice-2.ensures.items refl numbered in
    let branched = c.in_ok-push_branches.ensures.utf8 opened in
    ascii_then c.push_branches.new.out.items c.extend_from_slice-3.new.self.items (codes "end\n") c.in_ok-extend_from_slice-3.ensures.items refl branched

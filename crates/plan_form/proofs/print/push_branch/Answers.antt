use Rattle.std.proofs.Common.{refl}
use Rattle.std.specs.Prelude.{codes}
use Rattle.pq_text.proofs.PrintedTexts.{ascii_then}
use Rattle.plan_form.proofs.print.push_branch.Goals as goal

pub returns-clause-utf8 : goal.returns-clause-utf8
returns-clause-utf8 c = λ utf8.
    let begun = ascii_then c.args.out.now.items c.extend_from_slice.new.self.items (codes "branch\n") c.in_ok-extend_from_slice.ensures.items refl utf8 in
    let stepped = c.in_ok-push_steps.ensures.utf8 begun in
    let opened = ascii_then c.push_steps.new.out.items c.extend_from_slice-2.new.self.items (codes "output ") c.in_ok-extend_from_slice-2.ensures.items refl stepped in
    let placed = c.in_ok-print_listed.ensures.utf8 opened in
    ascii_then c.print_listed.new.out.items c.extend_from_slice-3.new.self.items (codes "\n") c.in_ok-extend_from_slice-3.ensures.items refl placed

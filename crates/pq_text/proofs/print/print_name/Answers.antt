use Rattle.std.proofs.lemmas.Result.{on_ok_weaker}
use Rattle.pq_text.specs.Printing.{printed_name}
use Rattle.pq_text.proofs.PrintedTexts.{name_utf8, appended_utf8}
use Rattle.pq_text.proofs.print.print_name.Goals as goal

pub returns-clause-utf8 : goal.returns-clause-utf8
returns-clause-utf8 c =
    on_ok_weaker c.push_name.result
    (λ written. appended_utf8 c.args.out.now.items c.push_name.new.out.items (printed_name c.as_str.result.now) written (name_utf8 c.as_str.result.now c.as_str.utf8))
    c.push_name.ensures

use Rattle.std.proofs.lemmas.Result.{on_ok_weaker}
use Rattle.pq_text.specs.Utf8.{KeepsUtf8}
use Rattle.explain.proofs.verdict.push_separation.Goals as goal

pub returns-clause-utf8 : goal.returns-clause-utf8
returns-clause-utf8 c =
    on_ok_weaker c.push_str-3.result (λ (written : KeepsUtf8 c.push_facts.new.out.items c.push_str-3.new.out.items) utf8. written (c.in_ok-push_facts.ensures.utf8 (c.in_ok-push_str-2.ensures.utf8 (c.in_ok-print_values.ensures.utf8 (c.in_ok-push_str.ensures.utf8 (utf8)))))) c.push_str-3.ensures.utf8

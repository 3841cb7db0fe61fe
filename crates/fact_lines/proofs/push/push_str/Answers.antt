use Rattle.std.proofs.Common.{ℕ, List, ◌++◌, ap, ◌∙◌}
use Rattle.pq_text.proofs.PrintedTexts.{appended_utf8}
use Rattle.fact_lines.proofs.push.push_str.Goals as goal

pub returns-clause-utf8 : goal.returns-clause-utf8
returns-clause-utf8 c =
    appended_utf8 c.args.out.now.items c.extend_from_slice.new.self.items c.args.text.now
    (c.in_ok-extend_from_slice.ensures.items ∙ ap (λ (more : List ℕ). c.args.out.now.items ++ more) c.as_bytes.ensures.value) c.utf8.text

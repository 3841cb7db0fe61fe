use Rattle.std.proofs.Common.{sym, subst}
use Rattle.std.specs.Str.{IsUtf8}
use Rattle.pq_text.proofs.PrintedTexts.{appended_utf8}
use Rattle.explain.proofs.chosen.push_plan.Goals as goal

pub returns-clause-utf8 : goal.returns-clause-utf8
returns-clause-utf8 c =
    appended_utf8 c.args.out.now.items c.extend_from_slice.new.self.items c.as_slice.result.now c.in_ok-extend_from_slice.ensures.items (subst IsUtf8 (sym c.as_slice.ensures) c.in_ok-text.ensures.utf8)

use Rattle.std.proofs.Common.{sym, subst}
use Rattle.std.specs.Str.{IsUtf8}
use Rattle.std.proofs.lemmas.Str.{IsUtf8-nil}
use Rattle.fact_lines.proofs.lines.facts_text.Goals as goal

pub returns-then-branch-clause-utf8 : goal.returns-then-branch-clause-utf8
returns-then-branch-clause-utf8 c = subst IsUtf8 (sym c.from_vec.ensures) (c.in_ok-push_ascending.ensures.utf8 (subst IsUtf8 (sym c.new-out.ensures.items) IsUtf8-nil))

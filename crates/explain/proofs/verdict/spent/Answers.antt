use Rattle.std.proofs.Common.{sym, subst}
use Rattle.std.specs.Str.{IsUtf8}
use Rattle.std.proofs.lemmas.Str.{IsUtf8-nil}
use Rattle.explain.proofs.verdict.spent.Goals as goal

pub returns-clause-utf8 : goal.returns-clause-utf8
returns-clause-utf8 c =
    let opened = c.in_ok-push_count.ensures.utf8 (subst IsUtf8 (sym c.new-out.ensures.items) IsUtf8-nil) in
    subst IsUtf8 (sym c.from_vec.ensures) (c.in_ok-push_str.ensures.utf8 (c.in_ok-push_triggers.ensures.utf8 (c.in_ok-push_side.ensures.utf8 opened)))

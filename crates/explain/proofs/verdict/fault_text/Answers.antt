use Rattle.std.proofs.Common.{sym, subst, arith}
use Rattle.std.specs.Str.{IsUtf8}
use Rattle.explain.proofs.Illegal.{illegal_utf8}
use Rattle.explain.proofs.verdict.fault_text.Goals as goal

pub returns-clause-utf8 : goal.returns-clause-utf8
returns-clause-utf8 c = subst IsUtf8 (sym c.in_ok-text.ensures) (illegal_utf8 c.args.fault (omega arith) (omega arith) (omega arith))

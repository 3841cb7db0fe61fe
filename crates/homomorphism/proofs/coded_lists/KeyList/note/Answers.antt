use Rattle.std.proofs.Common.{refl, sym, ◌∙◌}
use Rattle.homomorphism.proofs.Coded.{own_not, own_noted, own_apart}
use Rattle.homomorphism.proofs.coded_lists.KeyList.note.Goals as goal

pub returns-then-not-is_of-clause-taken : goal.returns-then-not-is_of-clause-taken
returns-then-not-is_of-clause-taken c = λ e. (
  own_not c.args.key.now c.args.self.now (sym c.is_of.ensures ∙ c.if-not-is_of.true),
  own_not c.args.key.now c.args.self.now (sym c.is_of.ensures ∙ c.if-not-is_of.true),
)

pub returns-clause-noted : goal.returns-clause-noted
returns-clause-noted c = λ e. own_noted c.args.key.now c.args.number c.args.self.now (record { key = c.args.self.now.key; numbers = c.push.new.self }) c.is_of.result c.is_of.ensures refl c.if-not-is_of.false c.in_ok-push.ensures.ok

pub returns-clause-apart : goal.returns-clause-apart
returns-clause-apart c = λ other differ. own_apart c.args.key.now other c.args.self.now (record { key = c.args.self.now.key; numbers = c.push.new.self }) refl (sym c.is_of.ensures ∙ c.if-not-is_of.false) differ

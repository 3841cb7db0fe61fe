use Rattle.std.proofs.Common.{refl, sym, ◌∙◌}
use Rattle.homomorphism.proofs.Coded.{own_not, own_struck, own_absent, own_apart, empty_ends}
use Rattle.homomorphism.proofs.coded_lists.KeyList.strike.Goals as goal

pub returns-then-is_of-clause-there : goal.returns-then-is_of-clause-there
returns-then-is_of-clause-there c = own_struck c.args.key.now c.args.number c.args.self.now (record { key = c.args.self.now.key; numbers = c.drop_last_if.new.self }) c.is_of.result c.is_of.ensures refl c.if-is_of.true c.drop_last_if.ensures.there

pub returns-then-is_of-clause-not_there : goal.returns-then-is_of-clause-not_there
returns-then-is_of-clause-not_there c = own_absent c.args.key.now c.args.number c.args.self.now (record { key = c.args.self.now.key; numbers = c.drop_last_if.new.self }) c.is_of.result c.is_of.ensures refl c.if-is_of.true c.drop_last_if.ensures.not_there

pub returns-then-is_of-clause-apart : goal.returns-then-is_of-clause-apart
returns-then-is_of-clause-apart c = λ other differ. own_apart c.args.key.now other c.args.self.now (record { key = c.args.self.now.key; numbers = c.drop_last_if.new.self }) refl (sym c.is_of.ensures ∙ c.if-is_of.true) differ

pub returns-else-is_of-clause-there : goal.returns-else-is_of-clause-there
returns-else-is_of-clause-there c = λ before e. absurd (empty_ends before c.args.number (sym (own_not c.args.key.now c.args.self.now (sym c.is_of.ensures ∙ c.if-is_of.false)) ∙ e))

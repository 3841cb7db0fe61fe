use Rattle.std.proofs.Common.{sym, subst, arith, ◌∙◌}
use Rattle.homomorphism.proofs.Binding.{none_left}
use Rattle.homomorphism.proofs.Noting.{Striking, striking_start, striking_more, striking_skip, striking_end}
use Rattle.homomorphism.proofs.key_lists.KeyLists.strike_all.Goals as goal

pub loop-val-init : goal.loop-val-init
loop-val-init c = subst (λ vals. Striking c.args.positions.now c.args.fact vals c.args.number c.args.self.now c.strike_relation.new.self) (sym c.into_vec-vals.ensures)
    (striking_start c.args.positions.now c.args.fact c.args.number c.args.self.now c.args.self.now c.strike_relation.new.self c.strike_relation.ensures.there c.strike_relation.ensures.not_there c.strike_relation.ensures.others)

pub loop-val-preserved-then-has : goal.loop-val-preserved-then-has
loop-val-preserved-then-has c = striking_more c.args.positions.now c.args.fact c.args.number c.args.self.now c.loop-val.self c.loop-val.vals.items c.pop.new.self.items c.in-Some.val c.len-position.result c.in-Some.ensures.items (omega arith) c.loop-val.invariant
    c.strike_value.new.self c.strike_value.ensures.there c.strike_value.ensures.not_there c.strike_value.ensures.others

pub loop-val-preserved-then-has-2 : goal.loop-val-preserved-then-has-2
loop-val-preserved-then-has-2 c = striking_more c.args.positions.now c.args.fact c.args.number c.args.self.now c.loop-val.self c.loop-val.vals.items c.pop.new.self.items c.in-Some.val c.len-position.result c.in-Some.ensures.items (omega arith) c.loop-val.invariant
    c.strike_value.new.self c.strike_value.ensures.there c.strike_value.ensures.not_there c.strike_value.ensures.others

pub loop-val-preserved-else-has : goal.loop-val-preserved-else-has
loop-val-preserved-else-has c = striking_skip c.args.positions.now c.args.fact c.args.number c.args.self.now c.loop-val.self c.loop-val.vals.items c.pop.new.self.items c.in-Some.val c.len-position.result c.in-Some.ensures.items (omega arith) c.loop-val.invariant
    (sym c.has.ensures ∙ c.if-has.false)

pub loop-val-preserved : goal.loop-val-preserved
loop-val-preserved c = striking_skip c.args.positions.now c.args.fact c.args.number c.args.self.now c.loop-val.self c.loop-val.vals.items c.pop.new.self.items c.in-Some.val c.len-position.result c.in-Some.ensures.items (omega arith) c.loop-val.invariant
    (sym c.has.ensures ∙ c.if-has.false)

pub returns : goal.returns
returns c = striking_end c.args.positions.now c.args.fact c.args.number c.args.self.now c.loop-val.self c.loop-val.vals.items (none_left c.loop-val.vals.items (let e = c.in_default.ensures.cases in omega arith)) c.loop-val.invariant

use Rattle.std.proofs.Common.{sym, ◌∙◌, subst, rules, Contains}
use Rattle.homomorphism.proofs.Coded.{coded_before, coded_after, coded_apart, coded_none, empty_ends}
use Rattle.homomorphism.proofs.coded_lists.CodedLists.strike_coded.Goals as goal

pub returns-in-Some-clause-there : goal.returns-in-Some-clause-there
returns-in-Some-clause-there c = λ before e. coded_after c.args.key.now c.key_code.result c.args.self.now.coded (c.get_mut.follows.lender c.strike.new.self) c.in-Some.list.now c.strike.new.self c.key_code.ensures c.in-Some.ensures.value
    ((c.get_mut.follows.holds c.strike.new.self).3 (search rules)).1 ((c.get_mut.follows.holds c.strike.new.self).3 (search rules)).2
    ∙ c.strike.ensures.there before (sym (coded_before c.args.key.now c.key_code.result c.args.self.now.coded (c.get_mut.follows.lender c.strike.new.self) c.in-Some.list.now c.strike.new.self c.key_code.ensures c.in-Some.ensures.value
    ((c.get_mut.follows.holds c.strike.new.self).3 (search rules)).1 ((c.get_mut.follows.holds c.strike.new.self).3 (search rules)).2) ∙ e)

pub returns-in-Some-clause-not_there : goal.returns-in-Some-clause-not_there
returns-in-Some-clause-not_there c = λ none.
    let e = coded_before c.args.key.now c.key_code.result c.args.self.now.coded (c.get_mut.follows.lender c.strike.new.self) c.in-Some.list.now c.strike.new.self c.key_code.ensures c.in-Some.ensures.value
    ((c.get_mut.follows.holds c.strike.new.self).3 (search rules)).1 ((c.get_mut.follows.holds c.strike.new.self).3 (search rules)).2 in
    coded_after c.args.key.now c.key_code.result c.args.self.now.coded (c.get_mut.follows.lender c.strike.new.self) c.in-Some.list.now c.strike.new.self c.key_code.ensures c.in-Some.ensures.value
    ((c.get_mut.follows.holds c.strike.new.self).3 (search rules)).1 ((c.get_mut.follows.holds c.strike.new.self).3 (search rules)).2
    ∙ c.strike.ensures.not_there (λ among. none (subst (λ l. Contains l c.args.number) (sym e) among)) ∙ sym e

pub returns-in-Some-clause-apart : goal.returns-in-Some-clause-apart
returns-in-Some-clause-apart c = coded_apart c.args.key.now c.key_code.result c.args.self.now.coded (c.get_mut.follows.lender c.strike.new.self) c.in-Some.list.now c.strike.new.self c.key_code.ensures c.in-Some.ensures.value
    ((c.get_mut.follows.holds c.strike.new.self).3 (search rules)).1 ((c.get_mut.follows.holds c.strike.new.self).3 (search rules)).2
    c.strike.ensures.apart

pub returns-in-None-clause-there : goal.returns-in-None-clause-there
returns-in-None-clause-there c = λ before e. absurd (empty_ends before c.args.number (coded_none c.args.key.now c.key_code.result c.args.self.now.coded c.key_code.ensures c.in-None.ensures.value ∙ e))

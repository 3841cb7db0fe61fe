use Rattle.std.proofs.Common.{sym, subst, refl, rules, ◌∙◌, Contains}
use Rattle.homomorphism.proofs.Coded.{empty_ends, number_apart}
use Rattle.homomorphism.proofs.Relations.{listed_relation, found_relation, no_relation, at_relation, relation_apart}
use Rattle.homomorphism.proofs.key_lists.KeyLists.strike_relation.Goals as goal

pub returns-in-Some-clause-there : goal.returns-in-Some-clause-there
returns-in-Some-clause-there c = λ before e.
    listed_relation (record { relations = c.get_mut.follows.lender c.drop_last_if.new.self; values = c.args.self.now.values }) c.args.rel
    ∙ at_relation (c.get_mut.follows.lender c.drop_last_if.new.self) c.args.rel c.drop_last_if.new.self ((c.get_mut.follows.holds c.drop_last_if.new.self).3 (search rules)).1
    ∙ c.drop_last_if.ensures.there before (found_relation c.args.self.now.relations c.args.rel c.in-Some.numbers.now c.in-Some.ensures.value ∙ sym (listed_relation c.args.self.now c.args.rel) ∙ e)

pub returns-in-Some-clause-not_there : goal.returns-in-Some-clause-not_there
returns-in-Some-clause-not_there c = λ none.
    let was = found_relation c.args.self.now.relations c.args.rel c.in-Some.numbers.now c.in-Some.ensures.value ∙ sym (listed_relation c.args.self.now c.args.rel) in
    listed_relation (record { relations = c.get_mut.follows.lender c.drop_last_if.new.self; values = c.args.self.now.values }) c.args.rel
    ∙ at_relation (c.get_mut.follows.lender c.drop_last_if.new.self) c.args.rel c.drop_last_if.new.self ((c.get_mut.follows.holds c.drop_last_if.new.self).3 (search rules)).1
    ∙ c.drop_last_if.ensures.not_there (λ there. none (subst (λ l. Contains l c.args.number) was there)) ∙ was

pub returns-in-Some-clause-others : goal.returns-in-Some-clause-others
returns-in-Some-clause-others c =
    relation_apart c.args.self.now (record { relations = c.get_mut.follows.lender c.drop_last_if.new.self; values = c.args.self.now.values }) c.args.rel refl
    (λ other differ. ((c.get_mut.follows.holds c.drop_last_if.new.self).3 (search rules)).2 other (number_apart c.args.rel other (λ e. differ (sym e))))

pub returns-in-None-clause-there : goal.returns-in-None-clause-there
returns-in-None-clause-there c = λ before e. absurd (empty_ends before c.args.number (no_relation c.args.self.now.relations c.args.rel c.in-None.ensures.value ∙ sym (listed_relation c.args.self.now c.args.rel) ∙ e))

use Rattle.std.proofs.Common.{◌++◌, ◌∷◌, [], Some, ap, refl, sym, ◌∙◌, rules}
use Rattle.std.specs.Map.{lookup}
use Rattle.std.specs.Ordering.{nat_cmp}
use Rattle.std.specs.BTreeMap.{get, is_at}
use Rattle.std.proofs.lemmas.Map.Steps.{set_value_same}
use Rattle.homomorphism.proofs.Coded.{number_apart}
use Rattle.homomorphism.proofs.Refused.{on_err}
use Rattle.homomorphism.proofs.Relations.{listed_relation, at_relation, found_relation, no_relation, relation_apart, relations_same}
use Rattle.homomorphism.proofs.key_lists.KeyLists.note_relation.Goals as goal

pub returns-in_err-push-in-Some-clause-refused : goal.returns-in_err-push-in-Some-clause-refused
returns-in_err-push-in-Some-clause-refused c =
    let same = (c.get_mut.follows.holds c.push.new.self).0 ∙ set_value_same (is_at (nat_cmp c.args.rel)) c.args.self.now.relations.entries c.push.new.self (sym c.in-Some.ensures.value ∙ ap Some (sym c.in_err-push-in-Some.ensures.err)) in
    on_err c.from_residual.result _ (relations_same c.args.self.now (record { relations = c.get_mut.follows.lender c.push.new.self; values = c.args.self.now.values }) refl
    (λ other. ap (λ es. lookup (is_at (nat_cmp other)) es) same))

pub returns-in_err-insert-in-None-clause-refused : goal.returns-in_err-insert-in-None-clause-refused
returns-in_err-insert-in-None-clause-refused c =
    on_err c.from_residual-in_err-insert-in-None.result _ (relations_same c.args.self.now (record { relations = c.insert.new.self; values = c.args.self.now.values }) refl
    (λ other. ap (λ es. lookup (is_at (nat_cmp other)) es) (c.in_err-insert-in-None.ensures.err ∙ ap (λ m. m.entries) c.get_mut.follows.holds-at-none)))

pub returns-in_ok-push-in-Some-clause-here : goal.returns-in_ok-push-in-Some-clause-here
returns-in_ok-push-in-Some-clause-here c =
    listed_relation (record { relations = c.get_mut.follows.lender c.push.new.self; values = c.args.self.now.values }) c.args.rel
    ∙ at_relation (c.get_mut.follows.lender c.push.new.self) c.args.rel c.push.new.self ((c.get_mut.follows.holds c.push.new.self).3 (search rules)).1
    ∙ c.in_ok-push-in-Some.ensures.ok
    ∙ ap (λ l. l ++ c.args.number ∷ []) (found_relation c.args.self.now.relations c.args.rel c.in-Some.numbers.now c.in-Some.ensures.value ∙ sym (listed_relation c.args.self.now c.args.rel))

pub returns-in_ok-push-in-Some-clause-others : goal.returns-in_ok-push-in-Some-clause-others
returns-in_ok-push-in-Some-clause-others c =
    relation_apart c.args.self.now (record { relations = c.get_mut.follows.lender c.push.new.self; values = c.args.self.now.values }) c.args.rel refl
    (λ other differ. ((c.get_mut.follows.holds c.push.new.self).3 (search rules)).2 other (number_apart c.args.rel other (λ e. differ (sym e))))

pub returns-in_ok-insert-in-None-clause-here : goal.returns-in_ok-insert-in-None-clause-here
returns-in_ok-insert-in-None-clause-here c =
    listed_relation (record { relations = c.insert.new.self; values = c.args.self.now.values }) c.args.rel
    ∙ at_relation c.insert.new.self c.args.rel c.push-in-None.new.self c.in_ok-insert-in-None.ensures.updates.1
    ∙ c.in_ok-push-in-None.ensures.ok
    ∙ ap (λ l. l ++ c.args.number ∷ []) (c.new-numbers.ensures ∙ no_relation c.args.self.now.relations c.args.rel c.in-None.ensures.value ∙ sym (listed_relation c.args.self.now c.args.rel))

pub returns-in_ok-insert-in-None-clause-others : goal.returns-in_ok-insert-in-None-clause-others
returns-in_ok-insert-in-None-clause-others c =
    relation_apart c.args.self.now (record { relations = c.insert.new.self; values = c.args.self.now.values }) c.args.rel refl
    (λ other differ. c.in_ok-insert-in-None.ensures.updates.2 other (number_apart c.args.rel other (λ e. differ (sym e))) ∙ ap (λ m. get nat_cmp m other) c.get_mut.follows.holds-at-none)

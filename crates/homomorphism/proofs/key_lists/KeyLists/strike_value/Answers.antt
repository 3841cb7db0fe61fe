use Rattle.std.proofs.Common.{refl, sym, subst, ◌∙◌, Contains}
use Rattle.homomorphism.proofs.Relations.{listed_value, value_apart}
use Rattle.homomorphism.proofs.key_lists.KeyLists.strike_value.Goals as goal

pub returns-clause-there : goal.returns-clause-there
returns-clause-there c = λ before e.
    listed_value (record { relations = c.args.self.now.relations; values = c.strike.new.self }) c.args.key.now c.requires
    ∙ c.strike.ensures.there before (sym (listed_value c.args.self.now c.args.key.now c.requires) ∙ e)

pub returns-clause-not_there : goal.returns-clause-not_there
returns-clause-not_there c = λ none.
    listed_value (record { relations = c.args.self.now.relations; values = c.strike.new.self }) c.args.key.now c.requires
    ∙ c.strike.ensures.not_there (λ there. none (subst (λ l. Contains l c.args.number) (sym (listed_value c.args.self.now c.args.key.now c.requires)) there))
    ∙ sym (listed_value c.args.self.now c.args.key.now c.requires)

pub returns-clause-others : goal.returns-clause-others
returns-clause-others c = value_apart c.args.self.now (record { relations = c.args.self.now.relations; values = c.strike.new.self }) c.args.key.now refl c.strike.ensures.others

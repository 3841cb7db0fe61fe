use Rattle.std.proofs.Common.{◌++◌, ◌∷◌, [], ap, refl, sym, ◌∙◌}
use Rattle.std.proofs.lemmas.Result.{on_ok_weaker, on_err_weaker}
use Rattle.homomorphism.proofs.Relations.{listed_value, value_apart, values_same}
use Rattle.homomorphism.proofs.key_lists.KeyLists.note_value.Goals as goal

pub returns-clause-here : goal.returns-clause-here
returns-clause-here c =
    on_ok_weaker c.note.result (λ h. listed_value (record { relations = c.args.self.now.relations; values = c.note.new.self }) c.args.key c.requires ∙ h
    ∙ ap (λ l. l ++ c.args.number ∷ []) (sym (listed_value c.args.self.now c.args.key c.requires))) c.note.ensures.here

pub returns-clause-others : goal.returns-clause-others
returns-clause-others c = on_ok_weaker c.note.result (λ h. value_apart c.args.self.now (record { relations = c.args.self.now.relations; values = c.note.new.self }) c.args.key refl h) c.note.ensures.others

pub returns-clause-refused : goal.returns-clause-refused
returns-clause-refused c = on_err_weaker c.note.result (λ h. values_same c.args.self.now (record { relations = c.args.self.now.relations; values = c.note.new.self }) refl h) c.note.ensures.refused

use Rattle.std.proofs.Common.{ap, ◌∙◌, rules, [], ◌∷◌, ◌++◌}
use Rattle.homomorphism.proofs.Coded.{first_noted, first_empty, first_apart}
use Rattle.homomorphism.proofs.Refused.{on_err}
use Rattle.homomorphism.proofs.coded_lists.note_at.Goals as goal

pub returns-in_err-push-in-Vacant-clause-refused : goal.returns-in_err-push-in-Vacant-clause-refused
returns-in_err-push-in-Vacant-clause-refused c = on_err c.from_residual-in_err-push-in-Vacant.result _
    (first_empty c.args.key (record { key = c.insert-list.result.now.key; numbers = c.push.new.self }) _ _
    (ap (λ l. l.key) c.insert-list.ensures.value) (search rules) (search rules)
    (c.in_err-push-in-Vacant.ensures.err ∙ ap (λ l. l.numbers) c.insert-list.ensures.value ∙ c.new-numbers.ensures))

pub returns-in_err-push-in-Vacant-clause-others : goal.returns-in_err-push-in-Vacant-clause-others
returns-in_err-push-in-Vacant-clause-others c =
    first_apart c.args.key (record { key = c.insert-list.result.now.key; numbers = c.push.new.self }) _ _
    (ap (λ l. l.key) c.insert-list.ensures.value) (search rules) (search rules)

pub returns-in_ok-push-in-Vacant-clause-noted : goal.returns-in_ok-push-in-Vacant-clause-noted
returns-in_ok-push-in-Vacant-clause-noted c =
    first_noted c.args.key (record { key = c.insert-list.result.now.key; numbers = c.push.new.self }) _ _
    (ap (λ l. l.key) c.insert-list.ensures.value) (search rules) (search rules)
    c.args.number
    (c.in_ok-push-in-Vacant.ensures.ok ∙ ap (λ l. l.numbers ++ c.args.number ∷ []) c.insert-list.ensures.value
    ∙ ap (λ l. l ++ c.args.number ∷ []) c.new-numbers.ensures)

pub returns-in_ok-push-in-Vacant-clause-others : goal.returns-in_ok-push-in-Vacant-clause-others
returns-in_ok-push-in-Vacant-clause-others c =
    first_apart c.args.key (record { key = c.insert-list.result.now.key; numbers = c.push.new.self }) _ _
    (ap (λ l. l.key) c.insert-list.ensures.value) (search rules) (search rules)

use Rattle.middleware.proofs.partial_rows.keys_of.Goals as goal

pub returns-clause-others : goal.returns-clause-others
returns-clause-others c = λ row among absent. c.in_ok-list.ensures row among (λ listed. absent ((c.in_ok-keys.ensures.same _).1 listed))

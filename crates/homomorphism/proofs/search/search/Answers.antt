use Rattle.std.proofs.Common.{◌∷◌, [], sym, subst}
use Rattle.homomorphism.specs.Widening.{AreRuns}
use Rattle.homomorphism.proofs.Runs.{one_run, counted_none, counted_more}
use Rattle.homomorphism.proofs.search.search.Goals as goal

pub search_run-requires-clause-all : goal.search_run-requires-clause-all
search_run-requires-clause-all c = subst (λ n. AreRuns n ((0 ∷ []) ∷ [])) (sym c.if-atoms-eq1.true) (one_run 1 (0 ∷ []) (counted_more 0 [] counted_none))

use Rattle.std.proofs.Common.{◌∷◌, [], List, ℕ, subst, arith}
use Rattle.std.proofs.lemmas.List.{take_all}
use Rattle.middleware.specs.Branches.{output_of, HasAdded}
use Rattle.middleware.proofs.Steps.{added_next}
use Rattle.middleware.proofs.branch.add_rows.Goals as goal

pub loop-number-preserved : goal.loop-number-preserved
loop-number-preserved c =
    added_next (output_of c.args.outs.now) c.args.rows.now c.loop-number.number c.at.result [] c.args.into c.loop-number.more c.in_ok-more.more (omega arith) c.at.ensures c.loop-number.invariant
    (subst (λ (r : List (List ℕ)). HasAdded c.loop-number.more (r ∷ []) c.in_ok-more.more) c.in_ok-output_texts.ensures (rw c.as_slice.ensures.value at c.in_ok-more.ensures))

pub returns : goal.returns
returns c = rw (take_all c.loop-number.number c.args.rows.now (omega arith)) at c.loop-number.invariant

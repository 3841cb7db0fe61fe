use Rattle.std.proofs.Common.{◌∷◌, [], List, ℕ, subst, arith}
use Rattle.std.proofs.lemmas.List.{take_all}
use Rattle.middleware.specs.Branches.{HasAdded}
use Rattle.middleware.specs.Joining.{input_row_of}
use Rattle.middleware.proofs.Steps.{added_next, added_none}
use Rattle.middleware.proofs.partial_rows.input_rows.Goals as goal

pub loop-number-init : goal.loop-number-init
loop-number-init c = rw c.in_ok-list.ensures added_none

pub loop-number-preserved : goal.loop-number-preserved
loop-number-preserved c =
    added_next (input_row_of c.args.places.now c.args.inputs.now) c.args.rows.now c.loop-number.number c.at.result [] [] c.loop-number.list c.in_ok-list-2.list (omega arith) c.at.ensures c.loop-number.invariant
    (subst (λ (r : List (List ℕ)). HasAdded c.loop-number.list (r ∷ []) c.in_ok-list-2.list) c.in_ok-input_texts.ensures (rw c.as_slice.ensures.value at c.in_ok-list-2.ensures))

pub returns : goal.returns
returns c = rw (take_all c.loop-number.number c.args.rows.now (omega arith)) at c.loop-number.invariant

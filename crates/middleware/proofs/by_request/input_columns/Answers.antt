use Rattle.std.proofs.Common.{List, ℕ, arith, subst}
use Rattle.std.proofs.lemmas.List.{take_all}
use Rattle.middleware.specs.Naming.{AreAsked}
use Rattle.middleware.proofs.NamedPlaces.{asked_more}
use Rattle.middleware.proofs.by_request.input_columns.Goals as goal

pub loop-input-preserved : goal.loop-input-preserved
loop-input-preserved c =
    asked_more c.args.places.now c.args.inputs.now c.loop-input.columns.items c.in_ok-columns.columns.items c.loop-input.input-index 0 (omega arith) c.in_ok-columns.ensures c.loop-input.invariant

pub returns : goal.returns
returns c = subst (λ (l : List ℕ). AreAsked c.loop-input.columns.items c.args.places.now l) (take_all c.loop-input.input-index c.args.inputs.now (omega arith)) c.loop-input.invariant

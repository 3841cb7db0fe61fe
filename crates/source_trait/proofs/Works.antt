-- What a call leaves of a lane as a worker.
use Rattle.std.proofs.Common.{◌≡◌, ℕ, List, Option, false, sym, subst}
use Rattle.std.specs.Prelude.{Result, Err}
use Rattle.source_trait.specs.Asking.{RowList, Seen, Attached, CanAsk, CallGives}
use Rattle.source_trait.specs.Lanes.{AtKind, StepsOn, KindsStay}
use Rattle.source_trait.specs.Works.{Calls}
use Rattle.source_trait.specs.declared.lanes.Kind.{Kind}
use Rattle.source_trait.specs.declared.lanes.Lane.{Lane}
use Rattle.source_trait.specs.declared.source.CallFault.{CallFault}
use Rattle.source_trait.specs.declared.work.Ask.{Ask}
use Rattle.source_trait.proofs.LaneSteps.{StepsOn-keeps}

module _ {S : Type 0} (seen : S → Seen) (ask : Ask) where
  abbrev pub Called : Result RowList CallFault → S → S → Type 0
  Called result s t = CallGives (seen s) (seen t) ask.request.rel ask.request.positions ask.request.values result

  -- what may be asked before a call may be asked after it
  pub may_ask_after : (old new : List (Kind S)) (x : Ask) (result : Result RowList CallFault) → StepsOn old new ask.kind (Called result)
      → AtKind old x.kind (λ s. CanAsk ((seen s).attached x.request.rel) x.request.positions x.request.values)
      → AtKind new x.kind (λ s. CanAsk ((seen s).attached x.request.rel) x.request.positions x.request.values)
  may_ask_after old new x result steps may =
      StepsOn-keeps old new (Called result) ask.kind x.kind (λ s. CanAsk ((seen s).attached x.request.rel) x.request.positions x.request.values)
      (λ s t can gives. subst (λ (a : ℕ → Option Attached). CanAsk (a x.request.rel) x.request.positions x.request.values) (sym gives.attached) can) steps may

  -- a call that was refused
  pub refused_call : (old new : Lane S) (given fault : CallFault) → given ≡ fault → old.stopped ≡ false → StepsOn old.kinds.items new.kinds.items ask.kind (Called (Err given))
      → KindsStay seen old.kinds.items new.kinds.items → Calls seen old ask (Err fault) new
  refused_call old new given fault is going steps stays =
      record { going = going; steps = subst (λ f. StepsOn old.kinds.items new.kinds.items ask.kind (Called (Err f))) is steps; stays = stays }

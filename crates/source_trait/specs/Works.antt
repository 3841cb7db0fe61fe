-- Lanes as workers: which requests a lane may be asked, and what asking one does.
use Rattle.std.specs.Prelude.{◌≡◌, true, false, Result, Ok, Err}
use Rattle.source_trait.specs.Asking.{RowList, Seen, CanAsk, CallGives}
use Rattle.source_trait.specs.Lanes.{AtKind, StepsOn, KindsStay}
use Rattle.source_trait.specs.declared.lanes.Lane.{Lane}
use Rattle.source_trait.specs.declared.source.CallFault.{CallFault}
use Rattle.source_trait.specs.declared.source.CallFault.TheVariants as fault
use Rattle.source_trait.specs.declared.work.Ask.{Ask}
use Rattle.source_trait.specs.declared.work.Asked.{Asked}
use Rattle.source_trait.specs.declared.work.Asked.TheVariants as asked

-- the lane has a source of the kind, which may be asked the request
abbrev pub MayAsk : {S : Type 0} → (S → Seen) → Lane S → Ask → Type 0
MayAsk seen lane ask = AtKind lane.kinds.items ask.kind (λ s. CanAsk ((seen s).attached ask.request.rel) ask.request.positions ask.request.values)

-- The lane was not stopped, and its source of the kind was asked just this request. Nothing else on the lane changed.
pub record Calls {S : Type 0} (seen : S → Seen) (old : Lane S) (ask : Ask) (result : Result RowList CallFault) (new : Lane S) : Type 0 where
  pub going : old.stopped ≡ false
  pub steps : StepsOn old.kinds.items new.kinds.items ask.kind (λ s t. CallGives (seen s) (seen t) ask.request.rel ask.request.positions ask.request.values result)
  pub stays : KindsStay seen old.kinds.items new.kinds.items

-- A stopped lane skips the request and stays as it was. Another lane makes the call, and is stopped afterwards where it is refused.
abbrev pub Works : {S : Type 0} → (S → Seen) → Lane S → Ask → Asked → Lane S → Type 0
Works seen old ask asked.Skipped new = (old.stopped ≡ true) × (new ≡ old)
Works seen old ask (asked.Rows rows) new = Calls seen old ask (Ok rows) new × (new.stopped ≡ false)
Works seen old ask asked.Failed new = Calls seen old ask (Err fault.Failed) new × (new.stopped ≡ true)
Works seen old ask asked.NoMemory new = Calls seen old ask (Err fault.NoMemory) new × (new.stopped ≡ true)

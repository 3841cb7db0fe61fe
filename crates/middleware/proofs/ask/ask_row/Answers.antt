use Rattle.std.proofs.Common.{Option, None, Some, refl}
use Rattle.std.specs.Prelude.{Err, IsSomeAnd}
use Rattle.source_trait.specs.Asking.{CallGives, CanAsk}
use Rattle.source_trait.specs.Lanes.{source_of}
use Rattle.source_trait.specs.declared.source.CallFault.TheVariants as call
use Rattle.source_trait.proofs.Faults.{FaultsGoOn-refl}
use Rattle.middleware.proofs.LaneRuns.{StepsOn-refl}
use Rattle.middleware.proofs.ask.ask_row.Goals as goal

some_source : {S : Type 0} (P : S → Type 0) (o : Option S) → IsSomeAnd o P → IsSomeAnd o (λ s. Unit {0})
some_source P None there = there
some_source P (Some s) there = tt

pub returns-in-Err-clause-steps : goal.returns-in-Err-clause-steps
returns-in-Err-clause-steps g c =
    let seen = g.S.Source.seen in
    let kinds = c.args.lane.now.kinds.items in
    StepsOn-refl kinds c.args.kind.now (λ s t. CallGives (seen s) (seen t) c.args.rel c.args.positions.now c.args.values.now (Err call.NoMemory)) (λ s. record {
      fits = tt;
      picks = tt;
      failed = λ e. absurd (cc);
      faults = FaultsGoOn-refl (seen s);
      asks = refl;
      held = refl;
      attached = refl;
      offers = refl;
      passes = refl;
    })
    (some_source (λ s. CanAsk ((seen s).attached c.args.rel) c.args.positions.now c.args.values.now) (source_of kinds c.args.kind.now) c.requires.ready)

pub returns-in-Ok-clause-steps : goal.returns-in-Ok-clause-steps
returns-in-Ok-clause-steps g c = rw c.in-Ok.ensures at c.call_on.ensures.steps

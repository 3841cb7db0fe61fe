-- What requests leave of the lanes that were asked them.
use Rattle.std.proofs.Common.{List}
use Rattle.meaning.specs.declared.types.Step.{Step}
use Rattle.meaning.specs.declared.types.Request.{Request}
use Rattle.access_schema.specs.declared.schema.Schema.{Schema}
use Rattle.source_trait.specs.Asking.{Seen}
use Rattle.source_trait.specs.declared.lanes.Lane.{Lane}
use Rattle.middleware.specs.Branches.{AreAskable}
use Rattle.middleware.specs.LaneRounds.{AsksEach}
use Rattle.middleware.specs.LaneBranches.{OnEach}
use Rattle.middleware.proofs.Branching.{askable_later}
use Rattle.middleware.proofs.LaneShares.{OnlyAsked, only_asked, each_later}

module _ {S : Type 0} (seen : S → Seen) (schema : Schema) where
  pub askable_steps : (steps : List Step) (old new : List (Lane S)) → OnlyAsked seen schema old new
      → OnEach old (λ kinds. AreAskable seen schema kinds steps) → OnEach new (λ kinds. AreAskable seen schema kinds steps)
  askable_steps steps old new only are = each_later seen schema (λ kinds. AreAskable seen schema kinds steps)
      (λ list a b asks h step method among named. askable_later seen schema list a b asks method (h step method among named)) old new only are

  pub each_asked : (list : List Request) (old new : List (Lane S)) → AsksEach seen schema list old new → OnlyAsked seen schema old new
  each_asked list old new asks = only_asked seen schema list asks.lists old new asks.lanes

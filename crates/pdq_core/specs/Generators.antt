-- Lanes with the generator.
use Rattle.std.specs.Prelude.{◌≡◌, List, Contains, Some, codes}
use Rattle.source_trait.specs.Asking.{Seen}
use Rattle.source_trait.specs.Lanes.{source_of}
use Rattle.source_trait.specs.declared.lanes.Kind.{Kind}
use Rattle.source_trait.specs.declared.lanes.Lane.{Lane}
use Rattle.world_source.specs.Generated.{IsFresh}

-- A lane has a new generator under the kind `world`.
pub record HasGenerator {S : Type 0} (seen : S → Seen) (kinds : List (Kind S)) : Type 0 where
  pub source : S
  pub there : source_of kinds (codes "world") ≡ Some source
  pub fresh : IsFresh (seen source)

-- Each of the lanes has one.
abbrev pub HaveGenerators : {S : Type 0} → (S → Seen) → List (Lane S) → Type 0
HaveGenerators {S} seen lanes = (lane : Lane S) → Contains lanes lane → HasGenerator seen lane.kinds.items

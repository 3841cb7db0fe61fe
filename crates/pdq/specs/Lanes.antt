-- The lanes of the program.
use Rattle.std.specs.Prelude.{◌≡◌, List, [], ◌∷◌, Contains, codes}
use Rattle.source_trait.specs.Asking.{Seen}
use Rattle.source_trait.specs.Lanes.{names_of, AtKind}
use Rattle.source_trait.specs.declared.lanes.Kind.{Kind}
use Rattle.source_trait.specs.declared.lanes.Lane.{Lane}
use Rattle.pdq_core.specs.Generators.{HasGenerator}
use Rattle.pdq.specs.declared.any_source.AnySource.{AnySource}
use Rattle.pdq.specs.AnySource.{IsFolder}

-- A lane has exactly the kinds `csv` and `world`, in this order: the first is a folder of data files, and the second a new generator.
pub record IsLane {A B : Type 0} (seen : AnySource A B → Seen) (kinds : List (Kind (AnySource A B))) : Type 0 where
  pub names : names_of kinds ≡ codes "csv" ∷ codes "world" ∷ []
  pub folder : AtKind kinds (codes "csv") IsFolder
  pub generator : HasGenerator seen kinds

-- Each of the lanes is one.
abbrev pub AreLanes : {A B : Type 0} → (AnySource A B → Seen) → List (Lane (AnySource A B)) → Type 0
AreLanes {A} {B} seen lanes = (lane : Lane (AnySource A B)) → Contains lanes lane → IsLane seen lane.kinds.items

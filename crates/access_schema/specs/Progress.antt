-- What is kept of the parts that were looked at: their constants and the links of their rules.
use Rattle.std.specs.Prelude.{◌≡◌, ◌≤◌, ℕ, List, length, flat_map}
use Rattle.meaning.specs.declared.types.Relation.{Relation}
use Rattle.access_schema.specs.declared.part.Part.{Part}
use Rattle.access_schema.specs.declared.recursion.Link.{Link}
use Rattle.access_schema.specs.declared.limits.TheConstants.{MOST_CONSTANTS}
use Rattle.access_schema.specs.Lists.{each_once}
use Rattle.access_schema.specs.Content.{part_constants}
use Rattle.access_schema.specs.Links.{links_of, AreBelow, LeadRound}

-- the known constants and the links are those of the earlier parts, within the limit and not leading round
pub record StandsFor (relations : List Relation) (earlier : List Part) (known : List (List ℕ)) (links : List Link) : Type 0 where
  pub constants : known ≡ each_once (flat_map part_constants earlier)
  pub few : length known ≤ MOST_CONSTANTS
  pub links_are : links ≡ links_of relations earlier
  pub below : AreBelow (length relations) links
  pub straight : LeadRound links → ⊥

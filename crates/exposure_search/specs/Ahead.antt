-- What is seen of a set before the facts of its path are exposed.
use Rattle.std.specs.Prelude.{◌≡◌, ◌↔◌, ℕ, List, Contains, Bool, slice_get, Some}
use Rattle.meaning.specs.declared.types.Ground.{Ground}
use Rattle.meaning.specs.declared.types.Rule.{Rule}
use Rattle.meaning.specs.declared.types.Query.{Query}
use Rattle.meaning.specs.declared.types.Atom.{Atom}
use Rattle.accessible_copy.specs.Known.{facts_of}
use Rattle.least_search.specs.declared.space.Move.{Move}
use Rattle.exposure_search.specs.Tries.{IsMarked}
use Rattle.exposure_search.specs.Making.{all_made, IsMissing}

-- The facts that moves expose, in order.
abbrev pub facts_along : List Ground → List Move → List Ground
facts_along base moves = facts_of (all_made base moves)

-- Each query has an atom of a relation without facts.
abbrev pub CannotMatch : List Query → List Ground → Type 0
CannotMatch queries facts =
    (query : Query) → Contains queries query → (atom : Atom) × Contains query.atoms atom × IsMissing facts atom.rel

-- Each rule with one of these numbers has a body atom of a relation without facts.
abbrev pub CannotFire : List Rule → List ℕ → List Ground → Type 0
CannotFire rules numbers facts =
    (number : ℕ) → Contains numbers number → (rule : Rule) → slice_get rules number ≡ Some rule →
    (atom : Atom) × Contains rule.body atom × IsMissing facts atom.rel

-- The numbers are exactly those that are marked.
abbrev pub AreTheMarked : List Bool → List ℕ → Type 0
AreTheMarked marks numbers = (number : ℕ) → IsMarked marks number ↔ Contains numbers number

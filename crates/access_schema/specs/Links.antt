-- The relations that a rule part links, as numbers.
use Rattle.std.specs.Prelude.{◌≡◌, ◌⊎◌, ◌<◌, ℕ, List, [], ◌∷◌, Option, Some, None, Bool, true, false, All, Contains, length, map, filter_map, slice_index_or}
use Rattle.meaning.specs.declared.types.Relation.{Relation}
use Rattle.access_schema.specs.declared.part.Part.{Part}
use Rattle.access_schema.specs.declared.part.Part.TheVariants.{Rule as RulePart, ForeignKey as KeyPart}
use Rattle.access_schema.specs.declared.recursion.Link.{Link}
use Rattle.access_schema.specs.Content.{number_of}
use Rattle.access_schema.specs.Feeding.{IsChain, HasCycle}

-- the numbers of the body's relations, and of the head's
abbrev pub link_of : List Relation → Part → Option Link
link_of relations (RulePart line body head) = Some (record { body = map (λ atom. number_of relations atom.relation) body; head = map (λ atom. number_of relations atom.relation) head })
link_of relations (KeyPart line relation columns target target_columns) = Some (record { body = number_of relations relation ∷ []; head = number_of relations target ∷ [] })
link_of relations _ = None

-- the links of the rules and the foreign keys, in order
abbrev pub links_of : List Relation → List Part → List Link
links_of relations parts = filter_map (link_of relations) parts

-- some link leads from the one number to the other
pub record Joins (links : List Link) (source target : ℕ) : Type 0 where
  pub link : Link
  pub of_links : Contains links link
  pub reads : Contains link.body source
  pub makes : Contains link.head target

-- the numbers of the link are below the count
pub record IsBelow (count : ℕ) (link : Link) : Type 0 where
  pub body : All (λ number. number < count) link.body
  pub head : All (λ number. number < count) link.head

-- the numbers of each link are
abbrev pub AreBelow : ℕ → List Link → Type 0
AreBelow count [] = Unit {0}
AreBelow count (link ∷ links) = IsBelow count link × AreBelow count links

-- the links lead in a circle
abbrev pub LeadRound : List Link → Type 0
LeadRound links = HasCycle (Joins links)

-- the number is marked
abbrev pub IsMarked : List Bool → ℕ → Type 0
IsMarked marks number = slice_index_or marks number false ≡ true

-- the one number is the other, or a chain of links leads from it to the other
abbrev pub Reaches : List Link → ℕ → ℕ → Type 0
Reaches links source target = (source ≡ target) ⊎ ((between : List ℕ) × IsChain (Joins links) source between target)

-- the new marks go from the old ones along the links, and each link with a mark in its body has them in its whole head
pub record Spreads (links : List Link) (old new : List Bool) : Type 0 where
  pub long : length new ≡ length old
  pub kept : (number : ℕ) → IsMarked old number → IsMarked new number
  pub sound : (number : ℕ) → IsMarked new number → (start : ℕ) × IsMarked old start × Reaches links start number
  pub closed : (link : Link) (source target : ℕ) → Contains links link → Contains link.body source → IsMarked new source → Contains link.head target → IsMarked new target

-- Attached relations with their rows.
use Rattle.std.specs.Prelude.{◌≡◌, ℕ, List, [], ◌∷◌, ◌++◌, length, map, Option, None, Some, option_map, not, nat_eq, if◌then◌else◌}
use Rattle.std.specs.List.{filter}
use Rattle.meaning.specs.declared.types.Fact.{Fact}
use Rattle.source_trait.specs.Asking.{HaveArity, facts_of}
use Rattle.source_trait.specs.declared.holding.Attachment.{Attachment}

-- the facts of the attached relations
abbrev pub facts_held : List Attachment → List Fact
facts_held [] = []
facts_held (a ∷ rest) = facts_of a.rel a.rows ++ facts_held rest

-- what is attached under a relation
abbrev pub attachment_in : List Attachment → ℕ → Option Attachment
attachment_in [] rel = None
attachment_in (a ∷ rest) rel = if nat_eq a.rel rel then Some a else attachment_in rest rel

abbrev pub attached_in : List Attachment → ℕ → Option (List (List ℕ) × List ℕ)
attached_in list rel = option_map (λ a. (a.columns, a.locator)) (attachment_in list rel)

-- what is attached under other relations
abbrev pub others_than : ℕ → List Attachment → List Attachment
others_than rel list = filter (λ a. not (nat_eq a.rel rel)) list

-- of how many bytes of data the attached relations came, each
abbrev pub sizes_of : List Attachment → List ℕ
sizes_of list = map (λ a. a.size) list

-- the same, with their relations
abbrev pub loads_of : List Attachment → List (ℕ × ℕ)
loads_of list = map (λ a. (a.rel, a.size)) list

-- each relation is attached once, and its rows have its arity
abbrev pub IsStore : List Attachment → Type 0
IsStore [] = Unit {0}
IsStore (a ∷ rest) = (attachment_in rest a.rel ≡ None) × HaveArity (length a.columns) a.rows × IsStore rest

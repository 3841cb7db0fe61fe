-- The exposed facts of a log. Crates above cite this lemma.
use Rattle.std.proofs.Common.{◌≡◌, List, [], ◌∷◌, ◌++◌, refl, ap}
use Rattle.meaning.specs.declared.types.Firing.{Firing}
use Rattle.accessible_copy.specs.declared.entry.Entry.{Entry}
use Rattle.accessible_copy.specs.declared.entry.Exposed.{Exposed}
use Rattle.accessible_copy.specs.Proving.{firings_of, exposed_by, exposed_in}

abbrev pub shown_of : List Firing → List Exposed
shown_of [] = []
shown_of (firing ∷ log) = exposed_by firing ++ shown_of log

pub shown_in : (entries : List Entry) → exposed_in entries ≡ shown_of (firings_of entries)
shown_in [] = refl
shown_in (entry ∷ entries) = ap (λ rest. exposed_by entry.firing ++ rest) (shown_in entries)

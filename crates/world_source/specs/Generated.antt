-- The attached relations of the generator, as a source that keeps its rows would have them.
use Rattle.std.specs.Prelude.{◌≡◌, ℕ, false, List, [], map, Option, None, Some, Result, Ok, Err, IsTrue, length}
use Rattle.source_trait.specs.Asking.{RowList, Seen}
use Rattle.source_trait.specs.declared.holding.Attachment.{Attachment}
use Rattle.source_trait.specs.declared.source.AttachFault.{AttachFault}
use Rattle.source_trait.specs.declared.source.AttachFault.TheVariants.{NoMemory, Failed}
use Rattle.world_source.specs.Formulas.{offered, rows_of}
use Rattle.world_source.specs.declared.formula.Formula.{Formula}
use Rattle.world_source.specs.declared.generated.Generated.{Generated}

-- a relation with the rows of its formula
abbrev pub attachment_of : Generated → Attachment
attachment_of g = record { rel = g.rel; columns = g.columns; locator = g.locator; rows = rows_of g.formula.step g.formula.count; size = 0 }

abbrev pub attachments_of : List Generated → List Attachment
attachments_of list = map attachment_of list

-- what is offered of a relation; its number plays no part
abbrev pub offers : ℕ → List (List ℕ) → List ℕ → Option (Result RowList AttachFault)
offers rel columns locator = Some (offered locator (length columns))

-- nothing is attached and nothing was asked; what is offered is told, no limit is passed, and there is no fault and never will be
pub record IsFresh (seen : Seen) : Type 0 where
  pub held : seen.held ≡ Some []
  pub offer : seen.offer ≡ offers
  pub passes : (list : List (ℕ × List ℕ)) → seen.passes list ≡ false
  pub asked : seen.asked ≡ Some []
  pub attached : (rel : ℕ) → seen.attached rel ≡ None
  pub faults : seen.faults ≡ 0
  pub never_fails : IsTrue seen.never_fails

-- the formula is that of the offered rows; another answer is what is offered, unless memory ran out
abbrev pub Offers : ℕ → Result RowList AttachFault → Result Formula AttachFault → Type 0
Offers columns offer (Ok formula) = (columns ≡ 2) × (offer ≡ Ok (rows_of formula.step formula.count))
Offers columns offer (Err NoMemory) = Unit {0}
Offers columns offer (Err Failed) = ⊥
Offers columns offer (Err e) = offer ≡ Err e

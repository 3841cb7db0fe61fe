-- What a loop keeps that prints the members of a list: what is written, and behind it the text of the members that are left, is the text of all.
use Rattle.std.proofs.Common.{◌≡◌, ◌++◌, ℕ, List}
use Rattle.std.specs.List.{AllByRecursion}
use Rattle.pq_text.specs.Utf8.{KeepsUtf8}

abbrev pub IsPrinting : {X : Type 0} → List X → List X → List ℕ → List ℕ → (List X → List ℕ) → Type 0
IsPrinting all left old new text = record {
  written : new ++ text left ≡ old ++ text all;
  utf8 : KeepsUtf8 old new;
}

-- the same where something holds of each member that is left
abbrev pub IsPrintingPlaced : {X : Type 0} → (X → Type 0) → List X → List X → List ℕ → List ℕ → (List X → List ℕ) → Type 0
IsPrintingPlaced P all left old new text = record {
  written : new ++ text left ≡ old ++ text all;
  placed : AllByRecursion P left;
  utf8 : KeepsUtf8 old new;
}

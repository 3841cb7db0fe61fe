-- Whether a writer takes rows of any lengths changes no text.
use Rattle.std.proofs.Common.{◌≡◌, ap, refl, ℕ, List, [], ◌∷◌, true}
use Rattle.csv.specs.Writing.{default_writer, escaped, field_text, fields_text, is_blank, row_text, with_flexible, quote_mark}
use Rattle.std.specs.Prelude.{if◌then◌else◌, ◌==◌}

escaped_same : (field : List ℕ) → escaped (with_flexible default_writer true) field ≡ escaped default_writer field
unfolding escaped
escaped_same [] = refl
escaped_same (b ∷ rest) = ap (λ (l : List ℕ). if b == quote_mark then quote_mark ∷ b ∷ l else b ∷ l) (escaped_same rest)

field_same : (field : List ℕ) → field_text (with_flexible default_writer true) field ≡ field_text default_writer field
field_same field = rw (escaped_same field) refl

fields_same : (fields : List (List ℕ)) → fields_text (with_flexible default_writer true) fields ≡ fields_text default_writer fields
unfolding fields_text
fields_same [] = refl
fields_same (field ∷ rest) = rw (field_same field, fields_same rest) refl

blank_same : (fields : List (List ℕ)) → is_blank (with_flexible default_writer true) fields ≡ is_blank default_writer fields
unfolding is_blank
blank_same [] = refl
blank_same (field ∷ []) = rw (field_same field) refl
blank_same (field ∷ next ∷ rest) = refl

pub row_text-flexible : (fields : List (List ℕ)) → row_text (with_flexible default_writer true) fields ≡ row_text default_writer fields
row_text-flexible [] = rw (blank_same []) refl
row_text-flexible (field ∷ rest) = rw (blank_same (field ∷ rest), field_same field, fields_same rest) refl

-- Rows of one width in one list of values.
use Rattle.std.proofs.Common.{◌≡◌, ◌<◌, ◌-◌, ◌+◌, ℕ, min, List, [], ◌∷◌, ◌++◌, take, drop, length, sym, ap, ◌∙◌, arith, append_assoc}
use Rattle.std.specs.List.{AllByRecursion}
use Rattle.std.proofs.lemmas.List.{append-nil, drop-drop, drop_at, length-append, length-drop}
use Rattle.std.proofs.Math.Seq.{take-append_seam}
use Rattle.row_text.specs.Packed.{AreEnds, cut_at, values_of}

-- rows of which some end at these ends, and the others lie behind a place of the values
pub record AreBehind (width : ℕ) (values : List (List ℕ)) (ends : List ℕ) (place : ℕ) (rows : List (List (List ℕ))) : Type 0 where
  pub rest : List (List (List ℕ))
  pub all : rows ≡ cut_at 0 ends values ++ rest
  pub behind : values_of rest ≡ drop place values
  pub wide : AllByRecursion (λ row. length row ≡ width) rest

-- one more end
rows_end : (start : ℕ) (ends : List ℕ) (values : List (List ℕ)) (place end : ℕ) → AreEnds start ends place
    → cut_at start (ends ++ end ∷ []) values ≡ cut_at start ends values ++ take (end - place) (drop place values) ∷ []
rows_end start [] values place end are = ap (λ s. take (end - s) (drop s values) ∷ []) are
rows_end start (first ∷ ends) values place end are =
    ap (λ (l : List (List (List ℕ))). take (first - start) (drop start values) ∷ l) (rows_end first ends values place end are.1)

-- the row that is behind the place, of values that are left
next_row : (width : ℕ) (values : List (List ℕ)) (place step : ℕ) (row : List (List ℕ)) (rest : List (List (List ℕ))) → row ++ values_of rest ≡ drop place values → length row ≡ width
    → step ≡ min width (length values - place) → (step ≡ length row) × (take step (drop place values) ≡ row) × (values_of rest ≡ drop (place + step) values)
next_row width values place step row rest is wide cut =
    let size = ap length is in
    let whole : step ≡ length row = omega (arith, size, length-append row (values_of rest), length-drop place values, wide, cut) in (
      whole,
      rw (whole, ← is) (take-append_seam row (values_of rest)),
      sym (drop_at row (values_of rest) step (sym whole)) ∙ ap (drop step) is ∙ drop-drop step place values,
    )

-- the row behind the place ends a step behind it
pub behind_more : (width : ℕ) (values : List (List ℕ)) (ends : List ℕ) (place step : ℕ) (rows : List (List (List ℕ))) → AreEnds 0 ends place → place < length values
    → step ≡ min width (length values - place) → AreBehind width values ends place rows → AreBehind width values (ends ++ (place + step) ∷ []) (place + step) rows
behind_more width values ends place step rows are below cut behind = by behind.rest behind.all behind.behind behind.wide
  where
    by : (rest : List (List (List ℕ))) → rows ≡ cut_at 0 ends values ++ rest → values_of rest ≡ drop place values → AllByRecursion (λ row. length row ≡ width) rest
        → AreBehind width values (ends ++ (place + step) ∷ []) (place + step) rows
    by [] all is wide = absurd (omega (arith, ap length is, length-drop place values, below))
    by (row ∷ rest) all is wide =
        let next = next_row width values place step row rest is wide.0 cut in
        let size : place + step - place ≡ step = omega arith in
        let one : cut_at 0 (ends ++ (place + step) ∷ []) values ≡ cut_at 0 ends values ++ row ∷ [] =
        rows_end 0 ends values place (place + step) are ∙ ap (λ n. cut_at 0 ends values ++ take n (drop place values) ∷ []) size ∙ ap (λ (r : List (List ℕ)). cut_at 0 ends values ++ r ∷ []) next.1 in
        record {
          rest = rest;
          all = all ∙ sym (append_assoc (cut_at 0 ends values) (row ∷ []) rest) ∙ ap (λ (l : List (List (List ℕ))). l ++ rest) (sym one);
          behind = next.2;
          wide = wide.1;
        }

-- behind all values there is no row
pub behind_none : (width : ℕ) (values : List (List ℕ)) (ends : List ℕ) (place : ℕ) (rows : List (List (List ℕ))) → 0 < width → place ≡ length values → AreBehind width values ends place rows → cut_at 0 ends values ≡ rows
behind_none width values ends place rows some last behind = by behind.rest behind.all behind.behind behind.wide
  where
    by : (rest : List (List (List ℕ))) → rows ≡ cut_at 0 ends values ++ rest → values_of rest ≡ drop place values → AllByRecursion (λ row. length row ≡ width) rest → cut_at 0 ends values ≡ rows
    by [] all is wide = sym (all ∙ append-nil (cut_at 0 ends values))
    by (row ∷ rest) all is wide = absurd (omega (arith, some, wide.0, last, ap length is, length-append row (values_of rest), length-drop place values))

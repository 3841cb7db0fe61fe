-- Parts that lie in one list, as rows in one of values, by where each ends.
use Rattle.std.proofs.Common.{◌≡◌, ◌≤◌, ◌<◌, ◌-◌, ◌+◌, ℕ, zero, suc, None, Some, get_or, slice_get, List, [], ◌∷◌, ◌++◌, take, drop, length, refl, sym, ap, ◌∙◌, arith}
use Rattle.std.proofs.lemmas.List.{drop-append-le, length-append, length-drop, take-append-le, take_all, take_more, get_or-take, get_or-drop, length-take-le}
use Rattle.std.proofs.Math.Seq.{drop-append_seam}
use Rattle.std.proofs.lemmas.Option.{slice_get-get_or, slice_get_past}
use Rattle.csv.specs.Records.{field_at, prev}
use Rattle.row_text.specs.Packed.{AreEnds, cut_at}

-- the first part begins within the list
pub start_low : (start : ℕ) (ends : List ℕ) (count : ℕ) → AreEnds start ends count → start ≤ count
start_low start [] count are = omega (arith, are)
start_low start (end ∷ ends) count are = omega (arith, are.0, start_low end ends count are.1)

-- one more end, behind all values
pub ends_more : (start : ℕ) (ends : List ℕ) (count more : ℕ) → AreEnds start ends count → count ≤ more → AreEnds start (ends ++ more ∷ []) more
ends_more start [] count more are up = (omega (arith, are, up), refl)
ends_more start (end ∷ ends) count more are up = (are.0, ends_more end ends count more are.1 up)

-- a part for each end
pub length-cut_at : {A : Type 0} (start : ℕ) (ends : List ℕ) (values : List A) → length (cut_at start ends values) ≡ length ends
length-cut_at start [] values = refl
length-cut_at start (end ∷ ends) values = ap suc (length-cut_at end ends values)

-- one more part behind the others
pub cut_more : {A : Type 0} (start : ℕ) (ends : List ℕ) (values part : List A) → AreEnds start ends (length values)
    → cut_at start (ends ++ length (values ++ part) ∷ []) (values ++ part) ≡ cut_at start ends values ++ part ∷ []
cut_more {A} start [] values part are =
    let at : start ≡ length values = are in
    let size : length (values ++ part) - start ≡ length part = omega (arith, length-append values part, at) in
    let rest : drop start (values ++ part) ≡ part = rw at (drop-append_seam values part) in
    ap (λ (p : List A). p ∷ []) (ap (λ n. take n (drop start (values ++ part))) size ∙ ap (take (length part)) rest ∙ take_all (length part) part (omega arith))
cut_more {A} start (end ∷ ends) values part are =
    let up : end ≤ length values = start_low end ends (length values) are.1 in
    let low : start ≤ length values = omega (arith, are.0, up) in
    let fits : end - start ≤ length (drop start values) = omega (arith, length-drop start values, up) in
    let head : take (end - start) (drop start (values ++ part)) ≡ take (end - start) (drop start values) =
    ap (take (end - start)) (drop-append-le start values part low) ∙ take-append-le (end - start) (drop start values) part fits in
    ap (λ (p : List A). p ∷ cut_at end (ends ++ length (values ++ part) ∷ []) (values ++ part)) head
    ∙ ap (λ (l : List (List A)). take (end - start) (drop start values) ∷ l) (cut_more end ends values part are.1)

-- a part begins before it ends, within the list
pub part_bounds : (start : ℕ) (ends : List ℕ) (count number : ℕ) → AreEnds start ends count → number < length ends
    → (prev start ends number ≤ get_or ends number 0) × (get_or ends number 0 ≤ count)
unfolding prev
part_bounds start [] count number are below = absurd (omega (arith, below))
part_bounds start (end ∷ ends) count zero are below = (are.0, start_low end ends count are.1)
part_bounds start (end ∷ ends) count (suc number) are below = part_bounds end ends count number are.1 (omega (arith, below))

-- the part of a number
pub part_cut : {A : Type 0} (start : ℕ) (ends : List ℕ) (values : List A) (number : ℕ) → number < length ends
    → get_or (cut_at start ends values) number [] ≡ take (get_or ends number 0 - prev start ends number) (drop (prev start ends number) values)
unfolding prev
part_cut start [] values number below = absurd (omega (arith, below))
part_cut start (end ∷ ends) values zero below = refl
part_cut start (end ∷ ends) values (suc number) below = part_cut end ends values number (omega (arith, below))

-- how long a part is, and its members
pub part_size : {A : Type 0} (values : List A) (start end : ℕ) → start ≤ end → end ≤ length values → length (take (end - start) (drop start values)) ≡ end - start
part_size values start end order within = length-take-le (end - start) (drop start values) (omega (arith, length-drop start values, within))

pub part_at : {A : Type 0} (values : List A) (d : A) (start end number : ℕ) → number < end - start
    → get_or (take (end - start) (drop start values)) number d ≡ get_or values (start + number) d
part_at values d start end number below = get_or-take (end - start) (drop start values) number d below ∙ get_or-drop start values number d

-- a value within a part of the values, and none behind it
pub part_get : (values : List (List ℕ)) (start end column : ℕ) → start ≤ end → end ≤ length values → column < end - start
    → slice_get (take (end - start) (drop start values)) column ≡ Some (get_or values (start + column) [])
part_get values start end column order within below =
    slice_get-get_or (take (end - start) (drop start values)) column [] (omega (arith, part_size values start end order within, below))
    ∙ ap Some (part_at values [] start end column below)

pub part_past : (values : List (List ℕ)) (start end column : ℕ) → start ≤ end → end ≤ length values → end - start ≤ column
    → slice_get (take (end - start) (drop start values)) column ≡ None
part_past values start end column order within past =
    slice_get_past (take (end - start) (drop start values)) column (omega (arith, part_size values start end order within, past))

-- the field at a place, and the empty one where there is none
pub field_get : (fields : List (List ℕ)) (i : ℕ) (field : List ℕ) → field_at fields i ≡ Some field → get_or fields i [] ≡ field
unfolding field_at
field_get [] i field at = absurd (cc)
field_get (x ∷ fields) zero field at = cc
field_get (x ∷ fields) (suc i) field at = field_get fields i field at

pub field_past : (fields : List (List ℕ)) (i : ℕ) → field_at fields i ≡ None → get_or fields i [] ≡ []
unfolding field_at
field_past [] i at = refl
field_past (x ∷ fields) zero at = absurd (cc)
field_past (x ∷ fields) (suc i) at = field_past fields i at

-- where the first part and the later ones begin
pub prev_first : (ends : List ℕ) → prev 0 ends 0 ≡ 0
unfolding prev
prev_first [] = refl
prev_first (end ∷ ends) = refl

pub prev_next : (start : ℕ) (ends : List ℕ) (number d : ℕ) → number + 1 < length ends → prev start ends (number + 1) ≡ get_or ends number d
unfolding prev
prev_next start [] number d below = absurd (omega (arith, below))
prev_next start (end ∷ []) number d below = absurd (omega (arith, below))
prev_next start (end ∷ next ∷ ends) zero d below = refl
prev_next start (end ∷ next ∷ ends) (suc number) d below =
    let step : suc number + 1 ≡ suc (number + 1) = omega arith in
    rw step (prev_next end (next ∷ ends) number d (omega (arith, below)))

-- the parts with one more behind them
pub packed_more : {A : Type 0} (ends more_ends : List ℕ) (values more_values part : List A) (count : ℕ) → AreEnds 0 ends (length values) → more_values ≡ values ++ part → count ≡ length more_values → more_ends ≡ ends ++ count ∷ []
    → AreEnds 0 more_ends (length more_values) × (cut_at 0 more_ends more_values ≡ cut_at 0 ends values ++ part ∷ [])
packed_more ends more_ends values more_values part count are grown counted ended =
    let size : length values ≤ length (values ++ part) = omega (arith, length-append values part) in
    let end : count ≡ length (values ++ part) = counted ∙ ap length grown in
    let ends_are : more_ends ≡ ends ++ length (values ++ part) ∷ [] = ended ∙ ap (λ n. ends ++ n ∷ []) end in (
      rw (ends_are, grown) (ends_more 0 ends (length values) (length (values ++ part)) are size),
      rw (ends_are, grown) (cut_more 0 ends values part are),
    )

-- the members of one part
pub record IsPart {A : Type 0} (parts : List (List A)) (number : ℕ) (values : List A) (start end : ℕ) : Type 0 where
  pub order : start ≤ end
  pub within : end ≤ length values
  pub is : get_or parts number [] ≡ take (end - start) (drop start values)

pub got_part : {A : Type 0} (parts : List (List A)) (ends : List ℕ) (values : List A) (number start end : ℕ) → cut_at 0 ends values ≡ parts → AreEnds 0 ends (length values) → number < length parts
    → start ≡ prev 0 ends number → end ≡ get_or ends number 0 → IsPart parts number values start end
got_part {A} parts ends values number start end view are below first last =
    let low : number < length ends = omega (arith, below, ap length view, length-cut_at 0 ends values) in
    let bounds = part_bounds 0 ends (length values) number are low in
    record {
      order = omega (arith, first, last, bounds.0);
      within = omega (arith, last, bounds.1);
      is = rw (first, last) (ap (λ (l : List (List A)). get_or l number []) (sym view) ∙ part_cut 0 ends values number low);
    }

-- one part is the whole list
pub cut_one : {A : Type 0} (ends : List ℕ) (values : List A) → length ends ≡ 1 → AreEnds 0 ends (length values) → cut_at 0 ends values ≡ values ∷ []
cut_one [] values one are = absurd (omega (arith, one))
cut_one {A} (end ∷ []) values one are =
    let last : end ≡ length values = are.1 in
    ap (λ (p : List A). p ∷ []) (take_all (end - 0) values (omega (arith, last)))
cut_one (end ∷ next ∷ ends) values one are = absurd (omega (arith, one))

pub only_part : {A : Type 0} (ends : List ℕ) (values part : List A) → AreEnds 0 ends (length values) → cut_at 0 ends values ≡ part ∷ [] → values ≡ part
only_part ends values part are is =
    let one : length ends ≡ 1 = sym (length-cut_at 0 ends values) ∙ ap length is in
    let both : values ∷ [] ≡ part ∷ [] = sym (cut_one ends values one are) ∙ is in
    cc

-- one value more of a part
pub part_more : (values : List (List ℕ)) (start place end : ℕ) → start ≤ place → place < end → end ≤ length values
    → take (place + 1 - start) (drop start values) ≡ take (place - start) (drop start values) ++ get_or values place [] ∷ []
part_more values start place end low high within =
    let more : place + 1 - start ≡ place - start + 1 = omega (arith, low) in
    let at : start + (place - start) ≡ place = omega (arith, low) in
    ap (λ n. take n (drop start values)) more
    ∙ take_more (drop start values) (place - start) [] (omega (arith, length-drop start values, low, high, within))
    ∙ ap (λ (v : List ℕ). take (place - start) (drop start values) ++ v ∷ []) (get_or-drop start values (place - start) [] ∙ ap (λ n. get_or values n []) at)

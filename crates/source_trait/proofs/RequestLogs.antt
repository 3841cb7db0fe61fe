-- One request more in a log, and a log that is read back.
use Rattle.std.specs.Prelude.{IsUtf8}
use Rattle.std.proofs.Common.{◌≡◌, ◌≤◌, ◌<◌, ◌+◌, ◌-◌, ℕ, zero, suc, Some, List, [], ◌∷◌, ◌++◌, drop, get_or, length, replicate, set, slice_get, take, refl, sym, ap, ◌∙◌, arith, append_assoc}
use Rattle.std.proofs.lemmas.List.{append-nil, drop-append-le, length-append, length-drop, length-replicate, length-take, nil_from_length, replicate_more, take-append-le, take_all}
use Rattle.std.proofs.lemmas.List.Sums.{sum_by-cons, sum_by_push}
use Rattle.std.proofs.Math.Seq.{drop-append_seam}
use Rattle.csv.specs.Records.{AllText, Rising, cut_from, last_end}
use Rattle.csv.proofs.RecordFacts.{cut-end, cut-more, last-append, rising-end, rising-first, rising-more, text-more}
use Rattle.lists.proofs.Members.{got_push}
use Rattle.meaning.specs.declared.types.Request.{Request}
use Rattle.source_trait.specs.declared.request_log.Run.{Run}
use Rattle.source_trait.specs.declared.request_log.Shape.{Shape}
use Rattle.source_trait.specs.RequestLog.{ArePacked, EndsWith, IsLog, requests_in, shapes_of, width_of}

-- one more text behind the others
pub packed_more : (ends bytes text : List ℕ) (texts : List (List ℕ)) → ArePacked ends bytes texts → IsUtf8 text
    → ArePacked (ends ++ length (bytes ++ text) ∷ []) (bytes ++ text) (texts ++ text ∷ [])
packed_more ends bytes text texts are is_text =
    let longer : Rising 0 ends (length (bytes ++ text)) = rising-more 0 ends (length bytes) (length (bytes ++ text)) are.rising (omega (arith, length-append bytes text)) in
    let front : cut_from 0 ends (bytes ++ text) ≡ texts = cut-more 0 ends bytes text are.rising ∙ are.are in
    let behind : drop (last_end 0 ends) (bytes ++ text) ≡ text = rw are.last (drop-append_seam bytes text) in
    record {
      rising = rising-end 0 ends (length (bytes ++ text)) longer;
      last = last-append 0 ends (length (bytes ++ text));
      are = cut-end 0 ends (bytes ++ text) longer ∙ ap (λ (l : List (List ℕ)). l ++ drop (last_end 0 ends) (bytes ++ text) ∷ []) front ∙ ap (λ (t : List ℕ). texts ++ t ∷ []) behind;
      text = text-more texts text are.text is_text;
    }

-- no text
pub packed_none : (ends bytes : List ℕ) → ends ≡ [] → bytes ≡ [] → ArePacked ends bytes (cut_from 0 ends bytes) × (cut_from 0 ends bytes ≡ [])
unfolding AllText Rising cut_from last_end
packed_none ends bytes no_ends no_bytes = rw (no_ends, no_bytes) (record { rising = omega arith; last = refl; are = refl; text = tt }, refl)

-- what a list begins with stays where more comes behind it
pub front_stays : (front list more : List ℕ) → take (length front) list ≡ front → take (length front) (list ++ more) ≡ front
front_stays front list more is = take-append-le (length front) list more (omega (arith, ap length is, length-take (length front) list)) ∙ is

-- the values of one more request stand behind those of the others
pub requests_more : (shapes : List Shape) (shape : Shape) (values row : List (List ℕ)) → width_of shapes ≡ length values → length row ≡ shape.width
    → requests_in (shapes ++ shape ∷ []) (values ++ row) ≡ requests_in shapes values ++ record { rel = shape.rel; positions = shape.positions; values = row } ∷ []
requests_more [] shape values row wide fits =
    let none : values ≡ [] = nil_from_length values (sym wide) in
    let whole : take shape.width (values ++ row) ≡ row = rw none (take_all shape.width row (omega (arith, fits))) in
    ap (λ (r : List (List ℕ)). record { rel = shape.rel; positions = shape.positions; values = r } ∷ []) whole
requests_more (s ∷ shapes) shape values row wide fits =
    let sum = sum_by-cons (λ (x : Shape). x.width) s shapes in
    let low : s.width ≤ length values = omega (arith, sum, wide) in
    let rest : width_of shapes ≡ length (drop s.width values) = omega (arith, sum, wide, length-drop s.width values) in
    rw (take-append-le s.width values row low, drop-append-le s.width values row low)
    (ap (λ (l : List Request). record { rel = s.rel; positions = s.positions; values = take s.width values } ∷ l) (requests_more shapes shape (drop s.width values) row rest fits))

-- as many requests as shapes
pub length-requests_in : (shapes : List Shape) (values : List (List ℕ)) → length (requests_in shapes values) ≡ length shapes
length-requests_in [] values = refl
length-requests_in (shape ∷ shapes) values = ap suc (length-requests_in shapes (drop shape.width values))

-- the log with one request more
pub log_more : (shapes more : List Shape) (shape : Shape) (values more_values row : List (List ℕ)) (count : ℕ) → more ≡ shapes ++ shape ∷ [] → more_values ≡ values ++ row → length row ≡ shape.width → IsLog shapes values count
    → IsLog more more_values (count + 1) × (requests_in more more_values ≡ requests_in shapes values ++ record { rel = shape.rel; positions = shape.positions; values = row } ∷ [])
log_more shapes more shape values more_values row count grown filled fits is = rw (grown, filled) (
  record {
    wide = omega (arith, sum_by_push (λ (s : Shape). s.width) shapes shape, is.wide, fits, length-append values row);
    counted = omega (arith, is.counted, length-append shapes (shape ∷ []));
  },
  requests_more shapes shape values row is.wide fits,
)

-- a run of no requests at the end
pub shapes_opened : (runs : List Run) (shape : Shape) → shapes_of (runs ++ record { shape = shape; count = 0 } ∷ []) ≡ shapes_of runs
shapes_opened [] shape = refl
shapes_opened (run ∷ runs) shape = ap (λ (l : List Shape). replicate run.count run.shape ++ l) (shapes_opened runs shape)

-- one request more of the last run
pub shapes_counted : (runs : List Run) (n : ℕ) (run : Run) → n + 1 ≡ length runs → slice_get runs n ≡ Some run
    → shapes_of (set runs n (record { shape = run.shape; count = run.count + 1 })) ≡ shapes_of runs ++ run.shape ∷ []
shapes_counted [] n run last at = absurd (omega (arith, last))
shapes_counted (r ∷ []) zero run last at =
    let same : r ≡ run = cc in
    rw same (append-nil (replicate (run.count + 1) run.shape) ∙ sym (replicate_more run.count run.shape) ∙ ap (λ (l : List Shape). l ++ run.shape ∷ []) (sym (append-nil (replicate run.count run.shape))))
shapes_counted (r ∷ s ∷ runs) zero run last at = absurd (omega (arith, last))
shapes_counted (r ∷ runs) (suc n) run last at =
    ap (λ (l : List Shape). replicate r.count r.shape ++ l) (shapes_counted runs n run (omega (arith, last)) at) ∙ sym (append_assoc (replicate r.count r.shape) (shapes_of runs) (run.shape ∷ []))

-- the last run has no more requests than there are
pub last_low : (runs : List Run) (n : ℕ) (run : Run) → slice_get runs n ≡ Some run → run.count ≤ length (shapes_of runs)
last_low [] n run at = absurd (cc)
last_low (r ∷ runs) zero run at =
    let same : r ≡ run = cc in
    rw same (omega (arith, length-append (replicate run.count run.shape) (shapes_of runs), length-replicate run.count run.shape))
last_low (r ∷ runs) (suc n) run at = omega (arith, length-append (replicate r.count r.shape) (shapes_of runs), last_low runs n run at)

-- a run at the end is the last one
pub ends_opened : (runs : List Run) (run : Run) → EndsWith (runs ++ run ∷ []) run.shape
ends_opened runs run =
    let behind : length (runs ++ run ∷ []) - 1 ≡ length runs = omega (arith, length-append runs (run ∷ [])) in
    rw (behind, got_push runs run) refl

-- the shape of the last run
pub ends_shape : (runs : List Run) (n : ℕ) (run : Run) (shape : Shape) → n + 1 ≡ length runs → slice_get runs n ≡ Some run → EndsWith runs shape → run.shape ≡ shape
ends_shape runs n run shape last at ends =
    let behind : length runs - 1 ≡ n = omega (arith, last) in
    rw (behind, at) at ends

-- the first text of those that are left
pub record FirstText (start : ℕ) (left bytes : List ℕ) : Type 0 where
  pub order : start ≤ get_or left 0 0
  pub within : get_or left 0 0 ≤ length bytes
  pub text : IsUtf8 (take (get_or left 0 0 - start) (drop start bytes))
  pub rising : Rising (get_or left 0 0) (take (length left - 1) (drop 1 left)) (length bytes)
  pub texts : AllText (cut_from (get_or left 0 0) (take (length left - 1) (drop 1 left)) bytes)
  pub cut : cut_from start left bytes ≡ take (get_or left 0 0 - start) (drop start bytes) ∷ cut_from (get_or left 0 0) (take (length left - 1) (drop 1 left)) bytes

pub first_text : (start : ℕ) (left bytes : List ℕ) → 1 ≤ length left → Rising start left (length bytes) → AllText (cut_from start left bytes) → FirstText start left bytes
unfolding AllText Rising cut_from
first_text start [] bytes some rising texts = absurd (omega (arith, some))
first_text start (end ∷ ends) bytes some rising texts =
    let rest : take (length (end ∷ ends) - 1) ends ≡ ends = take_all (length (end ∷ ends) - 1) ends (omega arith) in
    record {
      order = rising.0;
      within = rising-first end ends (length bytes) rising.1;
      text = texts.0;
      rising = rw rest rising.1;
      texts = rw rest texts.1;
      cut = rw rest refl;
    }

-- with no end there is no text
pub cut_none : (start : ℕ) (left bytes : List ℕ) → left ≡ [] → cut_from start left bytes ≡ []
unfolding cut_from
cut_none start left bytes is = rw is refl

-- one of so many requests, and those behind it
one_fewer : (n k : ℕ) (shape : Shape) → k < n → replicate (n - k) shape ≡ shape ∷ replicate (n - (k + 1)) shape
one_fewer n k shape below =
    let e : n - k ≡ suc (n - (k + 1)) = omega (arith, below) in
    rw e refl

pub next_width : (n k : ℕ) (shape : Shape) → k < n → width_of (replicate (n - k) shape) ≡ shape.width + width_of (replicate (n - (k + 1)) shape)
next_width n k shape below = ap width_of (one_fewer n k shape below) ∙ sum_by-cons (λ (s : Shape). s.width) shape (replicate (n - (k + 1)) shape)

pub next_request : (n k : ℕ) (shape : Shape) (later : List Shape) (left : List (List ℕ)) → k < n
    → requests_in (replicate (n - k) shape ++ later) left ≡ record { rel = shape.rel; positions = shape.positions; values = take shape.width left } ∷ requests_in (replicate (n - (k + 1)) shape ++ later) (drop shape.width left)
next_request n k shape later left below = ap (λ (l : List Shape). requests_in (l ++ later) left) (one_fewer n k shape below)

-- The rows of so many values by their numbers, and the requests of a round block by block.
use Rattle.std.proofs.Common.{◌≡◌, ◌∙◌, ◌+◌, ◌-◌, ◌*◌, ◌/◌, ◌%◌, ◌<◌, ◌≤◌, ⊎_elim, ℕ, zero, suc, Bool, true, false, List, [], ◌∷◌, ◌++◌, length, map, append_assoc, Option, None, Some, refl, sym, ap, subst, arith}
use Rattle.std.specs.Prelude.{◌||◌, Contains, slice_get, flat_map, option_map, insert}
use Rattle.std.proofs.lemmas.List.{map-append, append-nil, length-map}
use Rattle.std.proofs.lemmas.Nat.{div-add-mod'}
use Rattle.std.proofs.lemmas.Option.{slice_get_within}
use Rattle.lists.proofs.Booleans.{or_false}
use Rattle.lists.proofs.Members.{got_before, map_got, contains_here, contains_there}
use Rattle.lists.proofs.Places.{got_after}
use Rattle.meaning.specs.Values.{Value, Row}
use Rattle.access_schema.specs.declared.schema.Schema.{Schema}
use Rattle.source_trait.specs.declared.work.Ask.{Ask}
use Rattle.middleware.specs.PlanSources.{line_for}
use Rattle.crawl_rounds.specs.Rows.{Marked, MarkedRow, longer, rows_of, class_rows, last_values, fresh_of}
use Rattle.crawl_rounds.specs.Rounds.{Class}
use Rattle.crawl_rounds.proofs.LastPlace.{rows_by_last_place, behind_old}
use Rattle.crawl.specs.declared.known.KnownValues.{KnownValues}
use Rattle.crawl.specs.Knowing.{marked_of}
use Rattle.crawl.specs.Asking.{kind_of, ask_to, round_asks}
use Rattle.crawl.specs.Pieces.{block_with, blocks_with, class_blocks, AreEnough, joined}
use Rattle.crawl.proofs.Wanting.{one_asked}

-- ---- rows by their numbers

-- the row with a value behind it
abbrev pub with_end : Marked → MarkedRow → MarkedRow
with_end v row = (row.0 ++ v.0 ∷ [], row.1 || v.1)

pub got_longer : (all : List Marked) (v : Marked) (r : ℕ) → slice_get all r ≡ Some v → r < length all
    → (rows : List MarkedRow) (q k : ℕ) → k ≡ q * length all + r
    → slice_get (longer all rows) k ≡ option_map (with_end v) (slice_get rows q)
got_longer all v r at low [] q k is = refl
got_longer all v r at low (row ∷ rows) zero k is =
    let same : k ≡ r = omega (arith, is) in
    let f : Marked → MarkedRow = λ w. (row.0 ++ w.0 ∷ [], row.1 || w.1) in
    let long : length (map f all) ≡ length all = length-map all f in
    ap (slice_get (map f all ++ longer all rows)) same
    ∙ got_before (map f all) (longer all rows) r (omega (arith, low, long))
    ∙ map_got f all r v at
got_longer all v r at low (row ∷ rows) (suc q) k is =
    let f : Marked → MarkedRow = λ w. (row.0 ++ w.0 ∷ [], row.1 || w.1) in
    let long : length (map f all) ≡ length all = length-map all f in
    let same : k ≡ length (map f all) + (q * length all + r) = omega (arith, is, long) in
    ap (slice_get (map f all ++ longer all rows)) same
    ∙ got_after (map f all) (longer all rows) (q * length all + r)
    ∙ got_longer all v r at low rows q (q * length all + r) refl

-- the row with values behind it, one of which may be new
abbrev pub with_ends : List Value → Bool → MarkedRow → MarkedRow
with_ends values mark row = (row.0 ++ values, row.1 || mark)

or_assoc : (a b c : Bool) → ((a || b) || c) ≡ (a || (b || c))
or_assoc true b c = refl
or_assoc false b c = refl

pub or_first : (m a b : Bool) → a ≡ true → m ≡ a → m ≡ (a || b)
or_first m a b is e = e ∙ is ∙ ap (λ (c : Bool). c || b) (sym is)

pub or_other : (m a b : Bool) → a ≡ false → m ≡ b → m ≡ (a || b)
or_other m a b is e = e ∙ ap (λ (c : Bool). c || b) (sym is)

pub insert_first : (xs : List Value) (x : Value) → insert xs 0 x ≡ x ∷ xs
insert_first [] x = refl
insert_first (y ∷ xs) x = refl

pub ends_none : (o : Option MarkedRow) → o ≡ option_map (with_ends [] false) o
ends_none None = refl
ends_none (Some row) =
    let front : row.0 ++ [] ≡ row.0 = append-nil row.0 in
    let mark : (row.1 || false) ≡ row.1 = or_false row.1 in
    ap (λ (r : MarkedRow). Some r) (λ i. (sym front i, sym mark i))

pub ends_more : (v : Marked) (values now : List Value) (mark : Bool) (o : Option MarkedRow) → now ≡ v.0 ∷ values
    → option_map (with_ends values mark) (option_map (with_end v) o) ≡ option_map (with_ends now (v.1 || mark)) o
ends_more v values now mark None is = refl
ends_more v values now mark (Some row) is =
    let front : (row.0 ++ v.0 ∷ []) ++ values ≡ row.0 ++ now = append_assoc row.0 (v.0 ∷ []) values ∙ ap (λ (l : List Value). row.0 ++ l) (sym is) in
    let its : ((row.1 || v.1) || mark) ≡ (row.1 || (v.1 || mark)) = or_assoc row.1 v.1 mark in
    ap (λ (r : MarkedRow). Some r) (λ i. (front i, its i))

-- there is no longer row without values
pub longer_none : (rows : List MarkedRow) → longer [] rows ≡ []
longer_none [] = refl
longer_none (row ∷ rows) = longer_none rows

no_row : (first : Bool) (all : List Marked) (count number : ℕ) → all ≡ []
    → None ≡ slice_get (rows_of first all (suc count)) number
no_row first all count number none =
    sym (ap (λ (l : List Marked). slice_get (longer l (rows_of first l count)) number) none
    ∙ ap (λ (l : List MarkedRow). slice_get l number) (longer_none (rows_of first [] count)))

pub none_of : (first : Bool) (all : List Marked) (count number : ℕ) → length all ≡ 0 → 0 < count
    → None ≡ slice_get (rows_of first all count) number
none_of first [] zero number none some = absurd (omega arith)
none_of first [] (suc count) number none some = no_row first [] count number refl
none_of first (v ∷ all) count number none some = absurd (omega arith)

-- the last value of the row is that of the last digit of its number
pub one_digit : (first : Bool) (all : List Marked) (v : Marked) (count counter number rest : ℕ) (values now : List Value) (mark : Bool)
    → counter < count
    → slice_get all (rest % length all) ≡ Some v → now ≡ v.0 ∷ values
    → slice_get (rows_of first all count) number ≡ option_map (with_ends values mark) (slice_get (rows_of first all (count - counter)) rest)
    → slice_get (rows_of first all count) number ≡ option_map (with_ends now (v.1 || mark)) (slice_get (rows_of first all (count - (counter + 1))) (rest / length all))
one_digit first all v count counter number rest values now mark less at is was =
    let left : ℕ = count - (counter + 1) in
    let one : count - counter ≡ suc left = omega (arith, less) in
    was
    ∙ ap (λ n. option_map (with_ends values mark) (slice_get (rows_of first all n) rest)) one
    ∙ ap (λ (o : Option MarkedRow). option_map (with_ends values mark) o)
    (got_longer all v (rest % length all) at (slice_get_within all (rest % length all) v at) (rows_of first all left) (rest / length all) rest (sym (div-add-mod' rest (length all))))
    ∙ ends_more v values now mark (slice_get (rows_of first all left) (rest / length all)) is

-- ---- the blocks of a round

block_is : (schema : Schema) (class : Class) (values : List Marked) (fresh : List Value) → fresh ≡ fresh_of values
    → (row : MarkedRow)
    → block_with (kind_of (line_for class.0 schema.sources)) class values fresh row ≡ map (ask_to schema class) (map (λ v. row.0 ++ v.0 ∷ []) (last_values values row.1))
block_is schema class values fresh same (row, true) = each values
  where
    each : (vs : List Marked)
        → map (λ v. ask_to schema class (row ++ v ∷ [])) (map (λ v. v.0) vs) ≡ map (ask_to schema class) (map (λ v. row ++ v.0 ∷ []) vs)
    each [] = refl
    each (v ∷ vs) = ap (λ (l : List Ask). ask_to schema class (row ++ v.0 ∷ []) ∷ l) (each vs)
block_is schema class values fresh same (row, false) =
    ap (λ (l : List Value). map (λ v. ask_to schema class (row ++ v ∷ [])) l) same ∙ each (fresh_of values)
    ∙ ap (λ (l : List Row). map (ask_to schema class) l) (sym (behind_old values row))
  where
    each : (vs : List Value)
        → map (λ v. ask_to schema class (row ++ v ∷ [])) vs ≡ map (ask_to schema class) (map (λ v. row ++ v ∷ []) vs)
    each [] = refl
    each (v ∷ vs) = ap (λ (l : List Ask). ask_to schema class (row ++ v ∷ []) ∷ l) (each vs)

blocks_are : (schema : Schema) (class : Class) (values : List Marked) (fresh : List Value) → fresh ≡ fresh_of values
    → (rows : List MarkedRow)
    → joined (map (block_with (kind_of (line_for class.0 schema.sources)) class values fresh) rows)
    ≡ map (ask_to schema class) (flat_map (λ row. map (λ v. row.0 ++ v.0 ∷ []) (last_values values row.1)) rows)
blocks_are schema class values fresh same [] = refl
blocks_are schema class values fresh same (row ∷ rows) =
    let here : List Row = map (λ v. row.0 ++ v.0 ∷ []) (last_values values row.1) in
    let rest : List Row = flat_map (λ row. map (λ v. row.0 ++ v.0 ∷ []) (last_values values row.1)) rows in
    ap (λ (l : List Ask). l ++ joined (map (block_with (kind_of (line_for class.0 schema.sources)) class values fresh) rows)) (block_is schema class values fresh same row)
    ∙ ap (λ (l : List Ask). map (ask_to schema class) here ++ l) (blocks_are schema class values fresh same rows)
    ∙ sym (map-append (ask_to schema class) here rest)

class_whole : (schema : Schema) (first : Bool) (values : List Marked) (fresh : List Value) → fresh ≡ fresh_of values
    → (class : Class) (n : ℕ)
    → joined (blocks_with schema first values fresh class n) ≡ map (ask_to schema class) (class_rows first values n)
class_whole schema true values fresh same class zero = refl
class_whole schema false values fresh same class zero = refl
class_whole schema first values fresh same class (suc n) =
    blocks_are schema class values fresh same (rows_of first values n)
    ∙ ap (λ (l : List Row). map (ask_to schema class) l) (sym (rows_by_last_place first values n))

-- behind the first round a class with one input or none looks at the new values alone
class_new : (schema : Schema) (all values : List Marked) (fresh : List Value) → fresh ≡ fresh_of values
    → (class : Class) (n : ℕ) → n ≤ 1
    → joined (blocks_with schema false all fresh class n) ≡ map (ask_to schema class) (class_rows false values n)
class_new schema all values fresh same class zero few = refl
class_new schema all values fresh same class (suc zero) few = append-nil (map (λ v. ask_to schema class (v ∷ [])) fresh) ∙ one_asked schema class values fresh same
class_new schema all values fresh same class (suc (suc n)) few = absurd (omega arith)

pub round_whole : (schema : Schema) (first : Bool) (known : KnownValues) (classes : List Class) (all : List Marked) (fresh : List Value)
    → fresh ≡ fresh_of (marked_of known) → AreEnough first known classes all
    → flat_map (λ its. joined its) (map (class_blocks schema first all fresh) classes) ≡ round_asks schema first (marked_of known) classes
round_whole schema first known classes all fresh same enough = go classes (λ class c. c)
  where
    here : (class : Class) → Contains classes class
        → joined (class_blocks schema first all fresh class) ≡ map (ask_to schema class) (class_rows first (marked_of known) (length class.1))
    here class among = ⊎_elim
        (λ is. subst (λ (l : List Marked). joined (class_blocks schema first l fresh class) ≡ map (ask_to schema class) (class_rows first (marked_of known) (length class.1))) (sym is)
        (class_whole schema first (marked_of known) fresh same class (length class.1)))
        (λ (later, few). subst (λ (b : Bool). joined (class_blocks schema b all fresh class) ≡ map (ask_to schema class) (class_rows b (marked_of known) (length class.1))) (sym later)
        (class_new schema all (marked_of known) fresh same class (length class.1) (few class among)))
        enough

    go : (cs : List Class) → ((class : Class) → Contains cs class → Contains classes class)
        → flat_map (λ its. joined its) (map (class_blocks schema first all fresh) cs) ≡ round_asks schema first (marked_of known) cs
    go [] within = refl
    go (class ∷ cs) within =
        ap (λ (l : List Ask). l ++ flat_map (λ its. joined its) (map (class_blocks schema first all fresh) cs)) (here class (within class (contains_here class cs)))
        ∙ ap (λ (l : List Ask). map (ask_to schema class) (class_rows first (marked_of known) (length class.1)) ++ l) (go cs (λ d c. within d (contains_there class cs d c)))

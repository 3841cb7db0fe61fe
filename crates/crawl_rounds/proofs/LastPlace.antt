-- The rows of a class are found without making those that are not new.
use Rattle.std.proofs.Common.{◌≡◌, ◌∙◌, ℕ, suc, Bool, true, false, ◌||◌, List, [], ◌∷◌, ◌++◌, refl, sym, ap}
use Rattle.std.specs.Prelude.{map, flat_map}
use Rattle.std.specs.List.{filter}
use Rattle.std.proofs.lemmas.List.{map-append, append-nil}
use Rattle.std.proofs.lemmas.List.Elements.{filter-append}
use Rattle.meaning.specs.Values.{Value, Row}
use Rattle.crawl_rounds.specs.Rows.{Marked, MarkedRow, longer, rows_of, class_rows, last_values, fresh_of}

abbrev news : List MarkedRow → List Row
news rows = map (λ (r : MarkedRow). r.0) (filter (λ (r : MarkedRow). r.1) rows)

abbrev with_each : List Marked → Row → List Row
with_each values row = map (λ (v : Marked). row ++ v.0 ∷ []) values

after : (values : List Marked) (row : Row) (mark : Bool) → news (map (λ (v : Marked). (row ++ v.0 ∷ [], mark || v.1)) values) ≡ with_each (last_values values mark) row
after [] row true = refl
after [] row false = refl
after (v ∷ values) row true = ap (λ rs. (row ++ v.0 ∷ []) ∷ rs) (after values row true)
after ((v, true) ∷ values) row false = ap (λ rs. (row ++ v ∷ []) ∷ rs) (after values row false)
after ((v, false) ∷ values) row false = after values row false

news_joined : (xs ys : List MarkedRow) → news (xs ++ ys) ≡ news xs ++ news ys
news_joined xs ys = ap (map (λ (r : MarkedRow). r.0)) (filter-append (λ (r : MarkedRow). r.1) xs ys) ∙ map-append (λ (r : MarkedRow). r.0) (filter (λ (r : MarkedRow). r.1) xs) (filter (λ (r : MarkedRow). r.1) ys)

last_rows : (values : List Marked) (rows : List MarkedRow) → news (longer values rows) ≡ flat_map (λ (r : MarkedRow). with_each (last_values values r.1) r.0) rows
last_rows values [] = refl
last_rows values (row ∷ rows) =
    news_joined (map (λ (v : Marked). (row.0 ++ v.0 ∷ [], row.1 || v.1)) values) (longer values rows) ∙ ap (λ rs. rs ++ news (longer values rows)) (after values row.0 row.1)
    ∙ ap (λ rs. with_each (last_values values row.1) row.0 ++ rs) (last_rows values rows)

pub rows_by_last_place : (first : Bool) (values : List Marked) (n : ℕ) → class_rows first values (suc n) ≡ flat_map (λ row. map (λ v. row.0 ++ v.0 ∷ []) (last_values values row.1)) (rows_of first values n)
rows_by_last_place first values n = last_rows values (rows_of first values n)

-- the new ones behind a row that has none, and the rows of one value
pub behind_old : (values : List Marked) (row : Row) → map (λ v. row ++ v.0 ∷ []) (last_values values false) ≡ map (λ v. row ++ v ∷ []) (fresh_of values)
behind_old [] row = refl
behind_old ((v, true) ∷ values) row = ap (λ rs. (row ++ v ∷ []) ∷ rs) (behind_old values row)
behind_old ((v, false) ∷ values) row = behind_old values row

pub of_one : (values : List Marked) → class_rows false values 1 ≡ map (λ v. [] ++ v ∷ []) (fresh_of values)
of_one values = rows_by_last_place false values 0 ∙ append-nil (map (λ (v : Marked). [] ++ v.0 ∷ []) (last_values values false)) ∙ behind_old values []

-- the same behind rows that were found before
pub last_behind : (values : List Marked) (fresh : List Value) (row : Row) (mark : Bool) (front all : List Row) → fresh ≡ fresh_of values → mark ≡ false → all ≡ front ++ map (λ v. row ++ v ∷ []) fresh → all ≡ front ++ map (λ v. row ++ v.0 ∷ []) (last_values values mark)
last_behind values fresh row mark front all same is e =
    e ∙ ap (λ vs. front ++ map (λ v. row ++ v ∷ []) vs) same ∙ ap (λ rs. front ++ rs) (sym (behind_old values row)) ∙ ap (λ m. front ++ map (λ (v : Marked). row ++ v.0 ∷ []) (last_values values m)) (sym is)

pub one_found : (values : List Marked) (fresh : List Value) (row : Row) (front all : List Row) → front ≡ [] → row ≡ [] → fresh ≡ fresh_of values → all ≡ front ++ map (λ v. row ++ v ∷ []) fresh → all ≡ class_rows false values 1
one_found values fresh row front all none empty same e =
    e ∙ ap (λ l. l ++ map (λ v. row ++ v ∷ []) fresh) none ∙ ap (λ r. map (λ v. r ++ v ∷ []) fresh) empty ∙ ap (map (λ v. [] ++ v ∷ [])) same ∙ sym (of_one values)

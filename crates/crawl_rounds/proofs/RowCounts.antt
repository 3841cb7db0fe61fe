-- How many rows a class has.
use Rattle.std.proofs.Common.{◌≡◌, ◌∙◌, ℕ, zero, suc, ◌+◌, ◌-◌, ◌*◌, ◌^◌, ◌≤◌, Bool, true, false, ◌||◌, List, [], ◌∷◌, ◌++◌, length, refl, sym, ap, arith}
use Rattle.std.specs.Prelude.{map}
use Rattle.std.specs.List.{filter}
use Rattle.std.proofs.Math.Nat.{pow-zero, pow-suc, mul-sub, mul-le-mul_left}
use Rattle.std.proofs.lemmas.List.{length-map, length-append}
use Rattle.std.proofs.lemmas.List.Sums.{sum_by-cons}
use Rattle.std.proofs.lemmas.List.Elements.{filter-append}
use Rattle.meaning.specs.Values.{Row}
use Rattle.crawl_rounds.specs.Rows.{Marked, MarkedRow, longer, rows_of, class_rows, fresh_count, row_count}
use Rattle.crawl_rounds.specs.Rounds.{Class, request_of, round_requests, round_count}

abbrev new_rows : List MarkedRow → ℕ
new_rows rows = length (filter (λ (row : MarkedRow). row.1) rows)

pub fresh_within : (values : List Marked) → fresh_count values ≤ length values
fresh_within [] = omega arith
fresh_within ((v, true) ∷ values) = let rest : fresh_count values ≤ length values = fresh_within values in omega arith
fresh_within ((v, false) ∷ values) = let rest : fresh_count values ≤ length values = fresh_within values in omega arith

-- one row, with each value
abbrev one_longer : List Marked → MarkedRow → List MarkedRow
one_longer values row = map (λ v. (row.0 ++ v.0 ∷ [], row.1 || v.1)) values

after_new : (values : List Marked) (row : Row) → new_rows (one_longer values (row, true)) ≡ length values
after_new [] row = refl
after_new (v ∷ values) row = ap suc (after_new values row)

after_old : (values : List Marked) (row : Row) → new_rows (one_longer values (row, false)) ≡ fresh_count values
after_old [] row = refl
after_old ((v, true) ∷ values) row = ap suc (after_old values row)
after_old ((v, false) ∷ values) row = after_old values row

new_joined : (xs ys : List MarkedRow) → new_rows (xs ++ ys) ≡ new_rows xs + new_rows ys
new_joined xs ys = ap length (filter-append (λ (row : MarkedRow). row.1) xs ys) ∙ length-append (filter (λ (row : MarkedRow). row.1) xs) (filter (λ (row : MarkedRow). row.1) ys)

-- the new rows that are one longer: with each value after a new row, and with each new value after another
new_longer : (values : List Marked) (rows : List MarkedRow) → new_rows (longer values rows) + new_rows rows * fresh_count values ≡ new_rows rows * length values + length rows * fresh_count values
new_longer values [] = omega arith
new_longer values ((row, true) ∷ rows) =
    let rest : new_rows (longer values rows) + new_rows rows * fresh_count values ≡ new_rows rows * length values + length rows * fresh_count values = new_longer values rows in
    let here : new_rows (one_longer values (row, true)) ≡ length values = after_new values row in
    let parts : new_rows (one_longer values (row, true) ++ longer values rows) ≡ new_rows (one_longer values (row, true)) + new_rows (longer values rows) = new_joined (one_longer values (row, true)) (longer values rows) in
    omega arith
new_longer values ((row, false) ∷ rows) =
    let rest : new_rows (longer values rows) + new_rows rows * fresh_count values ≡ new_rows rows * length values + length rows * fresh_count values = new_longer values rows in
    let here : new_rows (one_longer values (row, false)) ≡ fresh_count values = after_old values row in
    let parts : new_rows (one_longer values (row, false) ++ longer values rows) ≡ new_rows (one_longer values (row, false)) + new_rows (longer values rows) = new_joined (one_longer values (row, false)) (longer values rows) in
    omega arith

all_longer : (values : List Marked) (rows : List MarkedRow) → length (longer values rows) ≡ length rows * length values
all_longer values [] = omega arith
all_longer values (row ∷ rows) =
    let rest : length (longer values rows) ≡ length rows * length values = all_longer values rows in
    let here : length (one_longer values row) ≡ length values = length-map values (λ (v : Marked). (row.0 ++ v.0 ∷ [], row.1 || v.1)) in
    let parts : length (one_longer values row ++ longer values rows) ≡ length (one_longer values row) + length (longer values rows) = length-append (one_longer values row) (longer values rows) in
    omega arith

all_rows : (first : Bool) (values : List Marked) (n : ℕ) → length (rows_of first values n) ≡ length values ^ n
all_rows first values zero = sym (pow-zero (length values))
all_rows first values (suc n) =
    let rest : length (rows_of first values n) ≡ length values ^ n = all_rows first values n in
    let more : length (longer values (rows_of first values n)) ≡ length (rows_of first values n) * length values = all_longer values (rows_of first values n) in
    more ∙ ap (λ m. m * length values) rest ∙ sym (pow-suc (length values) n)

-- in plain numbers
new_of_known : (now new fresh known all : ℕ) → now + new * fresh ≡ new * known + all * fresh → fresh ≤ known → now ≡ fresh * all + (known - fresh) * new
new_of_known now new fresh known all counted within = let parts : new * (known - fresh) ≡ new * known - new * fresh = mul-sub new known fresh in
    let least : new * fresh ≤ new * known = mul-le-mul_left new within in
    omega arith

new_counted : (first : Bool) (values : List Marked) (n : ℕ) → new_rows (rows_of first values n) ≡ row_count first (length values) (fresh_count values) n
new_counted true values zero = refl
new_counted false values zero = refl
new_counted first values (suc n) =
    new_of_known (new_rows (longer values (rows_of first values n))) (new_rows (rows_of first values n)) (fresh_count values) (length values) (length (rows_of first values n)) (new_longer values (rows_of first values n)) (fresh_within values)
    ∙ ap (λ m. fresh_count values * m + (length values - fresh_count values) * new_rows (rows_of first values n)) (all_rows first values n)
    ∙ ap (λ m. fresh_count values * length values ^ n + (length values - fresh_count values) * m) (new_counted first values n)

pub rows_counted : (first : Bool) (values : List Marked) (n : ℕ) → length (class_rows first values n) ≡ row_count first (length values) (fresh_count values) n
rows_counted first values n = length-map (filter (λ (row : MarkedRow). row.1) (rows_of first values n)) (λ (row : MarkedRow). row.0) ∙ new_counted first values n

-- all requests of a round
pub round_counted : (first : Bool) (values : List Marked) (classes : List Class) → length (round_requests first values classes) ≡ round_count first (length values) (fresh_count values) classes
round_counted first values [] = refl
round_counted first values (class ∷ classes) =
    let here : length (map (request_of class) (class_rows first values (length class.1))) ≡ row_count first (length values) (fresh_count values) (length class.1) = length-map (class_rows first values (length class.1)) (request_of class) ∙ rows_counted first values (length class.1) in
    let rest : length (round_requests first values classes) ≡ round_count first (length values) (fresh_count values) classes = round_counted first values classes in
    let parts : length (map (request_of class) (class_rows first values (length class.1)) ++ round_requests first values classes) ≡ length (map (request_of class) (class_rows first values (length class.1))) + length (round_requests first values classes) = length-append (map (request_of class) (class_rows first values (length class.1))) (round_requests first values classes) in
    let sum : round_count first (length values) (fresh_count values) (class ∷ classes) ≡ row_count first (length values) (fresh_count values) (length class.1) + round_count first (length values) (fresh_count values) classes = sum_by-cons (λ (k : Class). row_count first (length values) (fresh_count values) (length k.1)) class classes in
    omega arith

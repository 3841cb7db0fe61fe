-- The pieces of grammars are lexed as their tokens, and have their forms.
use Rattle.std.proofs.Common.{◌≡◌, ℕ, ◌+◌, ◌^◌, ◌<◌, ◌≤◌, ◌%◌, Bool, true, false, cond, List, [], ◌∷◌, ◌++◌, length, refl, sym, ap, subst, ◌∙◌, append_assoc, arith}
use Rattle.std.specs.Prelude.{◌&&◌, ◌||◌, ◌==◌, not, nat_eq, nat_le, map, codes}
use Rattle.std.specs.List.{AllByRecursion}
use Rattle.std.specs.Fmt.{decimal}
use Rattle.std.proofs.lemmas.Bool.{leb-true, le-leb, lt-leb, eqb-true, ne_eqb}
use Rattle.std.proofs.lemmas.List.{map-append}
use Rattle.std.proofs.lemmas.Fmt.{decimal_by_steps}
use Rattle.lists.proofs.Booleans.{and_true, first_true, neither_true, second_false, first_false}
use Rattle.pq_text.specs.declared.token.Style.TheVariants.{Lines}
use Rattle.pq_text.specs.declared.token.TokenKind.TheVariants.{Word, Quoted, Number, Symbol}
use Rattle.pq_text.specs.declared.scan.Found.TheVariants.{Begins}
use Rattle.pq_text.specs.declared.lexeme.Lexeme.{Lexeme}
use Rattle.pq_text.specs.Tokens.{is_letter, is_digit, is_word_byte, run_from, first, gap_from}
use Rattle.pq_text.specs.Lines.{kind_is_eol}
use Rattle.pq_text.specs.Standing.{stands_for}
use Rattle.pq_text.specs.Lexemes.{comma, kind_names, is_name}
use Rattle.pq_text.specs.Forms.{Slot, Mark, Name, Value, Quote, Takes, further_form, list_form, IsSome}
use Rattle.pq_text.specs.Printing.{is_small, all_small, is_bare, between, printed_name, printed_kind, Stops, follows_name, follows_value}
use Rattle.pq_text.specs.Pieces.{Piece, text_of, piece_lexeme, IsLexed, AreLexed, AreInLine, word_piece, mark_piece, name_piece, value_piece, number_piece, further_pieces, list_pieces}
use Rattle.pq_text.proofs.Printed.{name_lexed, name_stands, value_lexed, value_stands, bare_lexed}
use Rattle.pq_text.proofs.Forms.{Takes-append}
use Rattle.pq_text.proofs.Pieces.{text_of-append}

-- what ends a name, a value, a word and a number: neither a word's byte nor a quote
abbrev pub goes_on : ℕ → Bool
goes_on b = is_word_byte b || (nat_eq b 34 || nat_eq b 39)

clean_word : (rest : List ℕ) → Stops goes_on rest → Stops is_word_byte rest
clean_word [] s = tt
clean_word (b ∷ bs) s = first_false (is_word_byte b) (nat_eq b 34 || nat_eq b 39) s

clean_digit : (rest : List ℕ) → Stops goes_on rest → Stops is_digit rest
clean_digit [] s = tt
clean_digit (b ∷ bs) s = second_false (is_letter b) (is_digit b) (first_false (is_word_byte b) (nat_eq b 34 || nat_eq b 39) s)

clean_name : (rest : List ℕ) → Stops goes_on rest → Stops follows_name rest
clean_name [] s = tt
clean_name (b ∷ bs) s =
    neither_true (is_word_byte b) (nat_eq b 34) (first_false (is_word_byte b) (nat_eq b 34 || nat_eq b 39) s) (first_false (nat_eq b 34) (nat_eq b 39) (second_false (is_word_byte b) (nat_eq b 34 || nat_eq b 39) s))

clean_value : (rest : List ℕ) → Stops goes_on rest → Stops follows_value rest
clean_value [] s = tt
clean_value (b ∷ bs) s = second_false (nat_eq b 34) (nat_eq b 39) (second_false (is_word_byte b) (nat_eq b 34 || nat_eq b 39) s)

-- ---- gaps

and-second : (x y : Bool) → (x && y) ≡ true → y ≡ true
and-second true y e = e
and-second false y e = absurd cc

-- no blank and no comment begins with this byte
far_gap : (n b : ℕ) (bs : List ℕ) → 36 ≤ b → gap_from n Lines false (b ∷ bs) ≡ n
far_gap n b bs far =
    rw (ne_eqb b 35 (λ e. omega (arith, far, e)), ne_eqb b 32 (λ e. omega (arith, far, e)), ne_eqb b 9 (λ e. omega (arith, far, e)), ne_eqb b 13 (λ e. omega (arith, far, e))) refl

far_case : (t : Bool) (b : ℕ) → (nat_le 97 b && nat_le b 122) ≡ t → (t || nat_eq b 95) ≡ true → 36 ≤ b
far_case true b e f = let h = leb-true 97 b (first_true (nat_le 97 b) (nat_le b 122) e) in omega (arith, h)
far_case false b e f = let h = eqb-true b 95 f in omega (arith, h)

small_far : (b : ℕ) → is_small b ≡ true → 36 ≤ b
small_far b small = far_case (nat_le 97 b && nat_le b 122) b refl small

name_gap : (t : Bool) (n b : ℕ) (bs rest : List ℕ) → (is_small b && all_small bs) ≡ t → gap_from n Lines false (cond t (b ∷ bs) (between 34 (b ∷ bs)) ++ rest) ≡ n
name_gap true n b bs rest e = far_gap n b (bs ++ rest) (small_far b (first_true (is_small b) (all_small bs) e))
name_gap false n b bs rest e = refl

-- ---- lexed

pub name_is_lexed : (t : Bool) (name rest : List ℕ) → IsSome name → Stops goes_on rest → IsLexed Lines (name_piece t name) rest
name_is_lexed t [] rest some stops = absurd some
name_is_lexed t (b ∷ bs) rest some stops = record { token = λ n. name_lexed Lines n b bs rest (clean_name rest stops); no_gap = λ n. name_gap (is_small b && all_small bs) n b bs rest refl }

pub value_is_lexed : (t : Bool) (value rest : List ℕ) → Stops goes_on rest → IsLexed Lines (value_piece t value) rest
value_is_lexed t value rest stops = record { token = λ n. value_lexed Lines n value rest (clean_value rest stops); no_gap = λ n. refl }

word_case : (t : Bool) (text rest : List ℕ) → is_bare text ≡ true → Stops goes_on rest → IsLexed Lines (word_piece t text) rest
word_case t [] rest small stops = absurd cc
word_case t (b ∷ bs) rest small stops = record { token = λ n. bare_lexed Lines n b bs rest small (clean_word rest stops); no_gap = λ n. far_gap n b (bs ++ rest) (small_far b (first_true (is_small b) (all_small bs) small)) }

pub word_is_lexed : (t : Bool) (text rest : List ℕ) → is_bare text ≡ true → Stops goes_on rest → IsLexed Lines (word_piece t text) rest
word_is_lexed t text rest small stops = word_case t text rest small stops

no_double : (p q : Bool) → ((p && false) || (q && false)) ≡ false
no_double true true = refl
no_double true false = refl
no_double false true = refl
no_double false false = refl

pub open_is_lexed : (t : Bool) (rest : List ℕ) → IsLexed Lines (mark_piece t (codes "(")) rest
open_is_lexed t rest = record { token = λ n. ap (λ b. cond b (Begins Symbol (n + 2)) (Begins Symbol (n + 1))) (no_double (nat_eq (first rest) 61) (nat_eq (first rest) 62)); no_gap = λ n. refl }

pub close_is_lexed : (t : Bool) (rest : List ℕ) → IsLexed Lines (mark_piece t (codes ")")) rest
close_is_lexed t rest = record { token = λ n. ap (λ b. cond b (Begins Symbol (n + 2)) (Begins Symbol (n + 1))) (no_double (nat_eq (first rest) 61) (nat_eq (first rest) 62)); no_gap = λ n. refl }

pub comma_is_lexed : (t : Bool) (rest : List ℕ) → IsLexed Lines (mark_piece t (codes ",")) rest
comma_is_lexed t rest = record { token = λ n. ap (λ b. cond b (Begins Symbol (n + 2)) (Begins Symbol (n + 1))) (no_double (nat_eq (first rest) 61) (nat_eq (first rest) 62)); no_gap = λ n. refl }

pub dollar_is_lexed : (t : Bool) (rest : List ℕ) → IsLexed Lines (mark_piece t (codes "$")) rest
dollar_is_lexed t rest = record { token = λ n. ap (λ b. cond b (Begins Symbol (n + 2)) (Begins Symbol (n + 1))) (no_double (nat_eq (first rest) 61) (nat_eq (first rest) 62)); no_gap = λ n. refl }

pub arrow_is_lexed : (t : Bool) (rest : List ℕ) → IsLexed Lines (mark_piece t (codes "->")) rest
arrow_is_lexed t rest = record { token = λ n. refl; no_gap = λ n. refl }

-- ---- numbers

pub digit_byte : (n : ℕ) → n < 10 → is_digit (48 + n) ≡ true
digit_byte n low = and_true (nat_le 48 (48 + n)) (nat_le (48 + n) 57) (le-leb 48 (48 + n) (omega arith)) (le-leb (48 + n) 57 (omega arith))

-- one digit or more
abbrev AreDigits : List ℕ → Type 0
AreDigits [] = ⊥
AreDigits (d ∷ ds) = (is_digit d ≡ true) × AllByRecursion (λ b. is_digit b ≡ true) ds

digits_more : (ds : List ℕ) (d : ℕ) → AllByRecursion (λ b. is_digit b ≡ true) ds → is_digit d ≡ true → AllByRecursion (λ b. is_digit b ≡ true) (ds ++ d ∷ [])
digits_more [] d all one = (one, tt)
digits_more (x ∷ xs) d all one = (all.0, digits_more xs d all.1 one)

digits_step : (n : ℕ) (ds : List ℕ) → AreDigits ds → AreDigits (ds ++ (48 + n % 10) ∷ [])
digits_step n [] all = absurd all
digits_step n (d ∷ ds) all = (all.0, digits_more ds (48 + n % 10) all.1 (digit_byte (n % 10) (omega arith)))

decimal_digits : (n : ℕ) → n < 2 ^ 64 → AreDigits (decimal n)
decimal_digits n fits = decimal_by_steps (λ m ds. AreDigits ds) (λ m low. (digit_byte m low, tt)) (λ m ds high all. digits_step m ds all) n fits

run-digits : (n : ℕ) (ds rest : List ℕ) → AllByRecursion (λ b. is_digit b ≡ true) ds → Stops is_digit rest → run_from n is_digit (ds ++ rest) ≡ n + length ds
run-digits n [] [] all stops = omega arith
run-digits n [] (r ∷ rs) all stops = rw stops (omega arith)
run-digits n (d ∷ ds) rest all stops =
    let again = run-digits (n + 1) ds rest all.1 stops in
    rw all.0 (again ∙ omega arith)

below : (a b c : ℕ) → b < a → (nat_le a b && nat_le b c) ≡ false
below a b c low = ap (λ (x : Bool). x && nat_le b c) (lt-leb a b low)

digit_no_letter : (d : ℕ) → is_digit d ≡ true → is_letter d ≡ false
digit_no_letter d e =
    let high = leb-true d 57 (and-second (nat_le 48 d) (nat_le d 57) e) in
    rw (below 97 d 122 (omega (arith, high)), below 65 d 90 (omega (arith, high)), ne_eqb d 95 (λ f. omega (arith, high, f))) refl

number_case : (t : Bool) (digits rest : List ℕ) → AreDigits digits → Stops goes_on rest → IsLexed Lines (record { spaced = t; kind = Number; bytes = digits }) rest
number_case t [] rest all stops = absurd all
number_case t (d ∷ ds) rest all stops =
    let low = leb-true 48 d (first_true (nat_le 48 d) (nat_le d 57) all.0) in
    record {
      token = λ n.
          let k : n + 1 + length ds ≡ n + length (d ∷ ds) = omega arith in
          let r = run-digits (n + 1) ds rest all.1 (clean_digit rest stops) in
          rw (digit_no_letter d all.0, all.0, r, k) refl;
      no_gap = λ n. far_gap n d (ds ++ rest) (omega (arith, low));
    }

pub number_is_lexed : (t : Bool) (n : ℕ) (rest : List ℕ) → n < 2 ^ 64 → Stops goes_on rest → IsLexed Lines (number_piece t n) rest
number_is_lexed t n rest fits stops = number_case t (decimal n) rest (decimal_digits n fits) stops

-- ---- one behind another

pub AreLexed-append : (xs ys : List Piece) (rest : List ℕ) → AreLexed Lines xs (text_of ys ++ rest) → AreLexed Lines ys rest → AreLexed Lines (xs ++ ys) rest
AreLexed-append [] ys rest front behind = behind
AreLexed-append (x ∷ xs) ys rest front behind =
    let same : text_of xs ++ (text_of ys ++ rest) ≡ text_of (xs ++ ys) ++ rest = sym (append_assoc (text_of xs) (text_of ys) rest) ∙ ap (λ (t : List ℕ). t ++ rest) (sym (text_of-append xs ys)) in
    (subst (λ (t : List ℕ). IsLexed Lines x t) same front.0, AreLexed-append xs ys rest front.1 behind)

pub AreInLine-append : (xs ys : List Piece) → AreInLine xs → AreInLine ys → AreInLine (xs ++ ys)
AreInLine-append [] ys front behind = behind
AreInLine-append (x ∷ xs) ys front behind = (front.0, AreInLine-append xs ys front.1 behind)

-- the lexemes of the pieces have the form, whatever follows
abbrev pub Reads : List Piece → List Slot → Type 0
Reads xs slots = (rest : List Lexeme) → Takes (map piece_lexeme xs ++ rest) slots rest

pub Reads-append : (xs ys : List Piece) (a b : List Slot) → Reads xs a → Reads ys b → Reads (xs ++ ys) (a ++ b)
Reads-append xs ys a b p q = λ rest.
    let same : map piece_lexeme xs ++ (map piece_lexeme ys ++ rest) ≡ map piece_lexeme (xs ++ ys) ++ rest =
    sym (append_assoc (map piece_lexeme xs) (map piece_lexeme ys) rest) ∙ ap (λ (ls : List Lexeme). ls ++ rest) (sym (map-append piece_lexeme xs ys)) in
    subst (λ (ls : List Lexeme). Takes ls (a ++ b) rest) same
    (Takes-append (map piece_lexeme xs ++ (map piece_lexeme ys ++ rest)) a b (map piece_lexeme ys ++ rest) rest (p (map piece_lexeme ys ++ rest)) (q rest))

-- ---- names and values

names_are : (t : Bool) → kind_names (cond t Word Quoted) ≡ true
names_are true = refl
names_are false = refl

some_length : (xs : List ℕ) → IsSome xs → not (length xs == 0) ≡ true
some_length [] some = absurd some
some_length (x ∷ xs) some = ap not (ne_eqb (length (x ∷ xs)) 0 (λ e. omega (arith, e)))

pub name_fits : (t : Bool) (name : List ℕ) → IsSome name → (is_name (piece_lexeme (name_piece t name)) ≡ true) × ((piece_lexeme (name_piece t name)).text ≡ name)
name_fits t name some =
    let stands = name_stands name in (
      and_true (kind_names (printed_kind name)) (not (length (stands_for (printed_kind name) (printed_name name)) == 0)) (names_are (is_bare name))
          (ap (λ (xs : List ℕ). not (length xs == 0)) stands ∙ some_length name some),
      stands,
    )

pub name_reads : (t : Bool) (name : List ℕ) → IsSome name → Reads (name_piece t name ∷ []) (Name name ∷ [])
name_reads t name some = λ rest. (name_fits t name some, refl)

pub value_reads : (t : Bool) (value : List ℕ) → Reads (value_piece t value ∷ []) (Value value ∷ [])
value_reads t value = λ rest. ((refl, value_stands value), refl)

pub quote_reads : (t : Bool) (value : List ℕ) → Reads (value_piece t value ∷ []) (Quote value ∷ [])
quote_reads t value = λ rest. ((refl, value_stands value), refl)

kind_in_line : (t : Bool) → kind_is_eol (cond t Word Quoted) ≡ false
kind_in_line true = refl
kind_in_line false = refl

pub name_in_line : (t : Bool) (name : List ℕ) → AreInLine (name_piece t name ∷ [])
name_in_line t name = (kind_in_line (is_bare name), tt)

-- ---- lists

-- a member is printed as pieces that are lexed where nothing goes on behind them, and that have its form
pub record IsPrinted {X : Type 0} (item : Bool → X → List Piece) (slots : X → List Slot) (x : X) : Type 0 where
  pub lexed : (t : Bool) (rest : List ℕ) → Stops goes_on rest → AreLexed Lines (item t x) rest
  pub reads : (t : Bool) → Reads (item t x) (slots x)
  pub in_line : (t : Bool) → AreInLine (item t x)

further_stops : {X : Type 0} (item : Bool → X → List Piece) (xs : List X) (rest : List ℕ) → Stops goes_on rest → Stops goes_on (text_of (further_pieces item xs) ++ rest)
further_stops item [] rest stops = stops
further_stops item (x ∷ xs) rest stops = refl

further_lexed : {X : Type 0} (item : Bool → X → List Piece) (slots : X → List Slot) (xs : List X) (rest : List ℕ) → AllByRecursion (IsPrinted item slots) xs → Stops goes_on rest → AreLexed Lines (further_pieces item xs) rest
further_lexed item slots [] rest all stops = tt
further_lexed item slots (x ∷ xs) rest all stops = (
  comma_is_lexed false (text_of (item true x ++ further_pieces item xs) ++ rest),
  AreLexed-append (item true x) (further_pieces item xs) rest (all.0.lexed true (text_of (further_pieces item xs) ++ rest) (further_stops item xs rest stops)) (further_lexed item slots xs rest all.1 stops),
)

pub list_lexed : {X : Type 0} (item : Bool → X → List Piece) (slots : X → List Slot) (t : Bool) (xs : List X) (rest : List ℕ) → AllByRecursion (IsPrinted item slots) xs → Stops goes_on rest → AreLexed Lines (list_pieces item t xs) rest
list_lexed item slots t [] rest all stops = tt
list_lexed item slots t (x ∷ xs) rest all stops =
    AreLexed-append (item t x) (further_pieces item xs) rest (all.0.lexed t (text_of (further_pieces item xs) ++ rest) (further_stops item xs rest stops)) (further_lexed item slots xs rest all.1 stops)

comma_reads : Reads (mark_piece false (codes ",") ∷ []) (Mark comma ∷ [])
comma_reads = λ rest. (refl, refl)

further_reads : {X : Type 0} (item : Bool → X → List Piece) (slots : X → List Slot) (xs : List X) → AllByRecursion (IsPrinted item slots) xs → Reads (further_pieces item xs) (further_form slots xs)
further_reads item slots [] all = λ rest. refl
further_reads item slots (x ∷ xs) all =
    Reads-append (mark_piece false (codes ",") ∷ []) (item true x ++ further_pieces item xs) (Mark comma ∷ []) (slots x ++ further_form slots xs) comma_reads
    (Reads-append (item true x) (further_pieces item xs) (slots x) (further_form slots xs) (all.0.reads true) (further_reads item slots xs all.1))

pub list_reads : {X : Type 0} (item : Bool → X → List Piece) (slots : X → List Slot) (t : Bool) (xs : List X) → AllByRecursion (IsPrinted item slots) xs → Reads (list_pieces item t xs) (list_form slots xs)
list_reads item slots t [] all = λ rest. refl
list_reads item slots t (x ∷ xs) all = Reads-append (item t x) (further_pieces item xs) (slots x) (further_form slots xs) (all.0.reads t) (further_reads item slots xs all.1)

further_in_line : {X : Type 0} (item : Bool → X → List Piece) (slots : X → List Slot) (xs : List X) → AllByRecursion (IsPrinted item slots) xs → AreInLine (further_pieces item xs)
further_in_line item slots [] all = tt
further_in_line item slots (x ∷ xs) all = (refl, AreInLine-append (item true x) (further_pieces item xs) (all.0.in_line true) (further_in_line item slots xs all.1))

pub list_in_line : {X : Type 0} (item : Bool → X → List Piece) (slots : X → List Slot) (t : Bool) (xs : List X) → AllByRecursion (IsPrinted item slots) xs → AreInLine (list_pieces item t xs)
list_in_line item slots t [] all = tt
list_in_line item slots t (x ∷ xs) all = AreInLine-append (item t x) (further_pieces item xs) (all.0.in_line t) (further_in_line item slots xs all.1)

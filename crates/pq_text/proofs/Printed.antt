-- A printed name and a printed value are lexed as themselves.
use Rattle.std.proofs.Common.{◌≡◌, ℕ, ◌+◌, ◌≤◌, Bool, true, false, cond, List, [], ◌∷◌, ◌++◌, length, Option, None, Some, refl, ap, ◌∙◌, append_assoc, arith}
use Rattle.std.specs.Prelude.{◌&&◌, ◌||◌, nat_eq, nat_le, map}
use Rattle.std.proofs.lemmas.Bool.{eqb-true, leb-true, le-leb, lt-leb, ne_eqb}
use Rattle.std.proofs.lemmas.List.{length-append}
use Rattle.lists.proofs.Booleans.{both_true, second_false, first_false}
use Rattle.pq_text.specs.declared.token.Style.{Style}
use Rattle.pq_text.specs.declared.token.TokenKind.TheVariants.{Word, Quoted, Text}
use Rattle.pq_text.specs.declared.scan.Found.TheVariants.{Begins}
use Rattle.pq_text.specs.Tokens.{is_letter, is_digit, is_word_byte, run_from, end_from, text_found, quoted_found, token_at}
use Rattle.pq_text.specs.Printing.{is_small, all_small, is_bare, doubled, between, printed_name, printed_value, printed_kind, Stops, follows_name, follows_value}
use Rattle.pq_text.specs.Standing.{single, lowered, stands_for}

-- ---- quoted texts

end-step : (quote n : ℕ) (last : Option ℕ) (t : Bool) (b : ℕ) (bs rest : List ℕ) → nat_eq quote quote ≡ true → nat_eq b quote ≡ t →
    end_from (n + 1 + 1) (Some (n + 1)) false quote (doubled quote bs ++ quote ∷ rest) ≡ Some (n + 1 + 1 + length (doubled quote bs) + 1) →
    end_from (n + 1) last false quote (doubled quote bs ++ quote ∷ rest) ≡ Some (n + 1 + length (doubled quote bs) + 1) →
    end_from n last false quote (cond t (quote ∷ quote ∷ doubled quote bs) (b ∷ doubled quote bs) ++ quote ∷ rest) ≡ Some (n + length (cond t (quote ∷ quote ∷ doubled quote bs) (b ∷ doubled quote bs)) + 1)
end-step quote n last true b bs rest same e two one = rw (same, end_from, same) (two ∙ ap Some (omega arith))
end-step quote n last false b bs rest same e two one = rw (e, end_from) (one ∙ ap Some (omega arith))

end-doubled : (quote n : ℕ) (last : Option ℕ) (bytes rest : List ℕ) → nat_eq quote quote ≡ true → Stops (λ b. nat_eq b quote) rest →
    end_from n last false quote (doubled quote bytes ++ quote ∷ rest) ≡ Some (n + length (doubled quote bytes) + 1)
end-doubled quote n last [] [] same stops = rw (same, end_from) (ap Some (omega arith))
end-doubled quote n last [] (r ∷ rs) same stops = rw (same, stops, end_from) (ap Some (omega arith))
end-doubled quote n last (b ∷ bs) rest same stops = end-step quote n last (nat_eq b quote) b bs rest same refl (end-doubled quote (n + 1 + 1) (Some (n + 1)) bs rest same stops) (end-doubled quote (n + 1) last bs rest same stops)

single-step : (quote : ℕ) (t : Bool) (b : ℕ) (bs : List ℕ) → nat_eq quote quote ≡ true → nat_eq b quote ≡ t → single quote false (doubled quote bs ++ quote ∷ []) ≡ bs →
    single quote false (cond t (quote ∷ quote ∷ doubled quote bs) (b ∷ doubled quote bs) ++ quote ∷ []) ≡ b ∷ bs
single-step quote true b bs same e again = let k : b ≡ quote = eqb-true b quote e in rw (same, again, k) refl
single-step quote false b bs same e again = rw (e, again) refl

single-doubled : (quote : ℕ) (bytes : List ℕ) → nat_eq quote quote ≡ true → single quote false (doubled quote bytes ++ quote ∷ []) ≡ bytes
single-doubled quote [] same = rw same refl
single-doubled quote (b ∷ bs) same = single-step quote (nat_eq b quote) b bs same refl (single-doubled quote bs same)

between-regroup : (quote : ℕ) (bytes rest : List ℕ) → between quote bytes ++ rest ≡ quote ∷ (doubled quote bytes ++ quote ∷ rest)
between-regroup quote bytes rest = ap (λ (x : List ℕ). quote ∷ x) (append_assoc (doubled quote bytes) (quote ∷ []) rest)

between-length : (quote : ℕ) (bytes : List ℕ) → length (between quote bytes) ≡ length (doubled quote bytes) + 2
between-length quote bytes = omega (arith, length-append (doubled quote bytes) (quote ∷ []))

-- A printed value is one Text that stands for the value, whatever follows but another quote.
pub value_lexed : (style : Style) (n : ℕ) (value rest : List ℕ) → Stops follows_value rest → token_at style n (printed_value value ++ rest) ≡ Begins Text (n + length (printed_value value))
value_lexed style n value rest stops =
    let closed = end-doubled 39 (n + 1) None value rest refl stops in
    let len = between-length 39 value in
    let k : n + 1 + length (doubled 39 value) + 1 ≡ n + length (printed_value value) = omega arith in
    ap (token_at style n) (between-regroup 39 value rest) ∙ ap text_found closed ∙ ap (λ (m : ℕ). Begins Text m) k

pub value_stands : (value : List ℕ) → stands_for Text (printed_value value) ≡ value
value_stands value = single-doubled 39 value refl

-- ---- names

small_letter : (x u s : Bool) → (x || s) ≡ true → (x || (u || s)) ≡ true
small_letter true u s e = refl
small_letter false true s e = refl
small_letter false false s e = e

small_word : (x u s d : Bool) → ((x || s) || d) ≡ true → ((x || (u || s)) || d) ≡ true
small_word true u s d e = refl
small_word false true s d e = refl
small_word false false s d e = e

run-small : (n : ℕ) (bs rest : List ℕ) → all_small bs ≡ true → Stops is_word_byte rest → run_from n is_word_byte (bs ++ rest) ≡ n + length bs
run-small n [] [] small stops = omega arith
run-small n [] (r ∷ rs) small stops = rw stops (omega arith)
run-small n (b ∷ bs) rest small stops =
    let g = both_true (is_small b || is_digit b) (all_small bs) small in
    let w : is_word_byte b ≡ true = small_word (nat_le 97 b && nat_le b 122) (nat_le 65 b && nat_le b 90) (nat_eq b 95) (is_digit b) g.0 in
    let again = run-small (n + 1) bs rest g.1 stops in
    rw w (again ∙ omega arith)

not_small : (b : ℕ) → 65 ≤ b → b ≤ 90 → (is_small b || is_digit b) ≡ true → ⊥
not_small b low high e =
    let f : nat_le 97 b ≡ false = lt-leb 97 b (omega arith) in
    let g : nat_eq b 95 ≡ false = ne_eqb b 95 (λ h. omega (arith, h)) in
    let h : nat_le b 57 ≡ false = lt-leb b 57 (omega arith) in
    let k : nat_le 48 b ≡ true = le-leb 48 b (omega arith) in
    let r = rw (f, g, k, h) at e in
    cc

capital_case : (x y : Bool) (b : ℕ) → (is_small b || is_digit b) ≡ true → nat_le 65 b ≡ x → nat_le b 90 ≡ y → (x && y) ≡ false
capital_case false y b e p q = refl
capital_case true false b e p q = refl
capital_case true true b e p q = absurd (not_small b (leb-true 65 b p) (leb-true b 90 q) e)

no_capital : (b : ℕ) → (is_small b || is_digit b) ≡ true → (nat_le 65 b && nat_le b 90) ≡ false
no_capital b e = capital_case (nat_le 65 b) (nat_le b 90) b e refl refl

pub lowered-small : (bs : List ℕ) → all_small bs ≡ true → map lowered bs ≡ bs
lowered-small [] e = refl
lowered-small (b ∷ bs) e =
    let g = both_true (is_small b || is_digit b) (all_small bs) e in
    let one : lowered b ≡ b = rw (no_capital b g.0) refl in
    let more = lowered-small bs g.1 in
    cc

stops-word : (rest : List ℕ) → Stops follows_name rest → Stops is_word_byte rest
stops-word [] h = tt
stops-word (b ∷ bs) h = first_false (is_word_byte b) (nat_eq b 34) h

stops-quote : (rest : List ℕ) → Stops follows_name rest → Stops (λ b. nat_eq b 34) rest
stops-quote [] h = tt
stops-quote (b ∷ bs) h = second_false (is_word_byte b) (nat_eq b 34) h

pub bare_lexed : (style : Style) (n b : ℕ) (bs rest : List ℕ) → (is_small b && all_small bs) ≡ true → Stops is_word_byte rest → token_at style n ((b ∷ bs) ++ rest) ≡ Begins Word (n + length (b ∷ bs))
bare_lexed style n b bs rest small stops =
    let g = both_true (is_small b) (all_small bs) small in
    let l : is_letter b ≡ true = small_letter (nat_le 97 b && nat_le b 122) (nat_le 65 b && nat_le b 90) (nat_eq b 95) g.0 in
    let r = run-small (n + 1) bs rest g.1 stops in
    let k : n + 1 + length bs ≡ n + length (b ∷ bs) = omega arith in
    rw (l, r, k) refl

cond-some : (t : Bool) (quote b : ℕ) (xs : List ℕ) → 1 ≤ length (cond t (quote ∷ quote ∷ xs) (b ∷ xs))
cond-some true quote b xs = omega arith
cond-some false quote b xs = omega arith

doubled-some : (quote b : ℕ) (bs : List ℕ) → 1 ≤ length (doubled quote (b ∷ bs))
doubled-some quote b bs = cond-some (nat_eq b quote) quote b (doubled quote bs)

quoted_lexed : (style : Style) (n b : ℕ) (bs rest : List ℕ) → Stops (λ c. nat_eq c 34) rest → token_at style n (between 34 (b ∷ bs) ++ rest) ≡ Begins Quoted (n + length (between 34 (b ∷ bs)))
quoted_lexed style n b bs rest stops =
    let some = doubled-some 34 b bs in
    let closed = end-doubled 34 (n + 1) None (b ∷ bs) rest refl stops in
    let len = between-length 34 (b ∷ bs) in
    let e = n + 1 + length (doubled 34 (b ∷ bs)) + 1 in
    let k : e ≡ n + length (between 34 (b ∷ bs)) = omega arith in
    let far : nat_eq e (n + 2) ≡ false = ne_eqb e (n + 2) (λ h. omega (arith, h)) in
    let found : quoted_found n (Some e) ≡ Begins Quoted e = rw far refl in
    ap (token_at style n) (between-regroup 34 (b ∷ bs) rest) ∙ ap (quoted_found n) closed ∙ found ∙ ap (λ (m : ℕ). Begins Quoted m) k

name_case : (t : Bool) (style : Style) (n b : ℕ) (bs rest : List ℕ) → (is_small b && all_small bs) ≡ t → Stops follows_name rest →
    token_at style n (cond t (b ∷ bs) (between 34 (b ∷ bs)) ++ rest) ≡ Begins (cond t Word Quoted) (n + length (cond t (b ∷ bs) (between 34 (b ∷ bs))))
name_case true style n b bs rest small stops = bare_lexed style n b bs rest small (stops-word rest stops)
name_case false style n b bs rest small stops = quoted_lexed style n b bs rest (stops-quote rest stops)

-- A printed name is one token, a Word or a Quoted, whatever follows but a word byte or a quote.
pub name_lexed : (style : Style) (n b : ℕ) (bs rest : List ℕ) → Stops follows_name rest → token_at style n (printed_name (b ∷ bs) ++ rest) ≡ Begins (printed_kind (b ∷ bs)) (n + length (printed_name (b ∷ bs)))
name_lexed style n b bs rest stops = name_case (is_small b && all_small bs) style n b bs rest refl stops

stands_case : (t : Bool) (name : List ℕ) → is_bare name ≡ t → stands_for (cond t Word Quoted) (cond t name (between 34 name)) ≡ name
stands_case true [] e = absurd cc
stands_case true (b ∷ bs) e =
    let g = both_true (is_small b) (all_small bs) e in
    let all : all_small (b ∷ bs) ≡ true = rw (g.0, g.1) refl in
    lowered-small (b ∷ bs) all
stands_case false name e = single-doubled 34 name refl

-- That token stands for the name.
pub name_stands : (name : List ℕ) → stands_for (printed_kind name) (printed_name name) ≡ name
name_stands name = stands_case (is_bare name) name refl

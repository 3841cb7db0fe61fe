-- A token begins and ends with an ASCII byte, and the spans of tokens are in order.
use Rattle.std.proofs.Common.{◌≡◌, ℕ, ◌+◌, ◌-◌, ◌<◌, ◌≤◌, Bool, true, false, cond, List, [], ◌∷◌, ◌++◌, length, drop, get_or, Option, None, Some, refl, sym, ap, subst, ◌∙◌, arith}
use Rattle.std.specs.Prelude.{◌&&◌, ◌||◌, nat_eq, nat_le, slice_index, IfSome}
use Rattle.std.specs.List.{AllByRecursion}
use Rattle.std.proofs.lemmas.Bool.{eqb-true, leb-true, leb-false, lt-leb, ne_eqb}
use Rattle.std.proofs.lemmas.List.{length-drop, drop_more}
use Rattle.lists.proofs.Booleans.{and_false}
use Rattle.pq_text.specs.declared.token.Style.{Style}
use Rattle.pq_text.specs.declared.token.Style.TheVariants.{Lines, Sql}
use Rattle.pq_text.specs.declared.token.TokenKind.{TokenKind}
use Rattle.pq_text.specs.declared.token.TokenKind.TheVariants.{Word, Quoted, Text, Number, Symbol, Eol}
use Rattle.pq_text.specs.declared.token.Token.{Token}
use Rattle.pq_text.specs.declared.scan.Found.{Found}
use Rattle.pq_text.specs.declared.scan.Found.TheVariants.{Begins, Bad}
use Rattle.pq_text.specs.Tokens.{is_letter, is_digit, is_word_byte, run_from, end_from, first, is_double, is_single, symbol_end, text_found, quoted_found, feed_found, token_at}
use Rattle.pq_text.specs.Spans.{InOrder}

drop_next : (text : List ℕ) (n b : ℕ) (bs : List ℕ) → drop n text ≡ b ∷ bs → (get_or text n 0 ≡ b) × (drop (n + 1) text ≡ bs)
drop_next text n b bs here =
    let len : n < length text = omega (arith, length-drop n text, ap length here) in
    let more = drop_more text n 0 len in
    (cc, cc)

one_back : (text : List ℕ) (n b : ℕ) (bs : List ℕ) → drop n text ≡ b ∷ bs → slice_index text (n + 1 - 1) ≡ b
one_back text n b bs here =
    let k : n + 1 - 1 ≡ n = omega arith in
    rw k (drop_next text n b bs here).0

-- ---- the last byte is below 128

run_step : (text : List ℕ) (n : ℕ) (t : Bool) (m : ℕ) → (t ≡ true → slice_index text (m - 1) < 128) → slice_index text (n - 1) < 128 → slice_index text (cond t m n - 1) < 128
run_step text n true m go here = go refl
run_step text n false m go here = here

run_closes : (text : List ℕ) (p : ℕ → Bool) → ((b : ℕ) → p b ≡ true → b < 128) → (bs : List ℕ) (n : ℕ) → drop n text ≡ bs → slice_index text (n - 1) < 128 → slice_index text (run_from n p bs - 1) < 128
run_closes text p low [] n here before = before
run_closes text p low (b ∷ bs) n here before =
    run_step text n (p b) (run_from (n + 1) p bs)
    (λ e. run_closes text p low bs (n + 1) (drop_next text n b bs here).1 (subst (λ (c : ℕ). c < 128) (sym (one_back text n b bs here)) (low b e))) before

abbrev ClosedBy : List ℕ → ℕ → ℕ → Type 0
ClosedBy text quote e = slice_index text (e - 1) ≡ quote

end_step : (text : List ℕ) (quote n : ℕ) (t : Bool) (more : Option ℕ) → (t ≡ true → IfSome more (ClosedBy text quote)) → ClosedBy text quote n → IfSome (cond t more (Some n)) (ClosedBy text quote)
end_step text quote n true more go here = go refl
end_step text quote n false more go here = here

end_closes : (text : List ℕ) (quote : ℕ) (bs : List ℕ) (n : ℕ) (last : Option ℕ) (behind : Bool) → drop n text ≡ bs → IfSome last (ClosedBy text quote) → (behind ≡ true → ClosedBy text quote n) →
    IfSome (end_from n last behind quote bs) (ClosedBy text quote)
end_closes text quote [] n last false here so_far before = so_far
end_closes text quote [] n last true here so_far before = before refl
end_closes text quote (b ∷ bs) n last false here so_far before =
    end_closes text quote bs (n + 1) last (nat_eq b quote) (drop_next text n b bs here).1 so_far (λ e. one_back text n b bs here ∙ eqb-true b quote e)
end_closes text quote (b ∷ bs) n last true here so_far before =
    end_step text quote n (nat_eq b quote) (end_from (n + 1) (Some n) false quote bs)
    (λ e. end_closes text quote bs (n + 1) (Some n) false (drop_next text n b bs here).1 (before refl) (λ f. absurd cc)) (before refl)

-- ---- tests of bytes

and-second : (x y : Bool) → y ≡ false → (x && y) ≡ false
and-second x y e = ap (λ (z : Bool). x && z) e ∙ and_false x

high_not : (b c : ℕ) → 128 ≤ b → c < 128 → nat_eq b c ≡ false
high_not b c high low = ne_eqb b c (λ e. omega (arith, e))

high_over : (b c d : ℕ) → 128 ≤ b → d < 128 → (nat_le c b && nat_le b d) ≡ false
high_over b c d high low = and-second (nat_le c b) (nat_le b d) (lt-leb b d (omega arith))

letter_high : (b : ℕ) → 128 ≤ b → is_letter b ≡ false
letter_high b high = rw (high_over b 97 122 high (omega arith), high_over b 65 90 high (omega arith), high_not b 95 high (omega arith)) refl

digit_high : (b : ℕ) → 128 ≤ b → is_digit b ≡ false
digit_high b high = high_over b 48 57 high (omega arith)

double_high : (b c : ℕ) → 128 ≤ b → is_double b c ≡ false
double_high b c high =
    rw (high_not b 60 high (omega arith), high_not b 62 high (omega arith), high_not b 33 high (omega arith), high_not b 45 high (omega arith), and_false (nat_eq c 61), and_false (nat_eq c 62)) refl

single_high : (b : ℕ) → 128 ≤ b → is_single b ≡ false
single_high b high = rw (high_over b 40 47 high (omega arith), high_over b 58 62 high (omega arith), high_not b 124 high (omega arith), high_not b 36 high (omega arith)) refl

high_bad : (style : Style) (n b : ℕ) (bs : List ℕ) → 128 ≤ b → token_at style n (b ∷ bs) ≡ Bad
high_bad style n b bs high =
    rw (letter_high b high, digit_high b high, high_not b 39 high (omega arith), high_not b 34 high (omega arith), high_not b 10 high (omega arith), double_high b (first bs) high, single_high b high) refl

low_case : (style : Style) (n b : ℕ) (bs : List ℕ) (k : TokenKind) (e : ℕ) (t : Bool) → nat_le 128 b ≡ t → token_at style n (b ∷ bs) ≡ Begins k e → b < 128
low_case style n b bs k e true high found = let bad = high_bad style n b bs (leb-true 128 b high) in absurd cc
low_case style n b bs k e false high found = leb-false 128 b high

low_if : (p : ℕ → Bool) → ((b : ℕ) → 128 ≤ b → p b ≡ false) → (b : ℕ) (t : Bool) → nat_le 128 b ≡ t → p b ≡ true → b < 128
low_if p high b true e holds = let no = high b (leb-true 128 b e) in absurd cc
low_if p high b false e holds = leb-false 128 b e

word_high : (b : ℕ) → 128 ≤ b → is_word_byte b ≡ false
word_high b high = rw (letter_high b high, digit_high b high) refl

double_low : (b c : ℕ) (x y p q : Bool) → nat_eq c 61 ≡ x → nat_eq c 62 ≡ y → ((x && p) || (y && q)) ≡ true → c < 128
double_low b c true y p q e f h = let k = eqb-true c 61 e in omega arith
double_low b c false true p q e f h = let k = eqb-true c 62 f in omega arith
double_low b c false false p q e f h = absurd cc

-- ---- what stands at a place

begin_end : (k l : TokenKind) (m e : ℕ) → Begins k m ≡ Begins l e → m ≡ e
begin_end k l m e h = cc

abbrev ClosesLow : List ℕ → ℕ → Type 0
ClosesLow text e = slice_index text (e - 1) < 128

closes_at : (text : List ℕ) (k l : TokenKind) (m e : ℕ) → ClosesLow text m → Begins k m ≡ Begins l e → ClosesLow text e
closes_at text k l m e low h = subst (ClosesLow text) (begin_end k l m e h) low

second_low : (text : List ℕ) (n b : ℕ) (bs : List ℕ) → drop n text ≡ b ∷ bs → is_double b (first bs) ≡ true → ClosesLow text (n + 2)
second_low text n b [] here double = absurd cc
second_low text n b (c ∷ cs) here double =
    let next = one_back text (n + 1) c cs (drop_next text n b (c ∷ cs) here).1 in
    let k : n + 2 ≡ n + 1 + 1 = omega arith in
    let low : c < 128 = double_low b c (nat_eq c 61) (nat_eq c 62) (nat_eq b 60 || (nat_eq b 62 || nat_eq b 33)) (nat_eq b 60 || nat_eq b 45) refl refl double in
    subst (ClosesLow text) (sym k) (subst (λ (x : ℕ). x < 128) (sym next) low)

symbol_case : (text : List ℕ) (n : ℕ) (x y : Bool) (k : TokenKind) (e : ℕ) → (x ≡ true → ClosesLow text (n + 2)) → ClosesLow text (n + 1) → cond x (Begins Symbol (n + 2)) (cond y (Begins Symbol (n + 1)) Bad) ≡ Begins k e → ClosesLow text e
symbol_case text n true y k e two one h = closes_at text Symbol k (n + 2) e (two refl) h
symbol_case text n false true k e two one h = closes_at text Symbol k (n + 1) e one h
symbol_case text n false false k e two one h = absurd cc

text_case : (text : List ℕ) (o : Option ℕ) (k : TokenKind) (e : ℕ) → IfSome o (ClosesLow text) → text_found o ≡ Begins k e → ClosesLow text e
text_case text None k e low h = absurd cc
text_case text (Some m) k e low h = closes_at text Text k m e low h

quoted_step : (text : List ℕ) (m : ℕ) (t : Bool) (k : TokenKind) (e : ℕ) → ClosesLow text m → cond t Bad (Begins Quoted m) ≡ Begins k e → ClosesLow text e
quoted_step text m true k e low h = absurd cc
quoted_step text m false k e low h = closes_at text Quoted k m e low h

quoted_case : (text : List ℕ) (n : ℕ) (o : Option ℕ) (k : TokenKind) (e : ℕ) → IfSome o (ClosesLow text) → quoted_found n o ≡ Begins k e → ClosesLow text e
quoted_case text n None k e low h = absurd cc
quoted_case text n (Some m) k e low h = quoted_step text m (nat_eq m (n + 2)) k e low h

feed_case : (text : List ℕ) (style : Style) (n : ℕ) (k : TokenKind) (e : ℕ) → ClosesLow text (n + 1) → feed_found style n ≡ Begins k e → ClosesLow text e
feed_case text Lines n k e low h = closes_at text Eol k (n + 1) e low h
feed_case text Sql n k e low h = absurd cc

closed_low : (text : List ℕ) (quote : ℕ) (o : Option ℕ) → quote < 128 → IfSome o (ClosedBy text quote) → IfSome o (ClosesLow text)
closed_low text quote None low closed = tt
closed_low text quote (Some m) low closed = subst (λ (x : ℕ). x < 128) (sym closed) low

-- what each of the tests in turn leads to
ends_case : (text : List ℕ) (style : Style) (n word_end digits_end : ℕ) (texted named : Option ℕ) (mark : Found) (l d q p f : Bool) (k : TokenKind) (e : ℕ) →
    ClosesLow text word_end → ClosesLow text digits_end → IfSome texted (ClosesLow text) → IfSome named (ClosesLow text) → ClosesLow text (n + 1) → (mark ≡ Begins k e → ClosesLow text e) →
    cond l (Begins Word word_end) (cond d (Begins Number digits_end) (cond q (text_found texted) (cond p (quoted_found n named) (cond f (feed_found style n) mark)))) ≡ Begins k e → ClosesLow text e
ends_case text style n w g texted named mark true d q p f k e word digits t m one sym_low h = closes_at text Word k w e word h
ends_case text style n w g texted named mark false true q p f k e word digits t m one sym_low h = closes_at text Number k g e digits h
ends_case text style n w g texted named mark false false true p f k e word digits t m one sym_low h = text_case text texted k e t h
ends_case text style n w g texted named mark false false false true f k e word digits t m one sym_low h = quoted_case text n named k e m h
ends_case text style n w g texted named mark false false false false true k e word digits t m one sym_low h = feed_case text style n k e one h
ends_case text style n w g texted named mark false false false false false k e word digits t m one sym_low h = sym_low h

ends_low : (style : Style) (text : List ℕ) (n b : ℕ) (bs : List ℕ) (k : TokenKind) (e : ℕ) → drop n text ≡ b ∷ bs → token_at style n (b ∷ bs) ≡ Begins k e → ClosesLow text e
ends_low style text n b bs k e here found =
    let next = (drop_next text n b bs here).1 in
    let low : b < 128 = low_case style n b bs k e (nat_le 128 b) refl found in
    let one : ClosesLow text (n + 1) = subst (λ (x : ℕ). x < 128) (sym (one_back text n b bs here)) low in
    let word = run_closes text is_word_byte (λ c holds. low_if is_word_byte word_high c (nat_le 128 c) refl holds) bs (n + 1) next one in
    let digits = run_closes text is_digit (λ c holds. low_if is_digit digit_high c (nat_le 128 c) refl holds) bs (n + 1) next one in
    let t = closed_low text 39 (end_from (n + 1) None false 39 bs) (omega arith) (end_closes text 39 bs (n + 1) None false next tt (λ f. absurd cc)) in
    let m = closed_low text 34 (end_from (n + 1) None false 34 bs) (omega arith) (end_closes text 34 bs (n + 1) None false next tt (λ f. absurd cc)) in
    ends_case text style n (run_from (n + 1) is_word_byte bs) (run_from (n + 1) is_digit bs) (end_from (n + 1) None false 39 bs) (end_from (n + 1) None false 34 bs) (symbol_end n b (first bs))
    (is_letter b) (is_digit b) (nat_eq b 39) (nat_eq b 34) (nat_eq b 10) k e word digits t m one
    (symbol_case text n (is_double b (first bs)) (is_single b) k e (second_low text n b bs here) one) found

ascii_case : (style : Style) (text : List ℕ) (n : ℕ) (bs : List ℕ) (k : TokenKind) (e : ℕ) → drop n text ≡ bs → token_at style n bs ≡ Begins k e → (slice_index text n < 128) × ClosesLow text e
ascii_case style text n [] k e here found = absurd cc
ascii_case style text n (b ∷ bs) k e here found =
    (subst (λ (x : ℕ). x < 128) (sym (drop_next text n b bs here).0) (low_case style n b bs k e (nat_le 128 b) refl found), ends_low style text n b bs k e here found)

-- A token's first and last bytes are ASCII.
pub token_ascii : (style : Style) (text : List ℕ) (n : ℕ) (k : TokenKind) (e : ℕ) → token_at style n (drop n text) ≡ Begins k e → (slice_index text n < 128) × (slice_index text (e - 1) < 128)
token_ascii style text n k e found = ascii_case style text n (drop n text) k e refl found

-- ---- spans in order

-- the place where the tokens end
abbrev pub last_end : ℕ → List Token → ℕ
last_end from [] = from
last_end from (t ∷ ts) = last_end t.end ts

pub order_push : (from : ℕ) (ts : List Token) (t : Token) → InOrder from ts → last_end from ts ≤ t.start → InOrder from (ts ++ t ∷ [])
order_push from [] t order here = (here, tt)
order_push from (s ∷ ts) t order here = (order.0, order_push s.end ts t order.1 here)

pub last_end_push : (from : ℕ) (ts : List Token) (t : Token) → last_end from (ts ++ t ∷ []) ≡ t.end
last_end_push from [] t = refl
last_end_push from (s ∷ ts) t = last_end_push s.end ts t

pub all_push : {X : Type 0} (P : X → Type 0) (xs : List X) (x : X) → AllByRecursion P xs → P x → AllByRecursion P (xs ++ x ∷ [])
all_push P [] x all p = (p, tt)
all_push P (y ∷ ys) x all p = (all.0, all_push P ys x all.1 p)

-- What is printed of a text is a text: what is added is ASCII, and stands between its characters.
use Rattle.std.proofs.Common.{◌≡◌, ℕ, ◌<◌, ◌≤◌, ◌^◌, Bool, true, false, cond, List, [], ◌∷◌, ◌++◌, refl, sym, ap, subst, arith}
use Rattle.std.specs.Prelude.{◌&&◌, nat_eq, nat_le, nat_lt}
use Rattle.std.specs.List.{AllByRecursion}
use Rattle.std.specs.Fmt.{decimal}
use Rattle.std.specs.Str.{IsUtf8}
use Rattle.std.proofs.lemmas.Bool.{leb-true, leb-false, ltb-true, ne_eqb}
use Rattle.std.proofs.lemmas.Fmt.{IsAscii-decimal}
use Rattle.std.proofs.lemmas.Str.{IsUtf8-nil, IsUtf8-append, IsUtf8-encode, IsUtf8-from_ascii, encode_ascii}
use Rattle.std.proofs.Math.Utf8.{scalar, scalars, encode, encodes}
use Rattle.lists.proofs.Booleans.{both_true}
use Rattle.pq_text.specs.Printing.{is_bare, doubled, between, printed_name, printed_value}
use Rattle.pq_text.proofs.Standing.{encode_high, cons_utf8}

-- ---- quotes doubled

passes_high : (quote : ℕ) (xs rest : List ℕ) → quote < 128 → AllByRecursion (λ b. 128 ≤ b) xs → doubled quote (xs ++ rest) ≡ xs ++ doubled quote rest
passes_high quote [] rest low high = refl
passes_high quote (x ∷ xs) rest low high =
    let here = high.0 in
    let differ : nat_eq x quote ≡ false = ne_eqb x quote (λ e. omega (arith, e)) in
    rw differ (ap (λ (ys : List ℕ). x ∷ ys) (passes_high quote xs rest low high.1))

ascii_case : (quote c : ℕ) (t : Bool) (rest : List ℕ) → quote < 128 → c < 128 → IsUtf8 rest → IsUtf8 (cond t (quote ∷ quote ∷ rest) (c ∷ rest))
ascii_case quote c true rest low below u = cons_utf8 quote (quote ∷ rest) low (cons_utf8 quote rest low u)
ascii_case quote c false rest low below u = cons_utf8 c rest below u

char_doubled : (quote c : ℕ) (bs : List ℕ) (t : Bool) → nat_le 128 c ≡ t → quote < 128 → scalar c ≡ true → IsUtf8 (doubled quote bs) → IsUtf8 (doubled quote (encode c ++ bs))
char_doubled quote c bs true e low ok u =
    let high : 128 ≤ c = leb-true 128 c e in
    subst IsUtf8 (sym (passes_high quote (encode c) bs low (encode_high c high))) (IsUtf8-append (encode c) (doubled quote bs) (IsUtf8-encode c ok) u)
char_doubled quote c bs false e low ok u =
    let below : c < 128 = leb-false 128 c e in
    subst (λ (xs : List ℕ). IsUtf8 (doubled quote (xs ++ bs))) (sym (encode_ascii c below)) (ascii_case quote c (nat_eq c quote) (doubled quote bs) low below u)

chars_doubled : (quote : ℕ) (cs : List ℕ) → quote < 128 → scalars cs ≡ true → IsUtf8 (doubled quote (encodes cs))
chars_doubled quote [] low ok = IsUtf8-nil
chars_doubled quote (c ∷ cs) low ok =
    let g = both_true (scalar c) (scalars cs) ok in
    char_doubled quote c (encodes cs) (nat_le 128 c) refl low g.0 (chars_doubled quote cs low g.1)

doubled_utf8 : (quote : ℕ) (bs : List ℕ) → quote < 128 → IsUtf8 bs → IsUtf8 (doubled quote bs)
doubled_utf8 quote bs low u = subst (λ (xs : List ℕ). IsUtf8 (doubled quote xs)) u.1.1 (chars_doubled quote u.0 low u.1.0)

between_utf8 : (quote : ℕ) (bs : List ℕ) → quote < 128 → IsUtf8 bs → IsUtf8 (between quote bs)
between_utf8 quote bs low u =
    cons_utf8 quote (doubled quote bs ++ quote ∷ []) low (IsUtf8-append (doubled quote bs) (quote ∷ []) (doubled_utf8 quote bs low u) (cons_utf8 quote [] low IsUtf8-nil))

-- ---- names, values and numbers

name_case : (name : List ℕ) (t : Bool) → IsUtf8 name → IsUtf8 (cond t name (between 34 name))
name_case name true u = u
name_case name false u = between_utf8 34 name (omega arith) u

pub name_utf8 : (name : List ℕ) → IsUtf8 name → IsUtf8 (printed_name name)
name_utf8 name u = name_case name (is_bare name) u

pub value_utf8 : (value : List ℕ) → IsUtf8 value → IsUtf8 (printed_value value)
value_utf8 value u = between_utf8 39 value (omega arith) u

pub number_utf8 : (n : ℕ) → n < 2 ^ 64 → IsUtf8 (decimal n)
number_utf8 n fits = IsUtf8-from_ascii (decimal n) (IsAscii-decimal n fits)

-- ---- ASCII

abbrev pub are_ascii : List ℕ → Bool
are_ascii [] = true
are_ascii (b ∷ bs) = nat_lt b 128 && are_ascii bs

pub ascii_utf8 : (bs : List ℕ) → are_ascii bs ≡ true → IsUtf8 bs
ascii_utf8 [] e = IsUtf8-nil
ascii_utf8 (b ∷ bs) e = let g = both_true (nat_lt b 128) (are_ascii bs) e in cons_utf8 b bs (ltb-true b 128 g.0) (ascii_utf8 bs g.1)

-- ---- behind what stands there

-- A text behind a text is a text.
pub appended_utf8 : (old new piece : List ℕ) → new ≡ old ++ piece → IsUtf8 piece → IsUtf8 old → IsUtf8 new
appended_utf8 old new piece is p u = subst IsUtf8 (sym is) (IsUtf8-append old piece u p)

pub ascii_then : (old new piece : List ℕ) → new ≡ old ++ piece → are_ascii piece ≡ true → IsUtf8 old → IsUtf8 new
ascii_then old new piece is low u = appended_utf8 old new piece is (ascii_utf8 piece low) u

pub number_then : (old new : List ℕ) (n : ℕ) → new ≡ old ++ decimal n → n < 2 ^ 64 → IsUtf8 old → IsUtf8 new
number_then old new n is fits u = appended_utf8 old new (decimal n) is (number_utf8 n fits) u

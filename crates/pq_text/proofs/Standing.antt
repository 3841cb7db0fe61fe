-- What a token of a text stands for is a text: its slice is, and doubled quotes, the quotes around and capitals are ASCII.
use Rattle.std.proofs.Common.{◌≡◌, ℕ, zero, suc, ◌+◌, ◌-◌, ◌<◌, ◌≤◌, Bool, true, false, cond, List, [], ◌∷◌, ◌++◌, length, drop, take, get_or, refl, sym, ap, subst, ◌∙◌, arith}
use Rattle.std.specs.Prelude.{◌&&◌, nat_eq, nat_le, map, slice_index, slice_range}
use Rattle.std.specs.List.{AllByRecursion}
use Rattle.std.specs.Str.{IsUtf8, IsCharBoundary}
use Rattle.std.proofs.lemmas.Bool.{leb-true, leb-false, lt-leb, ne_eqb}
use Rattle.std.proofs.lemmas.List.{append-nil, drop_more, map-append}
use Rattle.std.proofs.lemmas.Str.{IsUtf8-nil, IsUtf8-append, IsUtf8-encode, IsUtf8-drop, IsUtf8-between, IsCharBoundary-before_ascii, IsCharBoundary-after_ascii, encode_ascii, inside_one, length-encode, len_utf8_bounds}
use Rattle.std.proofs.Math.Utf8.{scalar, scalars, encode, encodes, low_scalar}
use Rattle.lists.proofs.Booleans.{both_true, and_false}
use Rattle.pq_text.specs.declared.token.TokenKind.{TokenKind}
use Rattle.pq_text.specs.declared.token.TokenKind.TheVariants.{Word, Quoted, Text, Number, Symbol, Eol}
use Rattle.pq_text.specs.declared.token.Token.{Token}
use Rattle.pq_text.specs.Spans.{IsSpan}
use Rattle.pq_text.specs.Standing.{lowered, single, inside, stands_for}

-- ---- characters

high_from_index : (bs : List ℕ) → ((k : ℕ) → k < length bs → 128 ≤ get_or bs k 0) → AllByRecursion (λ b. 128 ≤ b) bs
high_from_index [] h = tt
high_from_index (b ∷ bs) h = (h 0 (omega arith), high_from_index bs (λ k lt. h (suc k) (omega arith)))

high_case : (c k : ℕ) (t : Bool) → nat_le 128 (get_or (encode c) k 0) ≡ t → 128 ≤ c → k < length (encode c) → 128 ≤ get_or (encode c) k 0
high_case c k true e high lt = leb-true 128 (get_or (encode c) k 0) e
high_case c k false e high lt =
    let low = leb-false 128 (get_or (encode c) k 0) e in
    let same : c ≡ get_or (encode c) k 0 = inside_one c [] (encode c) k (sym (append-nil (encode c))) lt low in
    absurd (omega (arith, same))

-- the bytes of a character that is not ASCII are not ASCII
pub encode_high : (c : ℕ) → 128 ≤ c → AllByRecursion (λ b. 128 ≤ b) (encode c)
encode_high c high = high_from_index (encode c) (λ k lt. high_case c k (nat_le 128 (get_or (encode c) k 0)) refl high lt)

encode_some : (c : ℕ) → 1 ≤ length (encode c)
encode_some c = let b = len_utf8_bounds c in let some = b.0 in omega (arith, length-encode c, some)

one_utf8 : (c : ℕ) → c < 128 → IsUtf8 (c ∷ [])
one_utf8 c low = subst IsUtf8 (encode_ascii c low) (IsUtf8-encode c (low_scalar c (omega arith)))

pub cons_utf8 : (c : ℕ) (bs : List ℕ) → c < 128 → IsUtf8 bs → IsUtf8 (c ∷ bs)
cons_utf8 c bs low u = IsUtf8-append (c ∷ []) bs (one_utf8 c low) u

-- ---- doubled quotes made single

keeps_high : (quote : ℕ) (xs rest : List ℕ) → quote < 128 → AllByRecursion (λ b. 128 ≤ b) xs → single quote false (xs ++ rest) ≡ xs ++ single quote false rest
keeps_high quote [] rest low high = refl
keeps_high quote (x ∷ xs) rest low high =
    let here = high.0 in
    let differ : nat_eq x quote ≡ false = ne_eqb x quote (λ e. omega (arith, e)) in
    rw differ (ap (λ (ys : List ℕ). x ∷ ys) (keeps_high quote xs rest low high.1))

keeps_some : (quote : ℕ) (behind : Bool) (xs rest : List ℕ) → quote < 128 → 1 ≤ length xs → AllByRecursion (λ b. 128 ≤ b) xs → single quote behind (xs ++ rest) ≡ xs ++ single quote false rest
keeps_some quote behind [] rest low some high = absurd (omega arith)
keeps_some quote false (x ∷ xs) rest low some high = keeps_high quote (x ∷ xs) rest low high
keeps_some quote true (x ∷ xs) rest low some high = ap (λ (ys : List ℕ). x ∷ ys) (keeps_high quote xs rest low high.1)

quote_case : (quote c : ℕ) (t : Bool) (bs : List ℕ) → c < 128 → ((behind : Bool) → IsUtf8 (single quote behind bs)) → IsUtf8 (cond t (single quote true bs) (c ∷ single quote false bs))
quote_case quote c true bs low go = go true
quote_case quote c false bs low go = cons_utf8 c (single quote false bs) low (go false)

ascii_single : (quote c : ℕ) (behind : Bool) (bs : List ℕ) → c < 128 → ((behind : Bool) → IsUtf8 (single quote behind bs)) → IsUtf8 (single quote behind (c ∷ bs))
ascii_single quote c true bs low go = cons_utf8 c (single quote false bs) low (go false)
ascii_single quote c false bs low go = quote_case quote c (nat_eq c quote) bs low go

char_single : (quote c : ℕ) (behind : Bool) (bs : List ℕ) (t : Bool) → nat_le 128 c ≡ t → quote < 128 → scalar c ≡ true → ((behind : Bool) → IsUtf8 (single quote behind bs)) → IsUtf8 (single quote behind (encode c ++ bs))
char_single quote c behind bs true e low ok go =
    let high : 128 ≤ c = leb-true 128 c e in
    subst IsUtf8 (sym (keeps_some quote behind (encode c) bs low (encode_some c) (encode_high c high))) (IsUtf8-append (encode c) (single quote false bs) (IsUtf8-encode c ok) (go false))
char_single quote c behind bs false e low ok go =
    let below : c < 128 = leb-false 128 c e in
    subst (λ (xs : List ℕ). IsUtf8 (single quote behind (xs ++ bs))) (sym (encode_ascii c below)) (ascii_single quote c behind bs below go)

single_chars : (quote : ℕ) (cs : List ℕ) → quote < 128 → scalars cs ≡ true → (behind : Bool) → IsUtf8 (single quote behind (encodes cs))
single_chars quote [] low ok behind = IsUtf8-nil
single_chars quote (c ∷ cs) low ok behind =
    let g = both_true (scalar c) (scalars cs) ok in
    char_single quote c behind (encodes cs) (nat_le 128 c) refl low g.0 (single_chars quote cs low g.1)

single_utf8 : (quote : ℕ) (bs : List ℕ) → quote < 128 → IsUtf8 bs → IsUtf8 (single quote false bs)
single_utf8 quote bs low u = subst (λ (xs : List ℕ). IsUtf8 (single quote false xs)) u.1.1 (single_chars quote u.0 low u.1.0 false)

inside_utf8 : (quote : ℕ) (bs : List ℕ) → quote < 128 → slice_index bs 0 < 128 → IsUtf8 bs → IsUtf8 (inside quote bs)
inside_utf8 quote [] low opens u = IsUtf8-nil
inside_utf8 quote (b ∷ bs) low opens u =
    single_utf8 quote bs low (IsUtf8-drop (b ∷ bs) 1 u (IsCharBoundary-after_ascii (b ∷ bs) 0 u (omega arith) opens))

-- ---- capitals lowered

capital_bound : (x y : Bool) (b : ℕ) → nat_le b 90 ≡ y → b < 128 → cond (x && y) (b + 32) b < 128
capital_bound false y b e low = low
capital_bound true false b e low = low
capital_bound true true b e low = let h = leb-true b 90 e in omega arith

lowered_low : (b : ℕ) → b < 128 → lowered b < 128
lowered_low b low = capital_bound (nat_le 65 b) (nat_le b 90) b refl low

lowered_high : (bs : List ℕ) → AllByRecursion (λ b. 128 ≤ b) bs → map lowered bs ≡ bs
lowered_high [] high = refl
lowered_high (b ∷ bs) high =
    let here = high.0 in
    let over : nat_le b 90 ≡ false = lt-leb b 90 (omega arith) in
    let one : lowered b ≡ b = rw (over, and_false (nat_le 65 b)) refl in
    let more = lowered_high bs high.1 in
    cc

char_lowered : (c : ℕ) (bs : List ℕ) (t : Bool) → nat_le 128 c ≡ t → scalar c ≡ true → IsUtf8 (map lowered bs) → IsUtf8 (map lowered (encode c ++ bs))
char_lowered c bs true e ok u =
    let high : 128 ≤ c = leb-true 128 c e in
    let whole : map lowered (encode c ++ bs) ≡ encode c ++ map lowered bs = map-append lowered (encode c) bs ∙ ap (λ (xs : List ℕ). xs ++ map lowered bs) (lowered_high (encode c) (encode_high c high)) in
    subst IsUtf8 (sym whole) (IsUtf8-append (encode c) (map lowered bs) (IsUtf8-encode c ok) u)
char_lowered c bs false e ok u =
    let below : c < 128 = leb-false 128 c e in
    subst (λ (xs : List ℕ). IsUtf8 (map lowered (xs ++ bs))) (sym (encode_ascii c below)) (cons_utf8 (lowered c) (map lowered bs) (lowered_low c below) u)

lowered_chars : (cs : List ℕ) → scalars cs ≡ true → IsUtf8 (map lowered (encodes cs))
lowered_chars [] ok = IsUtf8-nil
lowered_chars (c ∷ cs) ok = let g = both_true (scalar c) (scalars cs) ok in char_lowered c (encodes cs) (nat_le 128 c) refl g.0 (lowered_chars cs g.1)

lowered_utf8 : (bs : List ℕ) → IsUtf8 bs → IsUtf8 (map lowered bs)
lowered_utf8 bs u = subst (λ (xs : List ℕ). IsUtf8 (map lowered xs)) u.1.1 (lowered_chars u.0 u.1.0)

-- ---- tokens

pub span_starts : (text : List ℕ) (t : Token) → IsSpan text t → IsCharBoundary text t.start
span_starts text t span = let some = span.some in let within = span.within in IsCharBoundary-before_ascii text t.start (omega arith) span.opens

pub span_ends : (text : List ℕ) (t : Token) → IsUtf8 text → IsSpan text t → IsCharBoundary text t.«end»
span_ends text t u span =
    let some = span.some in
    let within = span.within in
    let back : t.«end» - 1 + 1 ≡ t.«end» = omega arith in
    subst (IsCharBoundary text) back (IsCharBoundary-after_ascii text (t.«end» - 1) u (omega arith) span.closes)

slice_utf8 : (text : List ℕ) (t : Token) → IsUtf8 text → IsSpan text t → IsUtf8 (slice_range text t.start t.«end»)
slice_utf8 text t u span = let some = span.some in IsUtf8-between text t.start t.«end» u (omega arith) (span_starts text t span) (span_ends text t u span)

take_cons : (x n : ℕ) (xs : List ℕ) → 0 < n → slice_index (take n (x ∷ xs)) 0 ≡ x
take_cons x zero xs some = absurd (omega arith)
take_cons x (suc n) xs some = refl

slice_opens : (text : List ℕ) (t : Token) → IsSpan text t → slice_index (slice_range text t.start t.«end») 0 < 128
slice_opens text t span =
    let some = span.some in
    let within = span.within in
    let more = drop_more text t.start 0 (omega arith) in
    let first : slice_index (slice_range text t.start t.«end») 0 ≡ slice_index text t.start =
    ap (λ (xs : List ℕ). slice_index (take (t.«end» - t.start) xs) 0) more ∙ take_cons (get_or text t.start 0) (t.«end» - t.start) (drop (t.start + 1) text) (omega arith) in
    subst (λ (b : ℕ). b < 128) (sym first) span.opens

kind_utf8 : (k : TokenKind) (bs : List ℕ) → IsUtf8 bs → slice_index bs 0 < 128 → IsUtf8 (stands_for k bs)
kind_utf8 Word bs u opens = lowered_utf8 bs u
kind_utf8 Quoted bs u opens = inside_utf8 34 bs (omega arith) opens u
kind_utf8 Text bs u opens = inside_utf8 39 bs (omega arith) opens u
kind_utf8 Number bs u opens = u
kind_utf8 Symbol bs u opens = u
kind_utf8 Eol bs u opens = u

-- What a token of a text stands for is a text.
pub stands_utf8 : (text : List ℕ) (t : Token) → IsUtf8 text → IsSpan text t → IsUtf8 (stands_for t.kind (slice_range text t.start t.«end»))
stands_utf8 text t u span = kind_utf8 t.kind (slice_range text t.start t.«end») (slice_utf8 text t u span) (slice_opens text t span)

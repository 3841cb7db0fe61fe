-- A printed text has the tokens of its pieces, and slicing the text at those tokens gives the pieces back.
use Rattle.std.proofs.Common.{◌≡◌, ℕ, ◌+◌, ◌-◌, Bool, true, false, cond, List, [], ◌∷◌, ◌++◌, length, take, drop, None, refl, sym, ap, subst, ◌∙◌, append_assoc, arith}
use Rattle.std.specs.Prelude.{nat_eq, map, slice_range}
use Rattle.std.proofs.lemmas.List.{length-append, append-nil, drop_at}
use Rattle.std.proofs.lemmas.List.Sums.{sum_by-append}
use Rattle.std.proofs.Math.Seq.{take-append_seam}
use Rattle.pq_text.specs.declared.token.Style.{Style}
use Rattle.pq_text.specs.declared.token.Style.TheVariants.{Lines, Sql}
use Rattle.pq_text.specs.declared.token.Token.{Token}
use Rattle.pq_text.specs.Tokens.{gap_from, token_at, Lexes}
use Rattle.pq_text.specs.declared.token.Stop.TheVariants.{End}
use Rattle.pq_text.specs.declared.token.Lexed.{Lexed}
use Rattle.pq_text.specs.declared.lexeme.Lexeme.{Lexeme}
use Rattle.pq_text.specs.declared.lexeme.Line.{Line}
use Rattle.pq_text.specs.declared.lexeme.TextLines.{TextLines}
use Rattle.pq_text.specs.Standing.{stands_for, lexeme_for}
use Rattle.pq_text.specs.Lines.{kind_is_eol, feeds, number_at, into_first, cut, AreLines}
use Rattle.pq_text.specs.Pieces.{Piece, behind_blank, text_of, start_of, tokens_of, piece_lexeme, IsLexed, AreLexed, eol, lines_text, numbered, AreInLine, ArePrintedLines}

-- tokens begin behind the gap, so a place counts only by its gap
Lexes-gap : (style : Style) (text : List ℕ) (n m : ℕ) (ts : List Token) (to : ℕ) → gap_from n style false (drop n text) ≡ gap_from m style false (drop m text) → Lexes style text m ts to → Lexes style text n ts to
Lexes-gap style text n m [] to e h = h ∙ sym e
Lexes-gap style text n m (t ∷ ts) to e h = (h.0 ∙ sym e, h.1, h.2)

-- one piece without a blank before it
piece_then : (style : Style) (front : List ℕ) (x : Piece) (rest : List ℕ) (ts : List Token) (to : ℕ) → IsLexed style x rest →
    Lexes style (front ++ (x.bytes ++ rest)) (length front + length x.bytes) ts to →
    Lexes style (front ++ (x.bytes ++ rest)) (length front) (record { kind = x.kind; start = length front; «end» = length front + length x.bytes } ∷ ts) to
piece_then style front x rest ts to lexed h =
    let d : drop (length front) (front ++ (x.bytes ++ rest)) ≡ x.bytes ++ rest = drop_at front (x.bytes ++ rest) (length front) refl in
    (sym (ap (gap_from (length front) style false) d ∙ lexed.no_gap (length front)), ap (token_at style (length front)) d ∙ lexed.token (length front), h)

-- the text with the piece moved to the front
moved : (front bytes rest : List ℕ) → front ++ (bytes ++ rest) ≡ (front ++ bytes) ++ rest
moved front bytes rest = sym (append_assoc front bytes rest)

blank_gap : (style : Style) (n : ℕ) (bytes : List ℕ) → gap_from n style false (32 ∷ bytes) ≡ gap_from (n + 1) style false bytes
blank_gap Lines n bytes = refl
blank_gap Sql n bytes = refl

plain_piece : (style : Style) (x : Piece) (rest front : List ℕ) (ts : List Token) → IsLexed style x rest →
    ((before : List ℕ) → length before ≡ length front + length x.bytes → Lexes style (before ++ rest) (length before) ts (length (before ++ rest))) →
    Lexes style (front ++ (x.bytes ++ rest)) (length front) (record { kind = x.kind; start = length front; «end» = length front + length x.bytes } ∷ ts) (length (front ++ (x.bytes ++ rest)))
plain_piece style x rest front ts lexed more =
    let len : length (front ++ x.bytes) ≡ length front + length x.bytes = length-append front x.bytes in
    let m = more (front ++ x.bytes) len in
    let a : Lexes style (front ++ (x.bytes ++ rest)) (length (front ++ x.bytes)) ts (length (front ++ (x.bytes ++ rest))) = subst (λ (text : List ℕ). Lexes style text (length (front ++ x.bytes)) ts (length text)) (sym (moved front x.bytes rest)) m in
    let b : Lexes style (front ++ (x.bytes ++ rest)) (length front + length x.bytes) ts (length (front ++ (x.bytes ++ rest))) = subst (λ (n : ℕ). Lexes style (front ++ (x.bytes ++ rest)) n ts (length (front ++ (x.bytes ++ rest)))) len a in
    piece_then style front x rest ts (length (front ++ (x.bytes ++ rest))) lexed b

piece_case : (style : Style) (t : Bool) (x : Piece) (rest front : List ℕ) (ts : List Token) → IsLexed style x rest →
    ((before : List ℕ) → length before ≡ start_of t (length front) + length x.bytes → Lexes style (before ++ rest) (length before) ts (length (before ++ rest))) →
    Lexes style (front ++ behind_blank t (x.bytes ++ rest)) (length front) (record { kind = x.kind; start = start_of t (length front); «end» = start_of t (length front) + length x.bytes } ∷ ts) (length (front ++ behind_blank t (x.bytes ++ rest)))
piece_case style false x rest front ts lexed more = plain_piece style x rest front ts lexed more
piece_case style true x rest front ts lexed more =
    let one : List ℕ = front ++ 32 ∷ [] in
    let len1 : length one ≡ length front + 1 = length-append front (32 ∷ []) in
    let c = plain_piece style x rest one ts lexed (λ before e. more before (e ∙ ap (λ (n : ℕ). n + length x.bytes) len1)) in
    let d = subst (λ (text : List ℕ). Lexes style text (length one) (record { kind = x.kind; start = length one; «end» = length one + length x.bytes } ∷ ts) (length text)) (append_assoc front (32 ∷ []) (x.bytes ++ rest)) c in
    let e = subst (λ (n : ℕ). Lexes style (front ++ 32 ∷ (x.bytes ++ rest)) n (record { kind = x.kind; start = n; «end» = n + length x.bytes } ∷ ts) (length (front ++ 32 ∷ (x.bytes ++ rest)))) len1 d in
    let at0 : drop (length front) (front ++ 32 ∷ (x.bytes ++ rest)) ≡ 32 ∷ (x.bytes ++ rest) = drop_at front (32 ∷ (x.bytes ++ rest)) (length front) refl in
    let at1 : drop (length front + 1) (front ++ 32 ∷ (x.bytes ++ rest)) ≡ x.bytes ++ rest = ap (drop (length front + 1)) (sym (append_assoc front (32 ∷ []) (x.bytes ++ rest))) ∙ drop_at one (x.bytes ++ rest) (length front + 1) len1 in
    Lexes-gap style (front ++ 32 ∷ (x.bytes ++ rest)) (length front) (length front + 1) (record { kind = x.kind; start = length front + 1; «end» = length front + 1 + length x.bytes } ∷ ts) (length (front ++ 32 ∷ (x.bytes ++ rest)))
    (ap (gap_from (length front) style false) at0 ∙ blank_gap style (length front) (x.bytes ++ rest) ∙ sym (ap (gap_from (length front + 1) style false) at1)) e

-- each piece is lexed as its token, with the pieces behind it
abbrev AreAll : Style → List Piece → Type 0
AreAll style [] = Unit {0}
AreAll style (x ∷ xs) = IsLexed style x (text_of xs) × AreAll style xs

pieces_lexed : (style : Style) (xs : List Piece) (front : List ℕ) → AreAll style xs → Lexes style (front ++ text_of xs) (length front) (tokens_of (length front) xs) (length (front ++ text_of xs))
pieces_lexed style [] front lexed =
    let d : drop (length front) (front ++ []) ≡ [] = drop_at front [] (length front) refl in
    ap length (append-nil front) ∙ sym (ap (gap_from (length front) style false) d)
pieces_lexed style (x ∷ xs) front lexed =
    piece_case style x.spaced x (text_of xs) front (tokens_of (start_of x.spaced (length front) + length x.bytes) xs) lexed.0
    (λ before e. subst (λ (n : ℕ). Lexes style (before ++ text_of xs) (length before) (tokens_of n xs) (length (before ++ text_of xs))) e (pieces_lexed style xs before lexed.1))

-- ---- pieces one behind another

pub text_step : (t : Bool) (bytes rest more : List ℕ) → behind_blank t (bytes ++ (rest ++ more)) ≡ behind_blank t (bytes ++ rest) ++ more
text_step true bytes rest more = ap (λ (xs : List ℕ). 32 ∷ xs) (sym (append_assoc bytes rest more))
text_step false bytes rest more = sym (append_assoc bytes rest more)

pub text_of-append : (xs ys : List Piece) → text_of (xs ++ ys) ≡ text_of xs ++ text_of ys
text_of-append [] ys = refl
text_of-append (x ∷ xs) ys = ap (λ (rest : List ℕ). behind_blank x.spaced (x.bytes ++ rest)) (text_of-append xs ys) ∙ text_step x.spaced x.bytes (text_of xs) (text_of ys)

all_append : (style : Style) (xs ys : List Piece) → AreLexed style xs (text_of ys) → AreAll style ys → AreAll style (xs ++ ys)
all_append style [] ys front behind = behind
all_append style (x ∷ xs) ys front behind = (subst (λ (rest : List ℕ). IsLexed style x rest) (sym (text_of-append xs ys)) front.0, all_append style xs ys front.1 behind)

-- all pieces of some lines
abbrev flat : List (List Piece) → List Piece
flat [] = []
flat (line ∷ lines) = line ++ eol ∷ flat lines

flat_text : (lines : List (List Piece)) → text_of (flat lines) ≡ lines_text lines
flat_text [] = refl
flat_text (line ∷ lines) = text_of-append line (eol ∷ flat lines) ∙ ap (λ (rest : List ℕ). text_of line ++ 10 ∷ rest) (flat_text lines)

eol_lexed : (rest : List ℕ) → IsLexed Lines eol rest
eol_lexed rest = record { token = λ n. refl; no_gap = λ n. refl }

flat_all : (lines : List (List Piece)) → ArePrintedLines Lines lines → AreAll Lines (flat lines)
flat_all [] printed = tt
flat_all (line ∷ lines) printed =
    let front = subst (λ (rest : List ℕ). AreLexed Lines line (10 ∷ rest)) (sym (flat_text lines)) (printed.0.lexed (lines_text lines)) in
    all_append Lines line (eol ∷ flat lines) front (eol_lexed (text_of (flat lines)), flat_all lines printed.1)

-- ---- slices

pub feeds-append : (xs ys : List ℕ) → feeds (xs ++ ys) ≡ feeds xs + feeds ys
feeds-append xs ys = sum_by-append (λ b. cond (nat_eq b 10) 1 0) xs ys

-- slicing the text at a piece's place gives its bytes
slice_back : (front bytes rest : List ℕ) → slice_range (front ++ (bytes ++ rest)) (length front) (length front + length bytes) ≡ bytes
slice_back front bytes rest =
    let k : length front + length bytes - length front ≡ length bytes = omega arith in
    let d : drop (length front) (front ++ (bytes ++ rest)) ≡ bytes ++ rest = drop_at front (bytes ++ rest) (length front) refl in
    ap (λ (n : ℕ). take n (drop (length front) (front ++ (bytes ++ rest)))) k ∙ ap (take (length bytes)) d ∙ take-append_seam bytes rest

number_back : (front rest : List ℕ) → number_at (front ++ rest) (length front) ≡ 1 + feeds front
number_back front rest = ap (λ (xs : List ℕ). 1 + feeds xs) (take-append_seam front rest)

-- the lines of some pieces, by a running count of line feeds
abbrev cut_pieces : ℕ → ℕ → List Piece → List Line
cut_pieces seen number [] = record { number = number; tokens = [] } ∷ []
cut_pieces seen number (x ∷ xs) =
    cond (kind_is_eol x.kind) (record { number = number; tokens = [] } ∷ cut_pieces (seen + feeds x.bytes) (seen + feeds x.bytes) xs)
    (into_first (piece_lexeme x) (cut_pieces (seen + feeds x.bytes) number xs))

-- the text with a piece's bytes moved to the front
piece_cut : (front : List ℕ) (x : Piece) (rest : List ℕ) (ts : List Token) (number : ℕ) (xs : List Piece) →
    ((m : ℕ) → cut ((front ++ x.bytes) ++ rest) m ts ≡ cut_pieces (1 + feeds (front ++ x.bytes)) m xs) →
    cut (front ++ (x.bytes ++ rest)) number (record { kind = x.kind; start = length front; «end» = length front + length x.bytes } ∷ ts) ≡ cut_pieces (1 + feeds front) number (x ∷ xs)
piece_cut front x rest ts number xs more =
    let text : List ℕ = front ++ (x.bytes ++ rest) in
    let same : (front ++ x.bytes) ++ rest ≡ text = append_assoc front x.bytes rest in
    let sum : 1 + feeds (front ++ x.bytes) ≡ 1 + feeds front + feeds x.bytes = omega (arith, feeds-append front x.bytes) in
    let len : length (front ++ x.bytes) ≡ length front + length x.bytes = length-append front x.bytes in
    let place : number_at text (length front + length x.bytes) ≡ 1 + feeds front + feeds x.bytes =
    ap (number_at text) (sym len) ∙ ap (λ (t : List ℕ). number_at t (length (front ++ x.bytes))) (sym same) ∙ number_back (front ++ x.bytes) rest ∙ sum in
    let behind : (m : ℕ) → cut text m ts ≡ cut_pieces (1 + feeds front + feeds x.bytes) m xs =
    λ m. ap (λ (t : List ℕ). cut t m ts) (sym same) ∙ more m ∙ ap (λ (n : ℕ). cut_pieces n m xs) sum in
    let next : cut text (number_at text (length front + length x.bytes)) ts ≡ cut_pieces (1 + feeds front + feeds x.bytes) (1 + feeds front + feeds x.bytes) xs =
    ap (λ (m : ℕ). cut text m ts) place ∙ behind (1 + feeds front + feeds x.bytes) in
    let bytes : slice_range text (length front) (length front + length x.bytes) ≡ x.bytes = slice_back front x.bytes rest in
    let token : lexeme_for text (record { kind = x.kind; start = length front; «end» = length front + length x.bytes }) ≡ piece_lexeme x =
    ap (λ (bs : List ℕ). let l : Lexeme = record { kind = x.kind; text = stands_for x.kind bs } in l) bytes in
    let begun : Line = record { number = number; tokens = [] } in
    let a = ap (λ (ls : List Line). begun ∷ ls) next in
    let b = ap (λ (l : Lexeme). into_first l (cut text number ts)) token ∙ ap (into_first (piece_lexeme x)) (behind number) in
    ap (λ (ls : List Line). cond (kind_is_eol x.kind) ls (into_first (lexeme_for text (record { kind = x.kind; start = length front; «end» = length front + length x.bytes })) (cut text number ts))) a
    ∙ ap (λ (ls : List Line). cond (kind_is_eol x.kind) (begun ∷ cut_pieces (1 + feeds front + feeds x.bytes) (1 + feeds front + feeds x.bytes) xs) ls) b

blank_length : (t : Bool) (front bytes rest : List ℕ) → (before : List ℕ) × (length before ≡ start_of t (length front)) × (feeds before ≡ feeds front) × (front ++ behind_blank t (bytes ++ rest) ≡ before ++ (bytes ++ rest))
blank_length false front bytes rest = (front, refl, refl, refl)
blank_length true front bytes rest = (front ++ 32 ∷ [], length-append front (32 ∷ []), feeds-append front (32 ∷ []) ∙ omega arith, sym (append_assoc front (32 ∷ []) (bytes ++ rest)))

pieces_cut : (xs : List Piece) (front : List ℕ) (number : ℕ) → cut (front ++ text_of xs) number (tokens_of (length front) xs) ≡ cut_pieces (1 + feeds front) number xs
pieces_cut [] front number = refl
pieces_cut (x ∷ xs) front number =
    let b = blank_length x.spaced front x.bytes (text_of xs) in
    let before = b.0 in
    let len : length (before ++ x.bytes) ≡ length before + length x.bytes = length-append before x.bytes in
    let here = piece_cut before x (text_of xs) (tokens_of (length before + length x.bytes) xs) number xs
    (λ m. ap (λ (n : ℕ). cut ((before ++ x.bytes) ++ text_of xs) m (tokens_of n xs)) (sym len) ∙ pieces_cut xs (before ++ x.bytes) m) in
    ap (λ (t : List ℕ). cut t number (tokens_of (length front) (x ∷ xs))) b.3
    ∙ ap (λ (n : ℕ). cut (before ++ (x.bytes ++ text_of xs)) number (record { kind = x.kind; start = n; «end» = n + length x.bytes } ∷ tokens_of (n + length x.bytes) xs)) (sym b.1)
    ∙ here ∙ ap (λ (n : ℕ). cut_pieces (1 + n) number (x ∷ xs)) b.2

-- ---- lines

blank_feeds : (t : Bool) (bytes : List ℕ) → feeds (behind_blank t bytes) ≡ feeds bytes
blank_feeds true bytes = omega arith
blank_feeds false bytes = refl

text_feeds : (x : Piece) (xs : List Piece) → feeds (text_of (x ∷ xs)) ≡ feeds x.bytes + feeds (text_of xs)
text_feeds x xs = blank_feeds x.spaced (x.bytes ++ text_of xs) ∙ feeds-append x.bytes (text_of xs)

line_cut : (line : List Piece) (seen number : ℕ) (more : List Piece) → AreInLine line →
    cut_pieces seen number (line ++ eol ∷ more) ≡ record { number = number; tokens = map piece_lexeme line } ∷ cut_pieces (seen + feeds (text_of line) + 1) (seen + feeds (text_of line) + 1) more
line_cut [] seen number more one =
    let k : seen + 1 ≡ seen + 0 + 1 = omega arith in
    ap (λ (n : ℕ). let begun : Line = record { number = number; tokens = [] } in begun ∷ cut_pieces n n more) k
line_cut (x ∷ xs) seen number more one =
    let rest = line_cut xs (seen + feeds x.bytes) number more one.1 in
    let k : seen + feeds x.bytes + feeds (text_of xs) + 1 ≡ seen + feeds (text_of (x ∷ xs)) + 1 = omega (arith, text_feeds x xs) in
    rw one.0 (ap (into_first (piece_lexeme x)) rest
    ∙ ap (λ (n : ℕ). let line : Line = record { number = number; tokens = piece_lexeme x ∷ map piece_lexeme xs } in line ∷ cut_pieces n n more) k)

lines_cut : (lines : List (List Piece)) (number : ℕ) → ArePrintedLines Lines lines → cut_pieces number number (flat lines) ≡ numbered number lines
lines_cut [] number printed = refl
lines_cut (line ∷ lines) number printed =
    line_cut line number number (flat lines) printed.0.one
    ∙ ap (λ (ls : List Line). let first : Line = record { number = number; tokens = map piece_lexeme line } in first ∷ ls) (lines_cut lines (number + feeds (text_of line) + 1) printed.1)

-- The lines of a printed text are those of its pieces.
pub printed_lines : (lines : List (List Piece)) → ArePrintedLines Lines lines → AreLines (lines_text lines) (record { whole = numbered 1 lines; broken = None })
printed_lines lines printed =
    let lexed : Lexed = record { tokens = tokens_of 0 (flat lines); stop = End } in
    let lexes = pieces_lexed Lines (flat lines) [] (flat_all lines printed) in
    let cuts = pieces_cut (flat lines) [] 1 ∙ lines_cut lines 1 printed in
    let told : TextLines = record { whole = numbered 1 lines; broken = None } in
    subst (λ (text : List ℕ). AreLines text told) (flat_text lines)
    (record { lexed = lexed; front = record { lexes = lexes; stops = tt }; tells = (sym cuts, refl) })

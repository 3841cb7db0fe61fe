-- A text has at most one line more than bytes, and at most as many parts as lines.
use Rattle.std.proofs.Common.{◌≡◌, ℕ, ◌+◌, ◌<◌, ◌≤◌, Bool, true, false, cond, List, [], ◌∷◌, length, drop, Option, None, Some, refl, ap, subst, arith}
use Rattle.std.specs.Prelude.{◌||◌, nat_eq, IfSome}
use Rattle.pq_text.specs.declared.token.Style.{Style}
use Rattle.pq_text.specs.declared.token.Style.TheVariants.{Lines, Sql}
use Rattle.pq_text.specs.declared.token.TokenKind.TheVariants.{Word, Quoted, Number, Symbol}
use Rattle.pq_text.specs.declared.token.Token.{Token}
use Rattle.pq_text.specs.declared.token.Stop.{Stop}
use Rattle.pq_text.specs.declared.token.Stop.TheVariants.{End, BadByte, OpenQuote}
use Rattle.pq_text.specs.declared.scan.Found.{Found}
use Rattle.pq_text.specs.declared.scan.Found.TheVariants.{Begins, Bad, Open}
use Rattle.pq_text.specs.declared.lexeme.Lexeme.{Lexeme}
use Rattle.pq_text.specs.declared.lexeme.Line.{Line}
use Rattle.pq_text.specs.declared.lexeme.TextLines.{TextLines}
use Rattle.pq_text.specs.Tokens.{is_letter, is_digit, is_word_byte, is_blank, in_comment, gap_from, run_from, end_from, first, is_double, is_single, symbol_end, text_found, quoted_found, feed_found, token_at, Lexes, stop_place}
use Rattle.pq_text.specs.Lines.{kind_is_eol, number_at, into_first, cut, Tells}
use Rattle.pq_text.specs.Standing.{lexeme_for}
use Rattle.access_schema.specs.declared.part.Part.{Part}
use Rattle.tgd_reader.specs.declared.parts.Declared.{Declared}
use Rattle.tgd_reader.specs.Version.{says_version, next_version, behind_version, version_of, told_version}
use Rattle.tgd_reader.specs.Grammar.{HasPart, AreParts, HasParts}

-- ---- places rise

pick_place : (n : ℕ) (t : Bool) (x : ℕ) → n ≤ x → n ≤ cond t x n
pick_place n true x h = h
pick_place n false x h = omega arith

gap_above : (n : ℕ) (style : Style) (comment : Bool) (bs : List ℕ) → n ≤ gap_from n style comment bs
gap_above n style comment [] = omega arith
gap_above n style comment (b ∷ bs) =
    let h = gap_above (n + 1) style (in_comment style comment b bs) bs in
    pick_place n (in_comment style comment b bs || is_blank style b) (gap_from (n + 1) style (in_comment style comment b bs) bs) (omega (arith, h))

run_above : (n : ℕ) (p : ℕ → Bool) (bs : List ℕ) → n ≤ run_from n p bs
run_above n p [] = omega arith
run_above n p (b ∷ bs) = let h = run_above (n + 1) p bs in pick_place n (p b) (run_from (n + 1) p bs) (omega (arith, h))

pick_end : (m : ℕ) (t : Bool) (x y : Option ℕ) → IfSome x (λ e. m ≤ e) → IfSome y (λ e. m ≤ e) → IfSome (cond t x y) (λ e. m ≤ e)
pick_end m true x y h k = h
pick_end m false x y h k = k

end_above : (m n : ℕ) (last : Option ℕ) (behind : Bool) (quote : ℕ) (bs : List ℕ) → m ≤ n → IfSome last (λ e. m ≤ e) → IfSome (end_from n last behind quote bs) (λ e. m ≤ e)
end_above m n last false quote [] le so_far = so_far
end_above m n last true quote [] le so_far = le
end_above m n last false quote (b ∷ bs) le so_far = end_above m (n + 1) last (nat_eq b quote) quote bs (omega (arith, le)) so_far
end_above m n last true quote (b ∷ bs) le so_far = pick_end m (nat_eq b quote) (end_from (n + 1) (Some n) false quote bs) (Some n) (end_above m (n + 1) (Some n) false quote bs (omega (arith, le)) le) le

-- a token's end lies behind its place
abbrev IsAfter : ℕ → Found → Type 0
IsAfter n (Begins kind e) = n < e
IsAfter n Bad = Unit {0}
IsAfter n Open = Unit {0}

pick_found : (n : ℕ) (t : Bool) (x y : Found) → IsAfter n x → IsAfter n y → IsAfter n (cond t x y)
pick_found n true x y h k = h
pick_found n false x y h k = k

text_after : (n : ℕ) (o : Option ℕ) → IfSome o (λ e. n + 1 ≤ e) → IsAfter n (text_found o)
text_after n None h = tt
text_after n (Some e) h = omega (arith, h)

quoted_after : (n : ℕ) (o : Option ℕ) → IfSome o (λ e. n + 1 ≤ e) → IsAfter n (quoted_found n o)
quoted_after n None h = tt
quoted_after n (Some e) h = pick_found n (nat_eq e (n + 2)) Bad (Begins Quoted e) tt (omega (arith, h))

feed_after : (style : Style) (n : ℕ) → IsAfter n (feed_found style n)
feed_after Lines n = omega arith
feed_after Sql n = tt

symbol_after : (n b c : ℕ) → IsAfter n (symbol_end n b c)
symbol_after n b c =
    pick_found n (is_double b c) (Begins Symbol (n + 2)) (cond (is_single b) (Begins Symbol (n + 1)) Bad) (omega arith)
    (pick_found n (is_single b) (Begins Symbol (n + 1)) Bad (omega arith) tt)

token_after : (style : Style) (n : ℕ) (bs : List ℕ) → IsAfter n (token_at style n bs)
token_after style n [] = tt
token_after style n (b ∷ bs) =
    let word = run_above (n + 1) is_word_byte bs in
    let number = run_above (n + 1) is_digit bs in
    let text = end_above (n + 1) (n + 1) None false 39 bs (omega arith) tt in
    let quoted = end_above (n + 1) (n + 1) None false 34 bs (omega arith) tt in
    let rest : Found = symbol_end n b (first bs) in
    let feed : Found = cond (nat_eq b 10) (feed_found style n) rest in
    let names : Found = cond (nat_eq b 34) (quoted_found n (end_from (n + 1) None false 34 bs)) feed in
    let texts : Found = cond (nat_eq b 39) (text_found (end_from (n + 1) None false 39 bs)) names in
    let numbers : Found = cond (is_digit b) (Begins Number (run_from (n + 1) is_digit bs)) texts in
    pick_found n (is_letter b) (Begins Word (run_from (n + 1) is_word_byte bs)) numbers (omega (arith, word))
    (pick_found n (is_digit b) (Begins Number (run_from (n + 1) is_digit bs)) texts (omega (arith, number))
    (pick_found n (nat_eq b 39) (text_found (end_from (n + 1) None false 39 bs)) names (text_after n (end_from (n + 1) None false 39 bs) text)
    (pick_found n (nat_eq b 34) (quoted_found n (end_from (n + 1) None false 34 bs)) feed (quoted_after n (end_from (n + 1) None false 34 bs) quoted)
    (pick_found n (nat_eq b 10) (feed_found style n) rest (feed_after style n) (symbol_after n b (first bs))))))

tokens_few : (style : Style) (text : List ℕ) (from : ℕ) (ts : List Token) (to : ℕ) → Lexes style text from ts to → from + length ts ≤ to
tokens_few style text from [] to h = let g = gap_above from style false (drop from text) in omega (arith, g, h)
tokens_few style text from (t ∷ ts) to h =
    let g = gap_above from style false (drop from text) in
    let a : t.start < t.«end» = subst (IsAfter t.start) h.1 (token_after style t.start (drop t.start text)) in
    let r = tokens_few style text t.«end» ts to h.2 in
    omega (arith, g, a, r, h.0)

-- ---- lines and parts

length-into_first : (l : Lexeme) (lines : List Line) → length (into_first l lines) ≡ length lines
length-into_first l [] = refl
length-into_first l (line ∷ lines) = refl

cut_step : (t : Bool) (eol plain : List Line) (n : ℕ) → length eol ≤ n → length plain ≤ n → length (cond t eol plain) ≤ n
cut_step true eol plain n h k = h
cut_step false eol plain n h k = k

lines_few : (text : List ℕ) (number : ℕ) (ts : List Token) → length (cut text number ts) ≤ length ts + 1
lines_few text number [] = omega arith
lines_few text number (t ∷ ts) =
    let a = lines_few text (number_at text t.«end») ts in
    let b = lines_few text number ts in
    let c = length-into_first (lexeme_for text t) (cut text number ts) in
    cut_step (kind_is_eol t.kind) (record { number = number; tokens = [] } ∷ cut text (number_at text t.«end») ts) (into_first (lexeme_for text t) (cut text number ts)) (length (t ∷ ts) + 1) (omega (arith, a)) (omega (arith, b, c))

part_few : (v : Bool) (P : List Part → List ℕ → Type 0) (k : ℕ) → ((ps : List Part) (ns : List ℕ) → P ps ns → (length ns ≡ length ps) × (length ps ≤ k)) → (number : ℕ) (tokens : List Lexeme) (parts : List Part) (numbers : List ℕ) →
    HasPart v number tokens parts numbers P → (length numbers ≡ length parts) × (length parts ≤ k + 1)
part_few v P k go number [] parts numbers h = let r = go parts numbers h in (r.0, omega (arith, r.1))
part_few v P k go number (t ∷ ts) [] numbers h = absurd h
part_few v P k go number (t ∷ ts) (p ∷ ps) [] h = absurd h
part_few v P k go number (t ∷ ts) (p ∷ ps) (n ∷ ns) h = let r = go ps ns h.2 in (omega (arith, r.0), omega (arith, r.1))

no_parts : (parts : List Part) (numbers : List ℕ) → parts ≡ [] → numbers ≡ [] → (length numbers ≡ length parts) × (length parts ≤ 0)
no_parts parts numbers e f = let a = ap length e in let b = ap length f in (omega (arith, a, b), omega (arith, a))

parts_few : (v : Bool) (lines : List Line) (parts : List Part) (numbers : List ℕ) → AreParts v lines parts numbers → (length numbers ≡ length parts) × (length parts ≤ length lines)
parts_few v [] parts numbers h = no_parts parts numbers h.0 h.1
parts_few v (line ∷ lines) parts numbers h =
    let r = part_few v (AreParts v lines) (length lines) (parts_few v lines) line.number line.tokens parts numbers h in
    (r.0, omega (arith, r.1))

-- behind the line that names the version there are fewer lines
pick_behind : (t : Bool) (behind : List Line) (n : ℕ) → length behind ≤ n → IfSome (cond t (Some behind) None) (λ b. length b ≤ n)
pick_behind true behind n le = le
pick_behind false behind n le = tt

step_few : (line : Line) (behind : List Line) (tokens : List Lexeme) (found : Option (List Line)) → IfSome found (λ b. length b ≤ length behind) →
    IfSome (next_version behind tokens found) (λ b. length b ≤ length (line ∷ behind))
step_few line behind [] None few = tt
step_few line behind [] (Some b) few = omega (arith, few)
step_few line behind (t ∷ ts) found few = pick_behind (says_version (t ∷ ts)) behind (length (line ∷ behind)) (omega arith)

behind_few : (lines : List Line) → IfSome (behind_version lines) (λ b. length b ≤ length lines)
behind_few [] = tt
behind_few (line ∷ lines) = step_few line lines line.tokens (behind_version lines) (behind_few lines)

version_few : (lines : List Line) (found : Option (List Line)) → IfSome found (λ b. length b ≤ length lines) → length (version_of lines found).1 ≤ length lines
version_few lines None few = omega arith
version_few lines (Some b) few = few

told_few : (lines : List Line) → length (told_version lines).1 ≤ length lines
told_few lines = version_few lines (behind_version lines) (behind_few lines)

whole_few : (text : List ℕ) (stop : Stop) (ts : List Token) (told : TextLines) → told.broken ≡ None → Lexes Lines text 0 ts (stop_place text stop) → Tells stop (cut text 1 ts) told → length told.whole ≤ length text + 1
whole_few text End ts told none lexes tells =
    let a = tokens_few Lines text 0 ts (length text) lexes in
    let b = lines_few text 1 ts in
    let c = ap length tells.0 in
    omega (arith, a, b, c)
whole_few text (BadByte offset) ts told none lexes tells = absurd (let e = tells.2 in cc)
whole_few text (OpenQuote offset) ts told none lexes tells = absurd (let e = tells.2 in cc)

-- the parts of a text are fewer than its bytes and one more, and have a line each
pub declared_few : (text : List ℕ) (declared : Declared) → HasParts text declared → (length declared.lines ≡ length declared.parts) × (length declared.parts ≤ length text + 1)
declared_few text declared has =
    let told : TextLines = record { whole = has.0; broken = None } in
    let a = whole_few text has.1.lexed.stop has.1.lexed.tokens told refl has.1.front.lexes has.1.tells in
    let r = parts_few (told_version has.0).0 (told_version has.0).1 declared.parts declared.lines has.2 in
    let s = told_few has.0 in
    (r.0, omega (arith, a, r.1, s))

-- Tokens of a text in both styles: at each place the longest token that fits.
use Rattle.std.specs.Prelude.{◌≡◌, ◌<◌, ◌≤◌, ◌&&◌, ◌||◌, ℕ, ◌+◌, Bool, true, false, not, List, [], ◌∷◌, length, drop, Option, None, Some, nat_eq, nat_le, if◌then◌else◌}
use Rattle.pq_text.specs.declared.token.Style.{Style}
use Rattle.pq_text.specs.declared.token.Style.TheVariants.{Lines, Sql}
use Rattle.pq_text.specs.declared.token.TokenKind.TheVariants.{Word, Quoted, Text, Number, Symbol, Eol}
use Rattle.pq_text.specs.declared.token.Token.{Token}
use Rattle.pq_text.specs.declared.token.LexFault.{LexFault}
use Rattle.pq_text.specs.declared.token.LexFault.TheVariants as fault
use Rattle.pq_text.specs.declared.token.LexFault.TheVariants.{NoMemory}
use Rattle.pq_text.specs.declared.token.Stop.{Stop}
use Rattle.pq_text.specs.declared.token.Stop.TheVariants as stop
use Rattle.pq_text.specs.declared.token.Stop.TheVariants.{End}
use Rattle.pq_text.specs.declared.token.Lexed.{Lexed}
use Rattle.pq_text.specs.declared.scan.Found.{Found}
use Rattle.pq_text.specs.declared.scan.Found.TheVariants.{Begins, Bad, Open}

-- ---- bytes

abbrev pub is_letter : ℕ → Bool
is_letter b = (nat_le 97 b && nat_le b 122) || ((nat_le 65 b && nat_le b 90) || nat_eq b 95)

abbrev pub is_digit : ℕ → Bool
is_digit b = nat_le 48 b && nat_le b 57

abbrev pub is_word_byte : ℕ → Bool
is_word_byte b = is_letter b || is_digit b

-- space, tab and carriage return; in the style Sql a line feed too
abbrev pub is_blank : Style → ℕ → Bool
is_blank Lines b = nat_eq b 32 || (nat_eq b 9 || nat_eq b 13)
is_blank Sql b = nat_eq b 32 || (nat_eq b 9 || (nat_eq b 13 || nat_eq b 10))

abbrev pub first : List ℕ → ℕ
first [] = 0
first (b ∷ bs) = b

-- a comment begins with # in the style Lines, and with -- in the style Sql
abbrev pub opens_comment : Style → ℕ → List ℕ → Bool
opens_comment Lines b after = nat_eq b 35
opens_comment Sql b after = nat_eq b 45 && nat_eq (first after) 45

-- a comment goes on up to a line feed
abbrev pub in_comment : Style → Bool → ℕ → List ℕ → Bool
in_comment style comment b after = if comment then not (nat_eq b 10) else opens_comment style b after

-- ---- places: each function gives the place behind what stands in the bytes, which begin at the place n

-- blanks and comments
abbrev pub gap_from : ℕ → Style → Bool → List ℕ → ℕ
gap_from n style comment [] = n
gap_from n style comment (b ∷ bs) =
    if in_comment style comment b bs || is_blank style b then gap_from (n + 1) style (in_comment style comment b bs) bs else n

-- bytes of one kind
abbrev pub run_from : ℕ → (ℕ → Bool) → List ℕ → ℕ
run_from n p [] = n
run_from n p (b ∷ bs) = if p b then run_from (n + 1) p bs else n

-- The inside of a quoted text and the quote that closes it, the longest that fits: up to a quote that
-- is not doubled, and without one up to the first half of the last doubled quote.
abbrev pub end_from : ℕ → Option ℕ → Bool → ℕ → List ℕ → Option ℕ
end_from n last false quote [] = last
end_from n last true quote [] = Some n
end_from n last false quote (b ∷ bs) = end_from (n + 1) last (nat_eq b quote) quote bs
end_from n last true quote (b ∷ bs) = if nat_eq b quote then end_from (n + 1) (Some n) false quote bs else Some n

-- the symbol of two bytes or else of one
abbrev pub is_double : ℕ → ℕ → Bool
is_double b c = (nat_eq c 61 && (nat_eq b 60 || (nat_eq b 62 || nat_eq b 33))) || (nat_eq c 62 && (nat_eq b 60 || nat_eq b 45))

abbrev pub is_single : ℕ → Bool
is_single b = (nat_le 40 b && nat_le b 47) || ((nat_le 58 b && nat_le b 62) || (nat_eq b 124 || nat_eq b 36))

abbrev pub symbol_end : ℕ → ℕ → ℕ → Found
symbol_end n b c = if is_double b c then Begins Symbol (n + 2) else if is_single b then Begins Symbol (n + 1) else Bad

-- a Text may be empty
abbrev pub text_found : Option ℕ → Found
text_found None = Open
text_found (Some e) = Begins Text e

-- a Quoted may not: at "" without a longer one no token begins
abbrev pub quoted_found : ℕ → Option ℕ → Found
quoted_found n None = Open
quoted_found n (Some e) = if nat_eq e (n + 2) then Bad else Begins Quoted e

abbrev pub feed_found : Style → ℕ → Found
feed_found Lines n = Begins Eol (n + 1)
feed_found Sql n = Bad

-- what stands at the place n, where these bytes begin
abbrev pub token_at : Style → ℕ → List ℕ → Found
token_at style n [] = Bad
token_at style n (b ∷ bs) =
    if is_letter b then Begins Word (run_from (n + 1) is_word_byte bs)
    else if is_digit b then Begins Number (run_from (n + 1) is_digit bs)
    else if nat_eq b 39 then text_found (end_from (n + 1) None false 39 bs)
    else if nat_eq b 34 then quoted_found n (end_from (n + 1) None false 34 bs)
    else if nat_eq b 10 then feed_found style n
    else symbol_end n b (first bs)

-- a token's end lies behind the place, and not behind the end
abbrev pub IsWithin : ℕ → ℕ → Found → Type 0
IsWithin at limit (Begins kind e) = (at < e) × (e ≤ limit)
IsWithin at limit Bad = Unit {0}
IsWithin at limit Open = Unit {0}

-- ---- a text

-- From one place on these tokens follow each other up to another place, with blanks and comments alone between them.
abbrev pub Lexes : Style → List ℕ → ℕ → List Token → ℕ → Type 0
Lexes style text from [] to = to ≡ gap_from from style false (drop from text)
Lexes style text from (t ∷ ts) to =
    (t.start ≡ gap_from from style false (drop from text)) × (token_at style t.start (drop t.start text) ≡ Begins t.kind t.end) × Lexes style text t.end ts to

-- where the tokens end
abbrev pub stop_place : List ℕ → Stop → ℕ
stop_place text End = length text
stop_place text (stop.BadByte offset) = offset
stop_place text (stop.OpenQuote offset) = offset

-- No token begins there.
abbrev pub StopsAt : Style → List ℕ → Stop → Type 0
StopsAt style text End = Unit {0}
StopsAt style text (stop.BadByte offset) = (offset < length text) × (token_at style offset (drop offset text) ≡ Bad)
StopsAt style text (stop.OpenQuote offset) = (offset < length text) × (token_at style offset (drop offset text) ≡ Open)

-- The tokens stand from the beginning of the text up to its end, or up to the first place that begins none.
pub record IsFront (style : Style) (text : List ℕ) (lexed : Lexed) : Type 0 where
  pub lexes : Lexes style text 0 lexed.tokens (stop_place text lexed.stop)
  pub stops : StopsAt style text lexed.stop

-- Tokens stand up to the place, and none begins there.
abbrev pub HasFault : Style → List ℕ → LexFault → Type 0
HasFault style text NoMemory = Unit {0}
HasFault style text (fault.BadByte offset) = (offset < length text) × (token_at style offset (drop offset text) ≡ Bad) × (ts : List Token) × Lexes style text 0 ts offset
HasFault style text (fault.OpenQuote offset) = (offset < length text) × (token_at style offset (drop offset text) ≡ Open) × (ts : List Token) × Lexes style text 0 ts offset

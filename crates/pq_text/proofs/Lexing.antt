-- Tokens follow each other.
use Rattle.std.proofs.Common.{◌≡◌, ℕ, false, List, [], ◌∷◌, ◌++◌, drop, length, Result, Ok, Err, refl, sym, ap, subst, ◌∙◌, arith}
use Rattle.std.specs.Prelude.{IfOk, IfErr, MatchResult}
use Rattle.std.proofs.Math.Seq.{drop-length}
use Rattle.pq_text.specs.declared.token.Style.{Style}
use Rattle.pq_text.specs.declared.token.TokenKind.{TokenKind}
use Rattle.pq_text.specs.declared.token.Token.{Token}
use Rattle.pq_text.specs.declared.scan.Found.TheVariants.{Begins, Bad, Open}
use Rattle.pq_text.specs.declared.token.LexFault.{LexFault}
use Rattle.pq_text.specs.declared.token.LexFault.TheVariants as fault
use Rattle.pq_text.specs.declared.token.LexFault.TheVariants.{NoMemory}
use Rattle.pq_text.specs.declared.token.Stop.{Stop}
use Rattle.pq_text.specs.declared.token.Stop.TheVariants as stop
use Rattle.pq_text.specs.declared.token.Stop.TheVariants.{End}
use Rattle.pq_text.specs.Tokens.{gap_from, token_at, Lexes, HasFault, StopsAt, stop_place}
use Rattle.std.specs.Prelude.{Option, Some}
use Rattle.std.specs.declared.alloc.AllocError.{AllocError}
use Rattle.pq_text.specs.declared.token.Style.TheVariants.{Lines}
use Rattle.pq_text.specs.declared.lexeme.Line.{Line}
use Rattle.pq_text.specs.declared.lexeme.TextLines.{TextLines}
use Rattle.pq_text.specs.Lines.{cut, Tells, AreLines}

-- one token more, at the place that was reached
pub Lexes-push : (style : Style) (text : List ℕ) (from to e : ℕ) (k : TokenKind) (ts : List Token) →
    Lexes style text from ts to → token_at style to (drop to text) ≡ Begins k e →
    Lexes style text from (ts ++ record { kind = k; start = to; «end» = e } ∷ []) (gap_from e style false (drop e text))
Lexes-push style text from to e k [] lexes found = (lexes, found, refl)
Lexes-push style text from to e k (t ∷ ts) lexes found = (lexes.0, lexes.1, Lexes-push style text t.end to e k ts lexes.2 found)

-- no token begins at the place
abbrev pub NoToken : Style → List ℕ → ℕ → Type 0
NoToken style text to = (k : TokenKind) (e : ℕ) → token_at style to (drop to text) ≡ Begins k e → ⊥

same_begin : (k l : TokenKind) (e f : ℕ) → Begins k e ≡ Begins l f → (k ≡ l) × (e ≡ f)
same_begin k l e f h = (cc, cc)

same_token : (t u : Token) → t.kind ≡ u.kind → t.start ≡ u.start → t.«end» ≡ u.«end» → t ≡ u
same_token t u a b c =
    let P : TokenKind → ℕ → ℕ → Token = λ k s e. record { kind = k; start = s; «end» = e } in
    ap (λ (k : TokenKind). P k t.start t.«end») a ∙ ap (λ (s : ℕ). P u.kind s t.«end») b ∙ ap (λ (e : ℕ). P u.kind u.start e) c

-- A text has one list of tokens, up to one place.
pub Lexes-one : (style : Style) (text : List ℕ) (from : ℕ) (ts us : List Token) (to to' : ℕ) →
    Lexes style text from ts to → NoToken style text to → Lexes style text from us to' → NoToken style text to' → (ts ≡ us) × (to ≡ to')
Lexes-one style text from [] [] to to' p ends q ends' = (refl, p ∙ sym q)
Lexes-one style text from [] (u ∷ us) to to' p ends q ends' =
    absurd (ends u.kind u.«end» (subst (λ (n : ℕ). token_at style n (drop n text) ≡ Begins u.kind u.«end») (q.0 ∙ sym p) q.1))
Lexes-one style text from (t ∷ ts) [] to to' p ends q ends' =
    absurd (ends' t.kind t.«end» (subst (λ (n : ℕ). token_at style n (drop n text) ≡ Begins t.kind t.«end») (p.0 ∙ sym q) p.1))
Lexes-one style text from (t ∷ ts) (u ∷ us) to to' p ends q ends' =
    let start : t.start ≡ u.start = p.0 ∙ sym q.0 in
    let here : token_at style u.start (drop u.start text) ≡ Begins t.kind t.«end» = subst (λ (n : ℕ). token_at style n (drop n text) ≡ Begins t.kind t.«end») start p.1 in
    let same = same_begin t.kind u.kind t.«end» u.«end» (sym here ∙ q.1) in
    let rest : Lexes style text t.«end» us to' = subst (λ (n : ℕ). Lexes style text n us to') (sym same.1) q.2 in
    let r = Lexes-one style text t.«end» ts us to to' p.2 ends rest ends' in
    let one : t ≡ u = same_token t u same.0 start same.1 in
    (cc (one, r.0), r.1)

never : (k : TokenKind) (e : ℕ) → Bad ≡ Begins k e → ⊥
never k e h = cc

-- nothing begins at the end, and nothing where a fault stands
none-end : (style : Style) (text : List ℕ) → NoToken style text (length text)
none-end style text k e h = let d : drop (length text) text ≡ [] = drop-length text in absurd (never k e (subst (λ (xs : List ℕ). token_at style (length text) xs ≡ Begins k e) d h))

bad-none : (style : Style) (text : List ℕ) (o : ℕ) → token_at style o (drop o text) ≡ Bad → NoToken style text o
bad-none style text o b k e h = cc

open-none : (style : Style) (text : List ℕ) (o : ℕ) → token_at style o (drop o text) ≡ Open → NoToken style text o
open-none style text o b k e h = cc

-- where a front ends, no token begins
front-none : (style : Style) (text : List ℕ) (s : Stop) → StopsAt style text s → NoToken style text (stop_place text s)
front-none style text End h = none-end style text
front-none style text (stop.BadByte o) h = bad-none style text o h.1
front-none style text (stop.OpenQuote o) h = open-none style text o h.1

pub tokens_only : (style : Style) (text : List ℕ) (r : Result (List Token) LexFault) → IfOk r (λ list. Lexes style text 0 list (length text)) → IfErr r (λ fault. HasFault style text fault) →
    (ts : List Token) → Lexes style text 0 ts (length text) → MatchResult r (λ list. list ≡ ts) (λ fault. fault ≡ NoMemory)
tokens_only style text (Ok list) found broken ts h = (Lexes-one style text 0 list ts (length text) (length text) found (none-end style text) h (none-end style text)).0
tokens_only style text (Err NoMemory) found broken ts h = refl
tokens_only style text (Err (fault.BadByte o)) found broken ts h =
    let e = (Lexes-one style text 0 broken.2 ts o (length text) broken.3 (bad-none style text o broken.1) h (none-end style text)).1 in absurd (omega (arith, broken.0, e))
tokens_only style text (Err (fault.OpenQuote o)) found broken ts h =
    let e = (Lexes-one style text 0 broken.2 ts o (length text) broken.3 (open-none style text o broken.1) h (none-end style text)).1 in absurd (omega (arith, broken.0, e))

-- ---- lines

stop_bad : (style : Style) (text : List ℕ) (o p : ℕ) → token_at style o (drop o text) ≡ Bad → token_at style p (drop p text) ≡ Open → o ≡ p → ⊥
stop_bad style text o p bad quote same =
    let here : token_at style p (drop p text) ≡ Bad = subst (λ (n : ℕ). token_at style n (drop n text) ≡ Bad) same bad in
    cc

-- a text has one front
one_stop : (style : Style) (text : List ℕ) (s t : Stop) → StopsAt style text s → StopsAt style text t → stop_place text s ≡ stop_place text t → s ≡ t
one_stop style text End End p q e = refl
one_stop style text End (stop.BadByte o) p q e = absurd (omega (arith, q.0))
one_stop style text End (stop.OpenQuote o) p q e = absurd (omega (arith, q.0))
one_stop style text (stop.BadByte o) End p q e = absurd (omega (arith, p.0))
one_stop style text (stop.BadByte o) (stop.BadByte u) p q e = ap stop.BadByte e
one_stop style text (stop.BadByte o) (stop.OpenQuote u) p q e = absurd (stop_bad style text o u p.1 q.1 e)
one_stop style text (stop.OpenQuote o) End p q e = absurd (omega (arith, p.0))
one_stop style text (stop.OpenQuote o) (stop.BadByte u) p q e = absurd (stop_bad style text u o q.1 p.1 (sym e))
one_stop style text (stop.OpenQuote o) (stop.OpenQuote u) p q e = ap stop.OpenQuote e

last_one : (xs ys : List Line) (x y : Line) → xs ++ x ∷ [] ≡ ys ++ y ∷ [] → (xs ≡ ys) × (x ≡ y)
last_one [] [] x y e = (refl, cc)
last_one [] (b ∷ []) x y e = absurd cc
last_one [] (b ∷ c ∷ ys) x y e = absurd cc
last_one (a ∷ []) [] x y e = absurd cc
last_one (a ∷ c ∷ xs) [] x y e = absurd cc
last_one (a ∷ xs) (b ∷ ys) x y e =
    let tails : xs ++ x ∷ [] ≡ ys ++ y ∷ [] = cc in
    let heads : a ≡ b = cc in
    let more = last_one xs ys x y tails in
    (cc (heads, more.0), more.1)

same_told : (a b : TextLines) → a.whole ≡ b.whole → a.broken ≡ b.broken → a ≡ b
same_told a b p q =
    let P : List Line → Option ℕ → TextLines = λ w n. record { whole = w; broken = n } in
    ap (λ (w : List Line). P w a.broken) p ∙ ap (λ (n : Option ℕ). P b.whole n) q

fault_told : (all : List Line) (a b : TextLines) → ((last : Line) × (all ≡ a.whole ++ last ∷ []) × (a.broken ≡ Some last.number)) → ((last : Line) × (all ≡ b.whole ++ last ∷ []) × (b.broken ≡ Some last.number)) → a ≡ b
fault_told all a b p q =
    let one = last_one a.whole b.whole p.0 q.0 (sym p.1 ∙ q.1) in
    same_told a b one.0 (p.2 ∙ ap (λ (line : Line). Some line.number) one.1 ∙ sym q.2)

tells_one : (s : Stop) (all : List Line) (a b : TextLines) → Tells s all a → Tells s all b → a ≡ b
tells_one End all a b p q = same_told a b (p.0 ∙ sym q.0) (p.1 ∙ sym q.1)
tells_one (stop.BadByte o) all a b p q = fault_told all a b p q
tells_one (stop.OpenQuote o) all a b p q = fault_told all a b p q

-- a text has one list of lines
pub lines_one : (text : List ℕ) (a b : TextLines) → AreLines text a → AreLines text b → a ≡ b
lines_one text a b p q =
    let s = p.lexed.stop in
    let t = q.lexed.stop in
    let one = Lexes-one Lines text 0 p.lexed.tokens q.lexed.tokens (stop_place text s) (stop_place text t) p.front.lexes (front-none Lines text s p.front.stops) q.front.lexes (front-none Lines text t q.front.stops) in
    let stops : s ≡ t = one_stop Lines text s t p.front.stops q.front.stops one.1 in
    let here : Tells t (cut text 1 q.lexed.tokens) a =
    subst (λ (ts : List Token). Tells t (cut text 1 ts) a) one.0 (subst (λ (u : Stop). Tells u (cut text 1 p.lexed.tokens) a) stops p.tells) in
    tells_one t (cut text 1 q.lexed.tokens) a b here q.tells

pub lines_only : (text : List ℕ) (r : Result TextLines AllocError) → IfOk r (λ told. AreLines text told) → IfOk r (λ told. (other : TextLines) → AreLines text other → other ≡ told)
lines_only text (Ok told) here = λ other there. lines_one text other told there here
lines_only text (Err e) here = tt

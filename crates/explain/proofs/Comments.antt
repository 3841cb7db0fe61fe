-- A comment line in front of a text: the text's tokens stand behind it, and its lines keep what they say.
use Rattle.std.proofs.Common.{◌≡◌, ℕ, ◌+◌, ◌-◌, Bool, true, false, List, [], ◌∷◌, ◌++◌, length, take, drop, Option, None, Some, refl, sym, ap, subst, ◌∙◌, append_assoc, arith}
use Rattle.std.specs.Prelude.{nat_eq, map, slice_range, ◌||◌, if◌then◌else◌}
use Rattle.std.proofs.lemmas.Bool.{eqb-true, eq-eqb}
use Rattle.std.proofs.lemmas.List.{length-append, drop_at}
use Rattle.std.proofs.Math.Seq.{drop-append-add, take-append-add, take-append_seam}
use Rattle.pq_text.specs.declared.token.Style.TheVariants.{Lines}
use Rattle.pq_text.specs.declared.token.Token.{Token}
use Rattle.pq_text.specs.declared.token.TokenKind.{TokenKind}
use Rattle.pq_text.specs.declared.token.TokenKind.TheVariants.{Word, Quoted, Number, Symbol, Eol}
use Rattle.pq_text.specs.declared.token.Stop.{Stop}
use Rattle.pq_text.specs.declared.token.Stop.TheVariants.{End, BadByte, OpenQuote}
use Rattle.pq_text.specs.declared.scan.Found.{Found}
use Rattle.pq_text.specs.declared.scan.Found.TheVariants.{Begins, Bad, Open}
use Rattle.pq_text.specs.declared.lexeme.Lexeme.{Lexeme}
use Rattle.pq_text.specs.declared.lexeme.Line.{Line}
use Rattle.pq_text.specs.Tokens.{is_letter, is_digit, is_word_byte, is_blank, first, in_comment, gap_from, run_from, end_from, is_double, is_single, symbol_end, text_found, quoted_found, token_at, Lexes, stop_place}
use Rattle.pq_text.specs.Standing.{stands_for, lexeme_for}
use Rattle.pq_text.specs.Lines.{kind_is_eol, feeds, number_at, into_first, cut, Tells, AreLines}
use Rattle.plan_form.specs.Grammar.{written, behind_tokens, ArePlanLines, SaysPlan}
use Rattle.meaning.specs.declared.types.Plan.{Plan}
use Rattle.pq_text.proofs.Pieces.{feeds-append}

-- ---- places that lie further behind

after : (k n m : ℕ) → k + n + m ≡ k + (n + m)
after k n m = omega arith

moved_if : (k : ℕ) (t : Bool) (x y m n : ℕ) → x ≡ k + m → y ≡ k + n → (if t then x else y) ≡ k + (if t then m else n)
moved_if k true x y m n e f = e
moved_if k false x y m n e f = f

run_moved : (k n : ℕ) (p : ℕ → Bool) (bs : List ℕ) → run_from (k + n) p bs ≡ k + run_from n p bs
run_moved k n p [] = refl
run_moved k n p (b ∷ bs) = moved_if k (p b) (run_from (k + n + 1) p bs) (k + n) (run_from (n + 1) p bs) n (ap (λ (m : ℕ). run_from m p bs) (after k n 1) ∙ run_moved k (n + 1) p bs) refl

gap_moved : (k n : ℕ) (comment : Bool) (bs : List ℕ) → gap_from (k + n) Lines comment bs ≡ k + gap_from n Lines comment bs
gap_moved k n comment [] = refl
gap_moved k n comment (b ∷ bs) =
    let inside = in_comment Lines comment b bs in
    moved_if k (inside || is_blank Lines b) (gap_from (k + n + 1) Lines inside bs) (k + n) (gap_from (n + 1) Lines inside bs) n
    (ap (λ (m : ℕ). gap_from m Lines inside bs) (after k n 1) ∙ gap_moved k (n + 1) inside bs) refl

abbrev moved_end : ℕ → Option ℕ → Option ℕ
moved_end k None = None
moved_end k (Some e) = Some (k + e)

end_if : (k : ℕ) (t : Bool) (x y m n : Option ℕ) → x ≡ moved_end k m → y ≡ moved_end k n → (if t then x else y) ≡ moved_end k (if t then m else n)
end_if k true x y m n e f = e
end_if k false x y m n e f = f

end_moved : (k n : ℕ) (last : Option ℕ) (doubled : Bool) (quote : ℕ) (bs : List ℕ) → end_from (k + n) (moved_end k last) doubled quote bs ≡ moved_end k (end_from n last doubled quote bs)
end_moved k n last false quote [] = refl
end_moved k n last true quote [] = refl
end_moved k n last false quote (b ∷ bs) = ap (λ (m : ℕ). end_from m (moved_end k last) (nat_eq b quote) quote bs) (after k n 1) ∙ end_moved k (n + 1) last (nat_eq b quote) quote bs
end_moved k n last true quote (b ∷ bs) =
    end_if k (nat_eq b quote) (end_from (k + n + 1) (Some (k + n)) false quote bs) (Some (k + n)) (end_from (n + 1) (Some n) false quote bs) (Some n)
    (ap (λ (m : ℕ). end_from m (Some (k + n)) false quote bs) (after k n 1) ∙ end_moved k (n + 1) (Some n) false quote bs) refl

-- ---- tokens that lie further behind

abbrev moved_found : ℕ → Found → Found
moved_found k (Begins kind e) = Begins kind (k + e)
moved_found k Bad = Bad
moved_found k Open = Open

found_if : (k : ℕ) (t : Bool) (x y m n : Found) → x ≡ moved_found k m → y ≡ moved_found k n → (if t then x else y) ≡ moved_found k (if t then m else n)
found_if k true x y m n e f = e
found_if k false x y m n e f = f

text_moved : (k : ℕ) (e : Option ℕ) → text_found (moved_end k e) ≡ moved_found k (text_found e)
text_moved k None = refl
text_moved k (Some e) = refl

same_place : (k n e : ℕ) (s t : Bool) → nat_eq (k + e) (k + n + 2) ≡ s → nat_eq e (n + 2) ≡ t → s ≡ t
same_place k n e true true a b = refl
same_place k n e false false a b = refl
same_place k n e true false a b = let same = eqb-true (k + e) (k + n + 2) a in let here : e ≡ n + 2 = omega (arith, same) in let c : nat_eq e (n + 2) ≡ true = eq-eqb e (n + 2) here in cc
same_place k n e false true a b = let same = eqb-true e (n + 2) b in let here : k + e ≡ k + n + 2 = omega (arith, same) in let c : nat_eq (k + e) (k + n + 2) ≡ true = eq-eqb (k + e) (k + n + 2) here in cc

quoted_moved : (k n : ℕ) (e : Option ℕ) → quoted_found (k + n) (moved_end k e) ≡ moved_found k (quoted_found n e)
quoted_moved k n None = refl
quoted_moved k n (Some e) =
    ap (λ (t : Bool). if t then Bad else Begins Quoted (k + e)) (same_place k n e (nat_eq (k + e) (k + n + 2)) (nat_eq e (n + 2)) refl refl)
    ∙ found_if k (nat_eq e (n + 2)) Bad (Begins Quoted (k + e)) Bad (Begins Quoted e) refl refl

symbol_moved : (k n b c : ℕ) → symbol_end (k + n) b c ≡ moved_found k (symbol_end n b c)
symbol_moved k n b c =
    found_if k (is_double b c) (Begins Symbol (k + n + 2)) (if is_single b then Begins Symbol (k + n + 1) else Bad) (Begins Symbol (n + 2)) (if is_single b then Begins Symbol (n + 1) else Bad)
    (ap (Begins Symbol) (after k n 2)) (found_if k (is_single b) (Begins Symbol (k + n + 1)) Bad (Begins Symbol (n + 1)) Bad (ap (Begins Symbol) (after k n 1)) refl)

inner_moved : (k n : ℕ) (quote : ℕ) (bs : List ℕ) → end_from (k + n + 1) None false quote bs ≡ moved_end k (end_from (n + 1) None false quote bs)
inner_moved k n quote bs = ap (λ (m : ℕ). end_from m None false quote bs) (after k n 1) ∙ end_moved k (n + 1) None false quote bs

run_found : (k n : ℕ) (kind : TokenKind) (p : ℕ → Bool) (bs : List ℕ) → Begins kind (run_from (k + n + 1) p bs) ≡ moved_found k (Begins kind (run_from (n + 1) p bs))
run_found k n kind p bs = ap (λ (m : ℕ). Begins kind (run_from m p bs)) (after k n 1) ∙ ap (Begins kind) (run_moved k (n + 1) p bs)

token_moved : (k n : ℕ) (bs : List ℕ) → token_at Lines (k + n) bs ≡ moved_found k (token_at Lines n bs)
token_moved k n [] = refl
token_moved k n (b ∷ bs) =
    found_if k (is_letter b) _ _ _ _ (run_found k n Word is_word_byte bs)
    (found_if k (is_digit b) _ _ _ _ (run_found k n Number is_digit bs)
    (found_if k (nat_eq b 39) _ _ _ _ (ap text_found (inner_moved k n 39 bs) ∙ text_moved k (end_from (n + 1) None false 39 bs))
    (found_if k (nat_eq b 34) _ _ _ _ (ap (quoted_found (k + n)) (inner_moved k n 34 bs) ∙ quoted_moved k n (end_from (n + 1) None false 34 bs))
    (found_if k (nat_eq b 10) _ _ _ _ (ap (Begins Eol) (after k n 1)) (symbol_moved k n b (first bs))))))

abbrev moved : ℕ → Token → Token
moved k t = record { kind = t.kind; start = k + t.start; «end» = k + t.end }

-- the tokens of a text stand behind whatever is in front of it
lexes_moved : (front text : List ℕ) (from : ℕ) (ts : List Token) (to : ℕ) → Lexes Lines text from ts to → Lexes Lines (front ++ text) (length front + from) (map (moved (length front)) ts) (length front + to)
lexes_moved front text from [] to lexes =
    ap (λ (n : ℕ). length front + n) lexes ∙ sym (gap_moved (length front) from false (drop from text)) ∙ ap (gap_from (length front + from) Lines false) (sym (drop-append-add front text from))
lexes_moved front text from (t ∷ ts) to (start, token, rest) = (
  ap (λ (n : ℕ). length front + n) start ∙ sym (gap_moved (length front) from false (drop from text)) ∙ ap (gap_from (length front + from) Lines false) (sym (drop-append-add front text from)),
  ap (token_at Lines (length front + t.start)) (drop-append-add front text t.start) ∙ token_moved (length front) t.start (drop t.start text) ∙ ap (moved_found (length front)) token,
  lexes_moved front text t.end ts to rest,
)

-- ---- lines that lie further behind

number_moved : (front text : List ℕ) (n : ℕ) → number_at (front ++ text) (length front + n) ≡ feeds front + number_at text n
number_moved front text n =
    let cut_there : feeds (take (length front + n) (front ++ text)) ≡ feeds front + feeds (take n text) = ap feeds (take-append-add front text n) ∙ feeds-append front (take n text) in
    omega (arith, cut_there)

slice_moved : (front text : List ℕ) (a b : ℕ) → slice_range (front ++ text) (length front + a) (length front + b) ≡ slice_range text a b
slice_moved front text a b =
    let long : length front + b - (length front + a) ≡ b - a = omega arith in
    ap (λ (n : ℕ). take n (drop (length front + a) (front ++ text))) long ∙ ap (take (b - a)) (drop-append-add front text a)

lexeme_moved : (front text : List ℕ) (t : Token) → lexeme_for (front ++ text) (moved (length front) t) ≡ lexeme_for text t
lexeme_moved front text t = ap (λ (bytes : List ℕ). let l : Lexeme = record { kind = t.kind; text = stands_for t.kind bytes } in l) (slice_moved front text t.start t.end)

abbrev line_on : ℕ → Line → Line
line_on m line = record { number = m + line.number; tokens = line.tokens }

into_moved : (m : ℕ) (l : Lexeme) (lines : List Line) → into_first l (map (line_on m) lines) ≡ map (line_on m) (into_first l lines)
into_moved m l [] = refl
into_moved m l (line ∷ lines) = refl

lines_if : (m : ℕ) (t : Bool) (x y p q : List Line) → x ≡ map (line_on m) p → y ≡ map (line_on m) q → (if t then x else y) ≡ map (line_on m) (if t then p else q)
lines_if m true x y p q e f = e
lines_if m false x y p q e f = f

cut_moved : (front text : List ℕ) (number : ℕ) (ts : List Token) → cut (front ++ text) (feeds front + number) (map (moved (length front)) ts) ≡ map (line_on (feeds front)) (cut text number ts)
cut_moved front text number [] = refl
cut_moved front text number (t ∷ ts) =
    let all = front ++ text in
    let ts' = map (moved (length front)) ts in
    let begun : Line = record { number = feeds front + number; tokens = [] } in
    lines_if (feeds front) (kind_is_eol t.kind) _ _ _ _
    (ap (λ (n : ℕ). begun ∷ cut all n ts') (number_moved front text t.end) ∙ ap (λ (ls : List Line). begun ∷ ls) (cut_moved front text (number_at text t.end) ts))
    (ap (λ (l : Lexeme). into_first l (cut all (feeds front + number) ts')) (lexeme_moved front text t) ∙ ap (into_first (lexeme_for text t)) (cut_moved front text number ts)
    ∙ into_moved (feeds front) (lexeme_for text t) (cut text number ts))

written_moved : (m : ℕ) (lines : List Line) → written (map (line_on m) lines) ≡ written lines
written_moved m [] = refl
written_moved m (line ∷ lines) = ap (behind_tokens line.tokens) (written_moved m lines)

-- ---- a comment line

abbrev pub NoFeeds : List ℕ → Type 0
NoFeeds [] = Unit {0}
NoFeeds (b ∷ bs) = (nat_eq b 10 ≡ false) × NoFeeds bs

comment_gap : (n : ℕ) (body text : List ℕ) → NoFeeds body → gap_from n Lines true (body ++ 10 ∷ text) ≡ n + length body
comment_gap n [] text none = omega arith
comment_gap n (b ∷ bs) text none = rw none.0 (comment_gap (n + 1) bs text none.1 ∙ omega arith)

module _ (body text : List ℕ) (none : NoFeeds body) where
  front : List ℕ
  front = 35 ∷ (body ++ 10 ∷ [])

  whole : front ++ text ≡ 35 ∷ (body ++ 10 ∷ text)
  unfolding front
  whole = ap (λ (bytes : List ℕ). 35 ∷ bytes) (append_assoc body (10 ∷ []) text)

  long : 1 + length body + 1 ≡ length front
  unfolding front
  long = omega (arith, length-append body (10 ∷ []))

  abbrev feed : Token
  feed = record { kind = Eol; start = 1 + length body; «end» = length front }

  feed_there : token_at Lines (1 + length body) (drop (1 + length body) (front ++ text)) ≡ Begins Eol (length front)
  unfolding front
  feed_there =
      let one : length (35 ∷ body) ≡ 1 + length body = omega arith in
      ap (λ (bytes : List ℕ). token_at Lines (1 + length body) (drop (1 + length body) bytes)) whole
      ∙ ap (token_at Lines (1 + length body)) (drop_at (35 ∷ body) (10 ∷ text) (1 + length body) one) ∙ ap (Begins Eol) long

  lexes_all : (ts : List Token) → Lexes Lines text 0 ts (length text) → Lexes Lines (front ++ text) 0 (feed ∷ map (moved (length front)) ts) (length (front ++ text))
  lexes_all ts lexes =
      let from : length front + 0 ≡ length front = omega arith in
      let to : length front + length text ≡ length (front ++ text) = sym (length-append front text) in
      let rest = subst (λ (n : ℕ). Lexes Lines (front ++ text) n (map (moved (length front)) ts) (length front + length text)) from (lexes_moved front text 0 ts (length text) lexes) in
      (sym (ap (gap_from 0 Lines false) whole ∙ comment_gap 1 body text none), feed_there, subst (Lexes Lines (front ++ text) (length front) (map (moved (length front)) ts)) to rest)

  lines_all : (ts : List Token) (lines : List Line) → lines ≡ cut text 1 ts → record { number = 1; tokens = [] } ∷ map (line_on (feeds front)) lines ≡ cut (front ++ text) 1 (feed ∷ map (moved (length front)) ts)
  lines_all ts lines are =
      let begun : Line = record { number = 1; tokens = [] } in
      let seen : number_at (front ++ text) (length front) ≡ feeds front + 1 = let e : feeds (take (length front) (front ++ text)) ≡ feeds front = ap feeds (take-append_seam front text) in omega (arith, e) in
      ap (λ (ls : List Line). begun ∷ map (line_on (feeds front)) ls) are
      ∙ ap (λ (ls : List Line). begun ∷ ls) (sym (cut_moved front text 1 ts) ∙ ap (λ (n : ℕ). cut (front ++ text) n (map (moved (length front)) ts)) (sym seen))

  are_lines : (ts : List Token) (stop : Stop) (lines : List Line) → Lexes Lines text 0 ts (stop_place text stop) → Tells stop (cut text 1 ts) (record { whole = lines; broken = None }) →
      AreLines (front ++ text) (record { whole = record { number = 1; tokens = [] } ∷ map (line_on (feeds front)) lines; broken = None })
  are_lines ts End lines lexes tells = record {
    lexed = record { tokens = feed ∷ map (moved (length front)) ts; stop = End };
    front = record { lexes = lexes_all ts lexes; stops = tt };
    tells = (lines_all ts lines tells.0, refl);
  }
  are_lines ts (BadByte offset) lines lexes tells = let e = tells.2 in absurd cc
  are_lines ts (OpenQuote offset) lines lexes tells = let e = tells.2 in absurd cc

  -- A text with a comment line in front says the same plan.
  pub comment_passed : (plan : Plan) → SaysPlan text plan → SaysPlan (35 ∷ (body ++ 10 ∷ text)) plan
  comment_passed plan (lines, are, says) =
      let same = written_moved (feeds front) lines in
      subst (λ (bytes : List ℕ). SaysPlan bytes plan) whole (
        record { number = 1; tokens = [] } ∷ map (line_on (feeds front)) lines,
        are_lines are.lexed.tokens are.lexed.stop lines are.front.lexes are.tells,
        subst (λ (ls : List (List Lexeme)). ArePlanLines ls plan) (sym same) says,
      )

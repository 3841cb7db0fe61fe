-- The lines of a text, cut token by token.
use Rattle.std.proofs.Common.{◌≡◌, ℕ, ◌+◌, ◌-◌, ◌<◌, ◌≤◌, true, false, List, [], ◌∷◌, ◌++◌, length, take, refl, sym, ap, ◌∙◌, arith, append_assoc}
use Rattle.std.specs.Prelude.{Bool, if◌then◌else◌, nat_eq, cond, slice_range}
use Rattle.std.proofs.lemmas.List.{append-nil}
use Rattle.std.proofs.lemmas.List.Sums.{sum_by-append}
use Rattle.std.proofs.Math.Seq.{take-add}
use Rattle.pq_text.specs.declared.token.Token.{Token}
use Rattle.pq_text.specs.declared.lexeme.Lexeme.{Lexeme}
use Rattle.pq_text.specs.declared.lexeme.Line.{Line}
use Rattle.pq_text.specs.Standing.{lexeme_for}
use Rattle.pq_text.specs.Lines.{kind_is_eol, feeds, number_at, into_first, cut}

-- ---- line numbers

pub number_step : (text : List ℕ) (counted place : ℕ) → counted ≤ place → number_at text counted + feeds (slice_range text counted place) ≡ number_at text place
number_step text counted place le =
    let k : counted + (place - counted) ≡ place = omega arith in
    let both : take place text ≡ take counted text ++ slice_range text counted place = ap (λ (n : ℕ). take n text) (sym k) ∙ take-add counted (place - counted) text in
    let sum : feeds (take place text) ≡ feeds (take counted text) + feeds (slice_range text counted place) =
    ap feeds both ∙ sum_by-append (λ b. cond (nat_eq b 10) 1 0) (take counted text) (slice_range text counted place) in
    omega (arith, sum)

-- ---- lines

-- the lines with these tokens in front
abbrev pub with_front : List Lexeme → List Line → List Line
with_front current [] = []
with_front current (line ∷ lines) = record { number = line.number; tokens = current ++ line.tokens } ∷ lines

pub with_nothing : (lines : List Line) → with_front [] lines ≡ lines
with_nothing [] = refl
with_nothing (line ∷ lines) = refl

with_one : (current : List Lexeme) (l : Lexeme) (lines : List Line) → with_front current (into_first l lines) ≡ with_front (current ++ l ∷ []) lines
with_one current l [] = refl
with_one current l (line ∷ lines) = ap (λ (ls : List Lexeme). let one : Line = record { number = line.number; tokens = ls } in one ∷ lines) (sym (append_assoc current (l ∷ []) line.tokens))

-- the lines behind those that are done, where some tokens of the current one are done too
abbrev pub cut_from : List ℕ → List Line → ℕ → List Lexeme → List Token → List Line
cut_from text whole number current [] = whole ++ record { number = number; tokens = current } ∷ []
cut_from text whole number current (t ∷ ts) =
    if kind_is_eol t.kind then cut_from text (whole ++ record { number = number; tokens = current } ∷ []) (number_at text t.«end») [] ts
    else cut_from text whole number (current ++ lexeme_for text t ∷ []) ts

cut_case : (text : List ℕ) (whole : List Line) (number : ℕ) (current : List Lexeme) (t : Token) (ts : List Token) (b : Bool) →
    cut_from text (whole ++ record { number = number; tokens = current } ∷ []) (number_at text t.«end») [] ts ≡ (whole ++ record { number = number; tokens = current } ∷ []) ++ with_front [] (cut text (number_at text t.«end») ts) →
    cut_from text whole number (current ++ lexeme_for text t ∷ []) ts ≡ whole ++ with_front (current ++ lexeme_for text t ∷ []) (cut text number ts) →
    cond b (cut_from text (whole ++ record { number = number; tokens = current } ∷ []) (number_at text t.«end») [] ts) (cut_from text whole number (current ++ lexeme_for text t ∷ []) ts)
    ≡ whole ++ with_front current (cond b (record { number = number; tokens = [] } ∷ cut text (number_at text t.«end») ts) (into_first (lexeme_for text t) (cut text number ts)))
cut_case text whole number current t ts true eol more =
    let line : Line = record { number = number; tokens = current } in
    let rest = cut text (number_at text t.«end») ts in
    let bare : (record { number = number; tokens = current ++ [] } ∷ rest) ≡ line ∷ rest = ap (λ (ls : List Lexeme). let one : Line = record { number = number; tokens = ls } in one ∷ rest) (append-nil current) in
    eol ∙ append_assoc whole (line ∷ []) (with_front [] rest) ∙ ap (λ (ls : List Line). whole ++ line ∷ ls) (with_nothing rest) ∙ ap (λ (ls : List Line). whole ++ ls) (sym bare)
cut_case text whole number current t ts false eol more = more ∙ ap (λ (ls : List Line). whole ++ ls) (sym (with_one current (lexeme_for text t) (cut text number ts)))

cut_from_is : (text : List ℕ) (whole : List Line) (number : ℕ) (current : List Lexeme) (ts : List Token) → cut_from text whole number current ts ≡ whole ++ with_front current (cut text number ts)
cut_from_is text whole number current [] = ap (λ (ls : List Lexeme). let one : Line = record { number = number; tokens = ls } in whole ++ one ∷ []) (sym (append-nil current))
cut_from_is text whole number current (t ∷ ts) =
    cut_case text whole number current t ts (kind_is_eol t.kind)
    (cut_from_is text (whole ++ record { number = number; tokens = current } ∷ []) (number_at text t.«end») [] ts)
    (cut_from_is text whole number (current ++ lexeme_for text t ∷ []) ts)

cut_all : (text : List ℕ) (ts : List Token) → cut text 1 ts ≡ cut_from text [] 1 [] ts
cut_all text ts = sym (cut_from_is text [] 1 [] ts ∙ with_nothing (cut text 1 ts))

-- where the loop ends, no token is left
pub cut_done : (text bytes : List ℕ) (ts left : List Token) (whole : List Line) (number : ℕ) (current : List Lexeme) → bytes ≡ text → length left < 1 →
    cut_from bytes [] 1 [] ts ≡ cut_from bytes whole number current left → cut text 1 ts ≡ whole ++ record { number = number; tokens = current } ∷ []
cut_done text bytes ts [] whole number current same none so_far = ap (λ (t : List ℕ). cut t 1 ts) (sym same) ∙ cut_all bytes ts ∙ so_far
cut_done text bytes ts (t ∷ left) whole number current same none so_far = absurd (omega arith)

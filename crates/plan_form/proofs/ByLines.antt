-- Lines that are read one behind another, each by what has been read so far: what the readers of plans and of refutations share.
use Rattle.std.proofs.Common.{◌≡◌, ℕ, List, [], ◌∷◌, ◌++◌, Option, None, Some, Result, Ok, Err, refl, sym, ap, subst, ◌∙◌, append_assoc}
use Rattle.std.specs.List.{AllZip}
use Rattle.std.proofs.lemmas.List.{append-nil}
use Rattle.lists.proofs.Members.{some_injective}
use Rattle.pq_text.specs.declared.lexeme.Lexeme.{Lexeme}
use Rattle.pq_text.specs.declared.lexeme.Line.{Line}
use Rattle.pq_text.specs.Lexemes.{◌>>=◌}
use Rattle.pq_text.specs.Forms.{Slot}
use Rattle.pq_text.proofs.Forms.{bind_some}
use Rattle.plan_form.specs.ByLines.{turn, progress_from}
use Rattle.plan_form.specs.Grammar.{IsOfForm, behind_tokens, written}

-- ---- lists of lines and forms

abbrev pub Fit : List (List Lexeme) → List (List Slot) → Type 0
Fit lines forms = AllZip IsOfForm lines forms

pub Fit-append : (xs ys : List (List Lexeme)) (a b : List (List Slot)) → Fit xs a → Fit ys b → Fit (xs ++ ys) (a ++ b)
Fit-append [] ys [] b p q = q
Fit-append [] ys (f ∷ a) b p q = absurd p
Fit-append (x ∷ xs) ys [] b p q = absurd p
Fit-append (x ∷ xs) ys (f ∷ a) b p q = (p.0, Fit-append xs ys a b p.1 q)

pub Fit-split : (lines : List (List Lexeme)) (a b : List (List Slot)) → Fit lines (a ++ b) → (xs : List (List Lexeme)) × (ys : List (List Lexeme)) × (lines ≡ xs ++ ys) × Fit xs a × Fit ys b
Fit-split lines [] b p = ([], lines, refl, tt, p)
Fit-split [] (f ∷ a) b p = absurd p
Fit-split (x ∷ lines) (f ∷ a) b p =
    let r = Fit-split lines a b p.1 in
    (x ∷ r.0, r.1, ap (λ (ls : List (List Lexeme)). x ∷ ls) r.2, (p.0, r.3), r.4)

-- ---- lines that have tokens

pub behind-append : (tokens : List Lexeme) (xs ys : List (List Lexeme)) → behind_tokens tokens (xs ++ ys) ≡ behind_tokens tokens xs ++ ys
behind-append [] xs ys = refl
behind-append (t ∷ ts) xs ys = refl

pub written-append : (xs ys : List Line) → written (xs ++ ys) ≡ written xs ++ written ys
written-append [] ys = refl
written-append (x ∷ xs) ys = ap (behind_tokens x.tokens) (written-append xs ys) ∙ behind-append x.tokens (written xs) (written ys)

-- ---- lines one behind another

module _ {P : Type 0} (forms_of : P → List (List Slot)) (IsSound : P → Type 0) where
  -- one line more has been read
  pub record Follows (done : P) (tokens : List Lexeme) (more : P) : Type 0 where
    pub form : List Slot
    pub forms_are : forms_of more ≡ forms_of done ++ form ∷ []
    pub of_form : IsOfForm tokens form
    pub sound : IsSound more

  -- what lines that were read have
  pub record AreRead (done : P) (lines : List (List Lexeme)) (last : P) : Type 0 where
    pub forms : List (List Slot)
    pub forms_are : forms_of last ≡ forms_of done ++ forms
    pub fit : Fit lines forms
    pub sound : IsSound last

module _ {P : Type 0} (next : P → List Lexeme → Option P) where
  abbrev pub read_from : P → List (List Lexeme) → Option P
  read_from done [] = Some done
  read_from done (tokens ∷ lines) = next done tokens >>= λ more. read_from more lines

  pub read-append : (done : P) (xs ys : List (List Lexeme)) → read_from done (xs ++ ys) ≡ (read_from done xs >>= λ more. read_from more ys)
  read-append done [] ys = refl
  read-append done (x ∷ xs) ys = step (next done x) (λ more. read-append more xs ys)
    where
      step : (o : Option P) → ((more : P) → read_from more (xs ++ ys) ≡ (read_from more xs >>= λ last. read_from last ys)) →
          (o >>= λ more. read_from more (xs ++ ys)) ≡ ((o >>= λ more. read_from more xs) >>= λ more. read_from more ys)
      step None again = refl
      step (Some more) again = again more

  module _ (forms_of : P → List (List Slot)) (IsSound : P → Type 0)
      (follows : (done : P) (tokens : List Lexeme) (more : P) → IsSound done → next done tokens ≡ Some more → Follows forms_of IsSound done tokens more) where
    pub lines_found : (lines : List (List Lexeme)) (done last : P) → IsSound done → read_from done lines ≡ Some last → AreRead forms_of IsSound done lines last
    lines_found [] done last sound e =
        subst (AreRead forms_of IsSound done []) (some_injective done last e) (record { forms = []; forms_are = sym (append-nil (forms_of done)); fit = tt; sound = sound })
    lines_found (tokens ∷ lines) done last sound e =
        let a = bind_some (next done tokens) (λ (more : P). read_from more lines) last e in
        let f = follows done tokens a.0 sound a.1 in
        let r = lines_found lines a.0 last f.sound a.2 in
        record {
          forms = f.form ∷ r.forms;
          forms_are = r.forms_are ∙ ap (λ (fs : List (List Slot)). fs ++ r.forms) f.forms_are ∙ append_assoc (forms_of done) (f.form ∷ []) r.forms;
          fit = (f.of_form, r.fit);
          sound = r.sound;
        }

-- ---- what has been read behind the lines, or the number of the first line that is not read

module _ {P : Type 0} where
  abbrev good : P → Result P ℕ
  good p = Ok p

  abbrev bad : ℕ → Result P ℕ
  bad n = Err n

  good_is : (a b : P) → good a ≡ good b → a ≡ b
  good_is a b e = cc

bad_is : (P : Type 0) (a b : ℕ) → bad {P = P} a ≡ bad b → a ≡ b
bad_is P a b e = cc

module _ {P : Type 0} (next : P → List Lexeme → Option P) where
  -- ---- all lines are read

  line_read : (go : P → Result P ℕ) (number : ℕ) (done last : P) (tokens : List Lexeme) (others : List (List Lexeme)) →
      ((more : P) → go more ≡ good last → read_from next more others ≡ Some last) → turn go number done tokens (next done tokens) ≡ good last → read_from next done (behind_tokens tokens others) ≡ Some last
  line_read go number done last [] others again e = again done e
  line_read go number done last (t ∷ ts) others again e = step (next done (t ∷ ts)) e
    where
      step : (o : Option P) → turn go number done (t ∷ ts) o ≡ good last → (o >>= λ more. read_from next more others) ≡ Some last
      step None e = absurd cc
      step (Some more) e = again more e

  pub all_read : (lines : List Line) (done last : P) → progress_from next done lines ≡ good last → read_from next done (written lines) ≡ Some last
  all_read [] done last e = ap (λ (p : P). Some p) (good_is done last e)
  all_read (line ∷ lines) done last e = line_read (λ more. progress_from next more lines) line.number done last line.tokens (written lines) (λ more h. all_read lines more last h) e

  -- ---- a line does not fit

  pub record Halts (done : P) (lines : List Line) (number : ℕ) : Type 0 where
    pub front : List Line
    pub line : Line
    pub behind : List Line
    pub whole : lines ≡ front ++ line ∷ behind
    pub number_is : line.number ≡ number
    pub last : P
    pub read : read_from next done (written front) ≡ Some last
    pub none : read_from next last (behind_tokens line.tokens []) ≡ None

  -- a line that is read stands before one that does not fit
  halts_behind : (line : Line) (lines : List Line) (number : ℕ) (done more : P) (r : Halts more lines number) →
      read_from next done (behind_tokens line.tokens (written r.front)) ≡ Some r.last → Halts done (line ∷ lines) number
  halts_behind line lines number done more r read = record {
    front = line ∷ r.front;
    line = r.line;
    behind = r.behind;
    whole = ap (λ (ls : List Line). line ∷ ls) r.whole;
    number_is = r.number_is;
    last = r.last;
    read = read;
    none = r.none;
  }

  line_halts : (line : Line) (lines : List Line) (go : P → Result P ℕ) (number : ℕ) (done : P) (tokens : List Lexeme) → line.tokens ≡ tokens →
      ((more : P) → go more ≡ bad number → Halts more lines number) → turn go line.number done tokens (next done tokens) ≡ bad number → Halts done (line ∷ lines) number
  line_halts line lines go number done [] is again e =
      let r = again done e in
      halts_behind line lines number done done r (subst (λ (ts : List Lexeme). read_from next done (behind_tokens ts (written r.front)) ≡ Some r.last) (sym is) r.read)
  line_halts line lines go number done (t ∷ ts) is again e = step (next done (t ∷ ts)) refl e
    where
      step : (o : Option P) → next done (t ∷ ts) ≡ o → turn go line.number done (t ∷ ts) o ≡ bad number → Halts done (line ∷ lines) number
      step None at e =
          record {
            front = [];
            line = line;
            behind = lines;
            whole = refl;
            number_is = bad_is P line.number number e;
            last = done;
            read = refl;
            none = subst (λ (us : List Lexeme). read_from next done (behind_tokens us []) ≡ None) (sym is) (ap (λ (o : Option P). o >>= λ more. read_from next more []) at);
          }
      step (Some more) at e =
          let r = again more e in
          halts_behind line lines number done more r
          (subst (λ (us : List Lexeme). read_from next done (behind_tokens us (written r.front)) ≡ Some r.last) (sym is) (ap (λ (o : Option P). o >>= λ more. read_from next more (written r.front)) at ∙ r.read))

  pub lines_halt : (lines : List Line) (number : ℕ) (done : P) → progress_from next done lines ≡ bad number → Halts done lines number
  lines_halt [] number done e = absurd cc
  lines_halt (line ∷ lines) number done e = line_halts line lines (λ more. progress_from next more lines) number done line.tokens refl (λ more h. lines_halt lines number more h) e

  -- with the line that does not fit nothing is read
  pub halted : (lines : List Line) (number : ℕ) (done : P) (r : Halts done lines number) → read_from next done (written (r.front ++ r.line ∷ [])) ≡ None
  halted lines number done r =
      ap (read_from next done) (written-append r.front (r.line ∷ [])) ∙ read-append next done (written r.front) (behind_tokens r.line.tokens [])
      ∙ ap (λ (o : Option P). o >>= λ more. read_from next more (behind_tokens r.line.tokens [])) r.read ∙ r.none

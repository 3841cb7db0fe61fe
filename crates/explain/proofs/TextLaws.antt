-- A text is read as a pair exactly where it says that pair, and otherwise its first line that does not fit is told.
use Rattle.std.proofs.Common.{◌≡◌, ℕ, List, [], ◌∷◌, ◌++◌, length, Option, None, Some, Result, Ok, Err, refl, sym, ap, subst, ◌∙◌, append_assoc, inl, inr, ◌⊎◌}
use Rattle.std.specs.Prelude.{IfOk, IfErr}
use Rattle.std.proofs.lemmas.Option.{none-some}
use Rattle.lists.proofs.Members.{some_injective}
use Rattle.pq_text.specs.declared.lexeme.Lexeme.{Lexeme}
use Rattle.pq_text.specs.declared.lexeme.Line.{Line}
use Rattle.pq_text.specs.declared.lexeme.TextLines.{TextLines}
use Rattle.pq_text.specs.Lines.{AreLines, number_at}
use Rattle.pq_text.proofs.Lexing.{lines_one}
use Rattle.pq_text.proofs.FirstBad.{utf8_clash}
use Rattle.access_schema.specs.declared.schema.Schema.{Schema}
use Rattle.plan_form.specs.Grammar.{written}
use Rattle.findings.specs.declared.refutation.Witness.{Witness}
use Rattle.explain.specs.declared.fault.WitnessReadFault.{WitnessReadFault}
use Rattle.explain.specs.declared.fault.WitnessReadFault.TheVariants as faults
use Rattle.explain.specs.declared.progress.Progress.{Progress}
use Rattle.explain.specs.declared.progress.Progress.TheVariants.{Opening, Ended}
use Rattle.explain.specs.Grammar.{AreWitnessLines, SaysWitness, IsWitnessText, BeginWitness, HasMisfit, Stops, IsFirstMisfit, IsWitnessReadFault, OkOrNoMemory}
use Rattle.explain.specs.Reading.{next_at, progress_from, witness_of, ProgressGives, HasLineFault}
use Rattle.explain.proofs.Following.{AreRead, read_from, lines_found, witness_again, read_begin, begin_read, ended_are}
use Rattle.plan_form.proofs.ByLines as by_lines
use Rattle.plan_form.proofs.ByLines.{written-append}

-- ---- reading the lines

module _ (schema : Schema) where
  all_read : (lines : List Line) (last : Progress) → progress_from schema Opening lines ≡ Ok last → read_from schema Opening (written lines) ≡ Some last
  all_read lines last e = by_lines.all_read (next_at schema) lines Opening last e

  are_read : (lines : List Line) (last : Progress) → progress_from schema Opening lines ≡ Ok last → AreRead schema Opening (written lines) last
  are_read lines last e = lines_found schema (written lines) Opening last tt (all_read lines last e)

  has_misfit : (lines : List Line) (number : ℕ) → progress_from schema Opening lines ≡ Err number → HasMisfit schema lines number
  has_misfit lines number e =
      let r = by_lines.lines_halt (next_at schema) lines number Opening e in
      record {
        before = r.front;
        line = r.line;
        after = r.behind;
        whole = r.whole;
        number_is = r.number_is;
        begins = read_begin schema (written r.front) r.last (lines_found schema (written r.front) Opening r.last tt r.read);
        none = λ begins.
            let other = begin_read schema (written (r.front ++ r.line ∷ [])) begins in
            none-some other.0 (sym (by_lines.halted (next_at schema) lines number Opening r) ∙ other.1);
      }

  -- ---- texts

  ended_is : (last : Progress) (pair : Witness) → witness_of last ≡ Some pair → last ≡ Ended pair
  ended_is (Ended other) pair e = cc
  ended_is _ pair e = absurd cc

  pub text_read : (text : List ℕ) (told : TextLines) (last : Progress) (pair : Witness) → AreLines text told → told.broken ≡ None → progress_from schema Opening told.whole ≡ Ok last → witness_of last ≡ Some pair → SaysWitness schema text pair
  text_read text told last pair lines whole e ends =
      let P : Option ℕ → TextLines = λ b. record { whole = told.whole; broken = b } in
      let read = e ∙ ap (λ (p : Progress). Ok p) (ended_is last pair ends) in
      (told.whole, subst (λ (b : Option ℕ). AreLines text (P b)) whole lines, ended_are schema (written told.whole) pair (are_read told.whole (Ended pair) read))

  pub text_broken : (text : List ℕ) (told : TextLines) (last : Progress) (number : ℕ) → AreLines text told → told.broken ≡ Some number → progress_from schema Opening told.whole ≡ Ok last → IsFirstMisfit schema text number
  text_broken text told last number lines broken e =
      (told, lines, inr (read_begin schema (written told.whole) last (are_read told.whole last e), subst (λ (b : Option ℕ). Stops schema text told b number) (sym broken) refl))

  pub text_early : (text : List ℕ) (told : TextLines) (last : Progress) (number : ℕ) → AreLines text told → told.broken ≡ None → progress_from schema Opening told.whole ≡ Ok last → witness_of last ≡ None →
      number ≡ number_at text (length text) → IsFirstMisfit schema text number
  text_early text told last number lines whole e early is =
      let never : (pair : Witness) → AreWitnessLines schema (written told.whole) pair → ⊥ = λ pair are. none-some pair (sym early ∙ ap witness_of (some_injective last (Ended pair) (sym (all_read told.whole last e) ∙ witness_again schema pair (written told.whole) are))) in
      (told, lines, inr (read_begin schema (written told.whole) last (are_read told.whole last e), subst (λ (b : Option ℕ). Stops schema text told b number) (sym whole) (never, is)))

  pub text_misfit : (text : List ℕ) (told : TextLines) (number : ℕ) → AreLines text told → progress_from schema Opening told.whole ≡ Err number → IsFirstMisfit schema text number
  text_misfit text told number lines e = (told, lines, inl (has_misfit told.whole number e))

  pub fault_is : (text : List ℕ) (told : TextLines) (fault : WitnessReadFault) → AreLines text told → ProgressGives (Err fault) (progress_from schema Opening told.whole) → HasLineFault schema text fault
  fault_is text told faults.NoMemory lines e = tt
  fault_is text told (faults.NotUtf8 offset) lines e = e
  fault_is text told (faults.Line number) lines e = text_misfit text told number lines e

  -- ---- one answer

  pairs_same : (a b : Witness) → Some (Ended a) ≡ Some (Ended b) → a ≡ b
  pairs_same a b e = cc

  pub pair_one : (text : List ℕ) (a b : Witness) → SaysWitness schema text a → SaysWitness schema text b → a ≡ b
  pair_one text a b p q =
      let P : List Line → TextLines = λ ls. record { whole = ls; broken = None } in
      let same = ap (λ (t : TextLines). t.whole) (lines_one text (P p.0) (P q.0) p.1 q.1) in
      let here = subst (λ (ls : List Line). AreWitnessLines schema (written ls) a) same p.2 in
      pairs_same a b (sym (witness_again schema a (written q.0) here) ∙ witness_again schema b (written q.0) q.2)

  misfit_never : (lines : List Line) (number : ℕ) (pair : Witness) → HasMisfit schema lines number → AreWitnessLines schema (written lines) pair → ⊥
  misfit_never lines number pair m are =
      let front = m.before ++ m.line ∷ [] in
      let split : lines ≡ front ++ m.after = m.whole ∙ sym (append_assoc m.before (m.line ∷ []) m.after) in
      let apart : written lines ≡ written front ++ written m.after = ap written split ∙ written-append front m.after in
      m.none (written m.after, pair, subst (λ (ls : List (List Lexeme)). AreWitnessLines schema ls pair) apart are)

  stops_never : (text : List ℕ) (told : TextLines) (b : Option ℕ) (number : ℕ) (pair : Witness) → b ≡ None → Stops schema text told b number → AreWitnessLines schema (written told.whole) pair → ⊥
  stops_never text told (Some n) number pair e s are = cc
  stops_never text told None number pair e s are = s.0 pair are

  first_never : (text : List ℕ) (number : ℕ) (pair : Witness) (told other : TextLines) → told ≡ other → other.broken ≡ None → AreWitnessLines schema (written other.whole) pair →
      (HasMisfit schema told.whole number ⊎ (BeginWitness schema (written told.whole) × Stops schema text told told.broken number)) → ⊥
  first_never text number pair told other same whole are (inl m) = misfit_never told.whole number pair m (subst (λ (t : TextLines). AreWitnessLines schema (written t.whole) pair) (sym same) are)
  first_never text number pair told other same whole are (inr s) =
      stops_never text told told.broken number pair (ap (λ (t : TextLines). t.broken) same ∙ whole) s.1 (subst (λ (t : TextLines). AreWitnessLines schema (written t.whole) pair) (sym same) are)

  -- the text of a refutation has no first line that does not fit
  misfit_clash : (text : List ℕ) (number : ℕ) (pair : Witness) → IsFirstMisfit schema text number → SaysWitness schema text pair → ⊥
  misfit_clash text number pair fault is =
      let other : TextLines = record { whole = is.0; broken = None } in
      first_never text number pair fault.0 other (lines_one text fault.0 other fault.1 is.1) refl is.2 fault.2

  pub text_only : (text : List ℕ) (r : Result Witness WitnessReadFault) → IfOk r (λ pair. IsWitnessText schema text pair) → IfErr r (λ fault. HasLineFault schema text fault) → (pair : Witness) → IsWitnessText schema text pair → OkOrNoMemory pair r
  text_only text (Ok found) read fault pair is = pair_one text found pair read.1 is.1
  text_only text (Err faults.NoMemory) read fault pair is = tt
  text_only text (Err (faults.NotUtf8 offset)) read fault pair is = absurd fault
  text_only text (Err (faults.Line number)) read fault pair is = misfit_clash text number pair fault is.1

  -- The text of a refutation has no fault.
  pub no_fault : (bytes : List ℕ) (pair : Witness) (fault : WitnessReadFault) → IsWitnessText schema bytes pair → IsWitnessReadFault schema bytes fault → fault ≡ faults.NoMemory
  no_fault bytes pair faults.NoMemory is has = refl
  no_fault bytes pair (faults.NotUtf8 offset) is has = absurd (utf8_clash bytes offset has is.0)
  no_fault bytes pair (faults.Line number) is has = absurd (misfit_clash bytes number pair has.1 is.1)

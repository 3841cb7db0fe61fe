-- A text is read as a plan exactly where it is that plan's, and otherwise its first line that does not fit is told.
use Rattle.std.proofs.Common.{◌≡◌, ℕ, List, [], ◌∷◌, ◌++◌, length, Option, None, Some, Result, Ok, Err, refl, sym, ap, subst, ◌∙◌, append_assoc, inl, inr, ◌⊎◌}
use Rattle.std.specs.Prelude.{IfOk, IfErr}
use Rattle.std.proofs.lemmas.Option.{none-some}
use Rattle.lists.proofs.Members.{some_injective}
use Rattle.pq_text.specs.declared.lexeme.Lexeme.{Lexeme}
use Rattle.pq_text.specs.declared.lexeme.Line.{Line}
use Rattle.pq_text.specs.declared.lexeme.TextLines.{TextLines}
use Rattle.pq_text.specs.Lines.{AreLines, number_at}
use Rattle.pq_text.proofs.Lexing.{lines_one}
use Rattle.pq_text.proofs.FirstBad.{utf8_clash}
use Rattle.meaning.specs.declared.types.Plan.{Plan}
use Rattle.plan_form.specs.declared.fault.PlanReadFault.{PlanReadFault}
use Rattle.plan_form.specs.declared.fault.PlanReadFault.TheVariants as faults
use Rattle.plan_form.specs.declared.progress.Progress.{Progress}
use Rattle.plan_form.specs.declared.progress.Progress.TheVariants.{Opening, Ended}
use Rattle.plan_form.specs.Grammar.{ArePlanLines, written, SaysPlan, IsPlanText, BeginPlan, HasMisfit, Stops, IsFirstMisfit, IsPlanReadFault, OkOrNoMemory}
use Rattle.plan_form.specs.Reading.{next_at, progress_from, plan_of, ProgressGives, HasLineFault}
use Rattle.plan_form.proofs.ByLines as by_lines
use Rattle.plan_form.proofs.ByLines.{written-append}
use Rattle.plan_form.proofs.Following.{AreRead, read_from, lines_found, plan_again, read_begin, begin_read, ended_are}

-- ---- reading the lines

all_read : (lines : List Line) (last : Progress) → progress_from Opening lines ≡ Ok last → read_from Opening (written lines) ≡ Some last
all_read lines last e = by_lines.all_read next_at lines Opening last e

are_read : (lines : List Line) (last : Progress) → progress_from Opening lines ≡ Ok last → AreRead Opening (written lines) last
are_read lines last e = lines_found (written lines) Opening last tt (all_read lines last e)

has_misfit : (lines : List Line) (number : ℕ) → progress_from Opening lines ≡ Err number → HasMisfit lines number
has_misfit lines number e =
    let r = by_lines.lines_halt next_at lines number Opening e in
    record {
      before = r.front;
      line = r.line;
      after = r.behind;
      whole = r.whole;
      number_is = r.number_is;
      begins = read_begin (written r.front) r.last (lines_found (written r.front) Opening r.last tt r.read);
      none = λ begins.
          let other = begin_read (written (r.front ++ r.line ∷ [])) begins in
          none-some other.0 (sym (by_lines.halted next_at lines number Opening r) ∙ other.1);
    }

-- ---- texts

ended_is : (last : Progress) (plan : Plan) → plan_of last ≡ Some plan → last ≡ Ended plan
ended_is (Ended other) plan e = cc
ended_is _ plan e = absurd cc

pub text_read : (text : List ℕ) (told : TextLines) (last : Progress) (plan : Plan) → AreLines text told → told.broken ≡ None → progress_from Opening told.whole ≡ Ok last → plan_of last ≡ Some plan → SaysPlan text plan
text_read text told last plan lines whole e ends =
    let P : Option ℕ → TextLines = λ b. record { whole = told.whole; broken = b } in
    let read = e ∙ ap (λ (p : Progress). Ok p) (ended_is last plan ends) in
    (told.whole, subst (λ (b : Option ℕ). AreLines text (P b)) whole lines, ended_are (written told.whole) plan (are_read told.whole (Ended plan) read))

pub text_broken : (text : List ℕ) (told : TextLines) (last : Progress) (number : ℕ) → AreLines text told → told.broken ≡ Some number → progress_from Opening told.whole ≡ Ok last → IsFirstMisfit text number
text_broken text told last number lines broken e =
    (told, lines, inr (read_begin (written told.whole) last (are_read told.whole last e), subst (λ (b : Option ℕ). Stops text told b number) (sym broken) refl))

pub text_early : (text : List ℕ) (told : TextLines) (last : Progress) (number : ℕ) → AreLines text told → told.broken ≡ None → progress_from Opening told.whole ≡ Ok last → plan_of last ≡ None →
    number ≡ number_at text (length text) → IsFirstMisfit text number
text_early text told last number lines whole e early is =
    let never : (plan : Plan) → ArePlanLines (written told.whole) plan → ⊥ = λ plan are. none-some plan (sym early ∙ ap plan_of (some_injective last (Ended plan) (sym (all_read told.whole last e) ∙ plan_again plan (written told.whole) are))) in
    (told, lines, inr (read_begin (written told.whole) last (are_read told.whole last e), subst (λ (b : Option ℕ). Stops text told b number) (sym whole) (never, is)))

pub text_misfit : (text : List ℕ) (told : TextLines) (number : ℕ) → AreLines text told → progress_from Opening told.whole ≡ Err number → IsFirstMisfit text number
text_misfit text told number lines e = (told, lines, inl (has_misfit told.whole number e))

pub fault_is : (text : List ℕ) (told : TextLines) (fault : PlanReadFault) → AreLines text told → ProgressGives (Err fault) (progress_from Opening told.whole) → HasLineFault text fault
fault_is text told faults.NoMemory lines e = tt
fault_is text told (faults.NotUtf8 offset) lines e = e
fault_is text told (faults.Line number) lines e = text_misfit text told number lines e

-- ---- one answer

plans_same : (a b : Plan) → Some (Ended a) ≡ Some (Ended b) → a ≡ b
plans_same a b e = cc

pub plan_one : (text : List ℕ) (a b : Plan) → SaysPlan text a → SaysPlan text b → a ≡ b
plan_one text a b p q =
    let P : List Line → TextLines = λ ls. record { whole = ls; broken = None } in
    let same = ap (λ (t : TextLines). t.whole) (lines_one text (P p.0) (P q.0) p.1 q.1) in
    let here = subst (λ (ls : List Line). ArePlanLines (written ls) a) same p.2 in
    plans_same a b (sym (plan_again a (written q.0) here) ∙ plan_again b (written q.0) q.2)

misfit_never : (lines : List Line) (number : ℕ) (plan : Plan) → HasMisfit lines number → ArePlanLines (written lines) plan → ⊥
misfit_never lines number plan m are =
    let front = m.before ++ m.line ∷ [] in
    let split : lines ≡ front ++ m.after = m.whole ∙ sym (append_assoc m.before (m.line ∷ []) m.after) in
    let apart : written lines ≡ written front ++ written m.after = ap written split ∙ written-append front m.after in
    m.none (written m.after, plan, subst (λ (ls : List (List Lexeme)). ArePlanLines ls plan) apart are)

stops_never : (text : List ℕ) (told : TextLines) (b : Option ℕ) (number : ℕ) (plan : Plan) → b ≡ None → Stops text told b number → ArePlanLines (written told.whole) plan → ⊥
stops_never text told (Some n) number plan e s are = cc
stops_never text told None number plan e s are = s.0 plan are

first_never : (text : List ℕ) (number : ℕ) (plan : Plan) (told other : TextLines) → told ≡ other → other.broken ≡ None → ArePlanLines (written other.whole) plan →
    (HasMisfit told.whole number ⊎ (BeginPlan (written told.whole) × Stops text told told.broken number)) → ⊥
first_never text number plan told other same whole are (inl m) = misfit_never told.whole number plan m (subst (λ (t : TextLines). ArePlanLines (written t.whole) plan) (sym same) are)
first_never text number plan told other same whole are (inr s) =
    stops_never text told told.broken number plan (ap (λ (t : TextLines). t.broken) same ∙ whole) s.1 (subst (λ (t : TextLines). ArePlanLines (written t.whole) plan) (sym same) are)

-- the text of a plan has no first line that does not fit
misfit_clash : (text : List ℕ) (number : ℕ) (plan : Plan) → IsFirstMisfit text number → SaysPlan text plan → ⊥
misfit_clash text number plan fault is =
    let other : TextLines = record { whole = is.0; broken = None } in
    first_never text number plan fault.0 other (lines_one text fault.0 other fault.1 is.1) refl is.2 fault.2

pub text_only : (text : List ℕ) (r : Result Plan PlanReadFault) → IfOk r (λ plan. IsPlanText text plan) → IfErr r (λ fault. HasLineFault text fault) → (plan : Plan) → IsPlanText text plan → OkOrNoMemory plan r
text_only text (Ok found) read fault plan is = plan_one text found plan read.1 is.1
text_only text (Err faults.NoMemory) read fault plan is = tt
text_only text (Err (faults.NotUtf8 offset)) read fault plan is = absurd fault
text_only text (Err (faults.Line number)) read fault plan is = misfit_clash text number plan fault is.1

-- The text of a plan has no fault.
pub no_fault : (bytes : List ℕ) (plan : Plan) (fault : PlanReadFault) → IsPlanText bytes plan → IsPlanReadFault bytes fault → fault ≡ faults.NoMemory
no_fault bytes plan faults.NoMemory is has = refl
no_fault bytes plan (faults.NotUtf8 offset) is has = absurd (utf8_clash bytes offset has is.0)
no_fault bytes plan (faults.Line number) is has = absurd (misfit_clash bytes number plan has.1 is.1)

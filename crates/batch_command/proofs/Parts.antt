-- The texts of rows, each behind the line of its number.
use Rattle.std.proofs.Common.{◌≡◌, ◌∙◌, ℕ, zero, suc, ◌+◌, ◌<◌, List, [], ◌∷◌, ◌++◌, length, Some, refl, sym, ap, subst, inl, inr}
use Rattle.std.proofs.Common.{⊎_elim, arith, append_assoc, get_or, length-append}
use Rattle.std.specs.Prelude.{Contains, slice_get, ◌⊎◌}
use Rattle.std.proofs.lemmas.List.{append-nil}
use Rattle.lists.proofs.Members.{some_injective, none_some}
use Rattle.lists.proofs.Places.{got_indexed}
use Rattle.meaning.specs.declared.types.Statement.{Statement}
use Rattle.meaning.specs.declared.types.Plan.{Plan}
use Rattle.sql_select.specs.Statements.{result_names}
use Rattle.row_text.specs.RowText.{IsRowText}
use Rattle.middleware.specs.declared.fault.Run.{Run}
use Rattle.batch_command.specs.Ends.{answer_line, parts_text, AreParts, IsGiven}

parts_push : (number : ℕ) (parts : List (List ℕ)) (part : List ℕ) →
    parts_text number (parts ++ part ∷ []) ≡ parts_text number parts ++ (answer_line (number + length parts) ++ part)
parts_push number [] part =
    let e : number ≡ number + 0 = omega arith in
    append-nil (answer_line number ++ part) ∙ ap (λ n. answer_line n ++ part) e
parts_push number (one ∷ parts) part =
    let e : number + 1 + length parts ≡ number + length (one ∷ parts) = omega arith in
    ap (λ text. answer_line number ++ one ++ text) (parts_push (number + 1) parts part)
    ∙ sym (append_assoc (answer_line number ++ one) (parts_text (number + 1) parts) (answer_line (number + 1 + length parts) ++ part))
    ∙ ap (λ n. (answer_line number ++ one ++ parts_text (number + 1) parts) ++ (answer_line n ++ part)) e

-- a member of a list that has one more at its end
got_pushed : (parts : List (List ℕ)) (part : List ℕ) (k : ℕ) (its : List ℕ) → slice_get (parts ++ part ∷ []) k ≡ Some its →
    (slice_get parts k ≡ Some its) ⊎ ((k ≡ length parts) × (part ≡ its))
got_pushed [] part zero its e = inr (refl, some_injective part its e)
got_pushed [] part (suc k) its e = absurd (none_some its e)
got_pushed (one ∷ parts) part zero its e = inl e
got_pushed (one ∷ parts) part (suc k) its e = ⊎_elim (λ there. inl there) (λ here. let last = here.0 in
    inr (omega (arith, last), here.1)) (got_pushed parts part k its e)

-- The text has the parts of the runs up to here.
pub record PartsSofar (statements : List Statement) (runs : List Run) (done : ℕ) (text : List ℕ) : Type 0 where
  pub parts : List (List ℕ)
  pub count : length parts ≡ done
  pub each : (k : ℕ) (statement : Statement) (run : Run) (part : List ℕ) → slice_get statements k ≡ Some statement →
      slice_get runs k ≡ Some run → slice_get parts k ≡ Some part →
      IsRowText (result_names statement.selects) (Contains run.rows) part
  pub text_is : text ≡ parts_text 1 parts

pub sofar_start : (statements : List Statement) (runs : List Run) → PartsSofar statements runs 0 []
sofar_start statements runs = record {
  parts = [];
  count = refl;
  each = λ k statement run part at_statement at_run at_part. absurd (none_some part at_part);
  text_is = refl;
}

pub sofar_more : (statements : List Statement) (runs : List Run) (i : ℕ) (old new : List ℕ) (statement : Statement) (run : Run)
    (part : List ℕ) →
    i < length statements → statement ≡ get_or statements i statement → i < length runs → run ≡ get_or runs i run →
    IsRowText (result_names statement.selects) (Contains run.rows) part → new ≡ old ++ (answer_line (i + 1) ++ part) →
    PartsSofar statements runs i old → PartsSofar statements runs (i + 1) new
sofar_more statements runs i old new statement run part low is low_run is_run given text sofar = record {
  parts = sofar.parts ++ part ∷ [];
  count = let count = sofar.count in let e : length (sofar.parts ++ part ∷ []) ≡ length sofar.parts + 1 =
      search (arith, length-append) in omega (arith, count, e);
  each = λ k its_statement its_run its at_statement at_run at_part. ⊎_elim
      (λ there. sofar.each k its_statement its_run its at_statement at_run there)
      (λ here. last k its_statement its_run its at_statement at_run (here.0 ∙ sofar.count) here.1)
      (got_pushed sofar.parts part k its at_part);
  text_is =
      let count = sofar.count in
      let e : i + 1 ≡ 1 + length sofar.parts = omega (arith, count) in
      text ∙ ap (λ front. front ++ (answer_line (i + 1) ++ part)) sofar.text_is
      ∙ ap (λ n. parts_text 1 sofar.parts ++ (answer_line n ++ part)) e ∙ sym (parts_push 1 sofar.parts part);
}
  where
    last : (k : ℕ) (its_statement : Statement) (its_run : Run) (its : List ℕ) → slice_get statements k ≡ Some its_statement →
        slice_get runs k ≡ Some its_run → k ≡ i → part ≡ its →
        IsRowText (result_names its_statement.selects) (Contains its_run.rows) its
    last k its_statement its_run its at_statement at_run place same =
        let statement_is : statement ≡ its_statement = some_injective statement its_statement
        (sym (got_indexed statements i statement low is) ∙ ap (slice_get statements) (sym place) ∙ at_statement) in
        let run_is : run ≡ its_run = some_injective run its_run (sym (got_indexed runs i run low_run is_run)
        ∙ ap (slice_get runs) (sym place) ∙ at_run) in
        subst (λ p. IsRowText (result_names its_statement.selects) (Contains its_run.rows) p) same
        (subst (λ r. IsRowText (result_names its_statement.selects) (Contains r.rows) part) run_is
        (subst (λ s. IsRowText (result_names s.selects) (Contains run.rows) part) statement_is given))

-- the parts of all runs, whatever the plans are
pub sofar_all : (statements : List Statement) (plans : List Plan) (runs : List Run) (text : List ℕ) → length statements ≡ length runs →
    PartsSofar statements runs (length runs) text →
    AreParts IsGiven statements plans runs text
sofar_all statements plans runs text same sofar = record {
  parts = sofar.parts;
  count = sofar.count ∙ sym same;
  each = λ k statement plan run part at_statement at_plan at_run at_part. sofar.each k statement run part at_statement at_run at_part;
  text_is = sofar.text_is;
}

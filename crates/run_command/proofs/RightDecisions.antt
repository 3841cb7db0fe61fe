-- A decision is right, and its text shows it.
use Rattle.std.proofs.Common.{◌≡◌, ◌≢◌, ℕ, List, [], ◌∷◌, length, refl, sym, ap, ◌∙◌, subst, arith}
use Rattle.std.specs.Prelude.{Contains}
use Rattle.std.specs.Str.{IsUtf8}
use Rattle.lists.proofs.Members.{contains_here, contains_one}
use Rattle.meaning.specs.declared.types.Fact.{Fact}
use Rattle.meaning.specs.declared.types.Plan.{Plan as PlanOf}
use Rattle.meaning.specs.declared.types.Select.{Select}
use Rattle.meaning.specs.declared.types.Statement.{Statement}
use Rattle.meaning.specs.Values.{Value}
use Rattle.meaning.specs.Instances.{IsWithin}
use Rattle.meaning.specs.Answers.{AnswersSelect}
use Rattle.meaning_laws.proofs.Members.{answers_within}
use Rattle.integer_laws.specs.Claimed.{RefutesSorted}
use Rattle.access_schema.specs.declared.schema.Schema.{Schema}
use Rattle.access_schema.specs.Meaning.{meaning_of}
use Rattle.sql_select.specs.Statements.{StatementFits}
use Rattle.plan_form.specs.Fitting.{PlanFits}
use Rattle.findings.specs.declared.refutation.Witness.{Witness}
use Rattle.findings.specs.declared.decision.Chosen.{Chosen}
use Rattle.findings.specs.declared.decision.Decision.{Decision}
use Rattle.findings.specs.declared.decision.Decision.TheVariants.{NoPlan}
use Rattle.fact_lines.specs.Lines.{IsListing}
use Rattle.explain.specs.Printing.{IsPrintedWitness, IsDecisionText, planned_text}
use Rattle.explain.specs.Grammar.{FitsSchema, HasSameFacts, IsReadAs}
use Rattle.explain.proofs.PrintLaws.{printed_again}
use Rattle.explain.proofs.Entries.{planned_again}
use Rattle.proof_search.specs.Plans.{IsPlanFor, known_of}
use Rattle.proof_search.specs.Chosen.{AreChosen}
use Rattle.proof_search.specs.Decisions.{IsRefutation, IsDecision}
use Rattle.proof_search.specs.Decisions.IsDecision.{plan as plan_found, no_plan as no_plan_found, undecided as none_found}
use Rattle.run_command.specs.Deciding.{IsPlanned, IsDecided, IsRefuted, Shows, outcome_of}
use Rattle.run_command.specs.Deciding.IsDecided.{plan, no_plan, undecided}
use Rattle.run_command.specs.Deciding.Shows.{plan as shows_plan, no_plan as shows_none, undecided as shows_log}
use Rattle.run_command.proofs.Fits.{plan_fits}
use Rattle.run_command.proofs.Sorted.{refutes_sorted_alike}

-- what the search decides is right, and a plan can be written
pub decided_right : (schema : Schema) (statement : Statement) (firings search : ℕ) (decision : Decision) → StatementFits schema statement →
    IsDecision schema statement firings search decision → IsDecided schema statement firings search decision
decided_right schema statement firings search decision fits (plan_found of entries is few chosen) = plan of entries is (plan_fits schema statement of fits is few) chosen
decided_right schema statement firings search decision fits (no_plan_found pair is) = no_plan pair is
decided_right schema statement firings search decision fits (none_found select log is) = undecided select log is

-- a plan whose text is UTF-8 is read again
pub planned : (schema : Schema) (statement : Statement) (firings search : ℕ) (of : PlanOf) (entries : List Chosen) → IsPlanFor schema statement of → PlanFits of →
    AreChosen schema statement firings search statement.selects of.branches entries → IsUtf8 (planned_text entries of) → IsPlanned schema statement firings search of entries
planned schema statement firings search of entries is fits chosen utf8 = record { is = is; fits = fits; chosen = chosen; reads = (utf8, planned_again entries of fits.writable) }

-- an answer that is as wide as each select is not empty
some_answer : (schema : Schema) (statement : Statement) (answer : List Value) → StatementFits schema statement →
    ((select : Select) → Contains statement.selects select → length answer ≡ length select.items) → answer ≢ []
some_answer schema statement answer fits wide none = of_selects statement.selects refl
  where
    of_selects : (selects : List Select) → statement.selects ≡ selects → ⊥
    of_selects [] are = let short : length statement.selects ≡ 0 = ap length are in let one = fits.some in absurd (omega (arith, short, one))
    of_selects (select ∷ selects) are =
        let among : Contains statement.selects select = subst (λ list. Contains list select) (sym are) (contains_here select selects) in
        let empty : length answer ≡ 0 = ap length none in
        let width = wide select among in
        let some = (fits.bounded select among).some_items in
        omega (arith, empty, width, some)

-- the listing of an instance is that of each instance with the same facts
listing_alike : (instance other listing : List Fact) → IsWithin instance other → IsWithin other instance → IsListing instance listing → IsListing other listing
listing_alike instance other listing there only is = record {
  ascends = is.ascends;
  same = λ fact. ((λ among. there fact ((is.same fact).0 among)), (λ among. (is.same fact).1 (only fact among)));
}

-- the text of a pair is that of each pair with the same facts and the same answer
printed_alike : (schema : Schema) (pair other : Witness) (text : List ℕ) → HasSameFacts pair other → IsPrintedWitness schema pair text → IsPrintedWitness schema other text
printed_alike schema pair other text same is = record {
  ordered = is.ordered;
  is_ordered = record {
    first = listing_alike pair.first other.first is.ordered.first same.first_there same.first_only is.is_ordered.first;
    second = listing_alike pair.second other.second is.ordered.second same.second_there same.second_only is.is_ordered.second;
    answer = is.is_ordered.answer ∙ sym same.answer;
  };
  text_is = is.text_is;
}

-- an answer of a select is one wherever its facts are
answered_within : (select : Select) (first other : List Fact) (row : List Value) → IsWithin first other → AnswersSelect select first row → AnswersSelect select other row
answered_within select first other row within answer =
    let (same, among, its) = answers_within first other (record { selects = select ∷ [] }) row within (select, contains_here select [], answer) in
    subst (λ (s : Select). AnswersSelect s other row) (sym (contains_one select same among)) its

-- what is read of a refutation refutes
pub refuted : (schema : Schema) (statement : Statement) (firings : ℕ) (pair : Witness) (text : List ℕ) → StatementFits schema statement →
    IsRefutation schema statement firings pair → IsDecisionText schema (NoPlan pair) text → IsUtf8 text → IsRefuted schema statement firings text
refuted schema statement firings pair text fits is of utf8 =
    let fitting : FitsSchema schema pair = record {
      first = is.refutes.refutes.first_meets.fits;
      second = is.refutes.refutes.second_meets.fits;
      some = some_answer schema statement pair.answer fits is.wide;
    } in
    let again : IsReadAs schema text pair = printed_again schema pair text fitting of in
    record {
      pair = again.read;
      printed = printed_alike schema pair again.read text again.same of;
      reads = (utf8, again.says);
      refutes = record {
        refutes = subst
            (RefutesSorted (meaning_of schema) (known_of schema statement) statement again.read.first again.read.second)
            (sym again.same.answer) (refutes_sorted_alike (meaning_of schema) (known_of schema statement) statement
            pair.first pair.second again.read.first again.read.second pair.answer
            again.same.first_there again.same.first_only again.same.second_there again.same.second_only is.refutes);
        none = is.none;
        wide = λ select among. ap length again.same.answer ∙ is.wide select among;
        number = is.number;
        select = is.select;
        of_statement = is.of_statement;
        answered = subst (AnswersSelect is.select again.read.first) (sym again.same.answer)
            (answered_within is.select pair.first again.read.first pair.answer again.same.first_there is.answered);
        before = is.before;
      };
    }

-- the text of what is decided shows it
pub shown : (schema : Schema) (statement : Statement) (firings search : ℕ) (decision : Decision) (text : List ℕ) → StatementFits schema statement →
    IsDecided schema statement firings search decision → IsDecisionText schema decision text → IsUtf8 text →
    Shows schema statement firings search text (outcome_of decision)
shown schema statement firings search decision text fits (plan of entries is can chosen) said utf8 =
    shows_plan of entries (planned schema statement firings search of entries is can chosen (subst IsUtf8 said utf8)) said
shown schema statement firings search decision text fits (no_plan pair is) said utf8 = shows_none (refuted schema statement firings pair text fits is said utf8)
shown schema statement firings search decision text fits (undecided select log is) said utf8 = shows_log select log is said

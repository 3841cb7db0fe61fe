-- Lines follow each other as a refutation's lines exactly where they are read one behind another.
use Rattle.std.proofs.Common.{◌≡◌, ℕ, Bool, true, false, cond, List, [], ◌∷◌, ◌++◌, map, Option, None, Some, refl, sym, ap, subst, ◌∙◌, append_assoc, ⊎_elim, slice_get, arith}
use Rattle.std.specs.Prelude.{codes, Contains, ◌≢◌}
use Rattle.std.proofs.lemmas.List.{append-nil, map-append}
use Rattle.std.proofs.lemmas.List.Elements.{Contains-push_cases}
use Rattle.lists.proofs.Members.{contains_here, contains_there, some_injective}
use Rattle.lists.proofs.Booleans.{cond_some}
use Rattle.pq_text.specs.declared.lexeme.Lexeme.{Lexeme}
use Rattle.pq_text.specs.declared.token.TokenKind.TheVariants.{Word, Text}
use Rattle.pq_text.specs.Lexemes.{◌>>=◌}
use Rattle.pq_text.specs.Forms.{Slot}
use Rattle.pq_text.proofs.Forms.{bind_some}
use Rattle.meaning.specs.declared.types.Fact.{Fact}
use Rattle.meaning.specs.Instances.{FitsRelation, IsInstance}
use Rattle.access_schema.specs.declared.schema.Schema.{Schema}
use Rattle.access_schema.specs.Meaning.{meaning_of}
use Rattle.plan_form.specs.Grammar.{IsOfForm}
use Rattle.findings.specs.declared.refutation.Witness.{Witness}
use Rattle.explain.specs.declared.progress.Progress.{Progress}
use Rattle.explain.specs.declared.progress.Progress.TheVariants.{Opening, Opened, Answered, First, Second, Ended}
use Rattle.explain.specs.Grammar.{word_form, opening_form, answer_form, name_of, fact_form, facts_forms, witness_forms, FitsSchema, AreWitnessLines, BeginWitness}
use Rattle.explain.specs.Reading.{is_lone, opening_at, answer_at, fact_at, next_at}
use Rattle.explain.proofs.PrintLaws.{readable}
use Rattle.explain.proofs.ReadLines.{lone_found, lone_again, row_no_lone, opening_found, opening_again, answer_found, answer_again, fact_found, fact_reread}
use Rattle.plan_form.proofs.ByLines as by_lines
use Rattle.plan_form.proofs.ByLines.{Fit, Fit-append, Fit-split}

-- ---- what has been read

abbrev first_word : List ℕ
first_word = codes "first"

abbrev second_word : List ℕ
second_word = codes "second"

abbrev end_word : List ℕ
end_word = codes "end"

-- what has been read of a refutation fits the schema
pub record IsSoundPair (schema : Schema) (answer : List (List ℕ)) (first second : List Fact) : Type 0 where
  pub first_fits : IsInstance (meaning_of schema) first
  pub second_fits : IsInstance (meaning_of schema) second
  pub some : answer ≢ []

no_facts : (schema : Schema) → IsInstance (meaning_of schema) []
no_facts schema fact among = absurd (none_there fact among)
  where
    none_there : (fact : Fact) → Contains [] fact → ⊥
    none_there fact among = omega arith

one_more : (schema : Schema) (facts : List Fact) (fact : Fact) → IsInstance (meaning_of schema) facts → FitsRelation (meaning_of schema) fact.rel fact.row → IsInstance (meaning_of schema) (facts ++ fact ∷ [])
one_more schema facts fact fit here other among =
    ⊎_elim (λ h. fit other h) (λ e. subst (λ (f : Fact). FitsRelation (meaning_of schema) f.rel f.row) e here) (Contains-push_cases facts fact other among)

module _ (schema : Schema) where
  abbrev fact_forms : List Fact → List (List Slot)
  fact_forms facts = map (fact_form schema.relations) facts

  abbrev pub forms_of : Progress → List (List Slot)
  forms_of Opening = []
  forms_of Opened = opening_form ∷ []
  forms_of (Answered answer) = opening_form ∷ answer_form answer ∷ []
  forms_of (First answer first) = opening_form ∷ answer_form answer ∷ word_form first_word ∷ fact_forms first
  forms_of (Second answer first second) = opening_form ∷ answer_form answer ∷ word_form first_word ∷ (facts_forms schema.relations first second_word ++ fact_forms second)
  forms_of (Ended pair) = witness_forms schema.relations pair

  abbrev pub IsSound : Progress → Type 0
  IsSound Opening = Unit {0}
  IsSound Opened = Unit {0}
  IsSound (Answered answer) = answer ≢ []
  IsSound (First answer first) = IsSoundPair schema answer first []
  IsSound (Second answer first second) = IsSoundPair schema answer first second
  IsSound (Ended pair) = FitsSchema schema pair

-- one line more has been read
abbrev Follows : Schema → Progress → List Lexeme → Progress → Type 0
Follows schema = by_lines.Follows (forms_of schema) (IsSound schema)

-- what lines that were read have
abbrev pub AreRead : Schema → Progress → List (List Lexeme) → Progress → Type 0
AreRead schema = by_lines.AreRead (forms_of schema) (IsSound schema)

module _ (schema : Schema) where
  opening_follows : (tokens : List Lexeme) (more : Progress) → next_at schema Opening tokens ≡ Some more → Follows schema Opening tokens more
  opening_follows tokens more e =
      let a = bind_some (opening_at tokens) (λ (r : List Lexeme). Some Opened) more e in
      subst (Follows schema Opening tokens) (some_injective Opened more a.2) (record { form = opening_form; forms_are = refl; of_form = opening_found tokens a.0 a.1; sound = tt })

  answer_follows : (tokens : List Lexeme) (more : Progress) → next_at schema Opened tokens ≡ Some more → Follows schema Opened tokens more
  answer_follows tokens more e =
      let a = bind_some (answer_at tokens) (λ (x : List (List ℕ) × List Lexeme). Some (Answered x.0)) more e in
      let f = answer_found tokens a.0.0 a.0.1 a.1 in
      let made : Progress = Answered a.0.0 in
      subst (Follows schema Opened tokens) {x = made} (some_injective made more a.2) (record { form = answer_form a.0.0; forms_are = refl; of_form = f.0; sound = f.1 })

  begin_follows : (answer : List (List ℕ)) (tokens : List Lexeme) (more : Progress) → IsSound schema (Answered answer) → next_at schema (Answered answer) tokens ≡ Some more → Follows schema (Answered answer) tokens more
  begin_follows answer tokens more sound e =
      let a = cond_some (is_lone first_word tokens) (First answer []) more e in
      subst (Follows schema (Answered answer) tokens) a.1
      (record { form = word_form first_word; forms_are = refl; of_form = lone_found first_word tokens a.0; sound = record { first_fits = no_facts schema; second_fits = no_facts schema; some = sound } })

  first_follows : (answer : List (List ℕ)) (first : List Fact) (tokens : List Lexeme) (b : Bool) (more : Progress) → is_lone second_word tokens ≡ b → IsSound schema (First answer first) →
      cond b (Some (Second answer first [])) (fact_at schema.relations tokens >>= λ x. Some (First answer (first ++ x.0 ∷ []))) ≡ Some more → Follows schema (First answer first) tokens more
  first_follows answer first tokens true more lone sound e =
      subst (Follows schema (First answer first) tokens) (some_injective (Second answer first []) more e)
      (record {
        form = word_form second_word;
        forms_are = ap (λ (fs : List (List Slot)). opening_form ∷ answer_form answer ∷ word_form first_word ∷ fs) (append-nil (facts_forms schema.relations first second_word));
        of_form = lone_found second_word tokens lone;
        sound = sound;
      })
  first_follows answer first tokens false more lone sound e =
      let a = bind_some (fact_at schema.relations tokens) (λ (x : Fact × List Lexeme). Some (First answer (first ++ x.0 ∷ []))) more e in
      let f = fact_found schema tokens a.0.0 a.0.1 a.1 in
      let made : Progress = First answer (first ++ a.0.0 ∷ []) in
      subst (Follows schema (First answer first) tokens) {x = made} (some_injective made more a.2)
      (record {
        form = fact_form schema.relations a.0.0;
        forms_are = ap (λ (fs : List (List Slot)). opening_form ∷ answer_form answer ∷ word_form first_word ∷ fs) (map-append (fact_form schema.relations) first (a.0.0 ∷ []));
        of_form = f.0;
        sound = record { first_fits = one_more schema first a.0.0 sound.first_fits f.1; second_fits = sound.second_fits; some = sound.some };
      })

  second_follows : (answer : List (List ℕ)) (first second : List Fact) (tokens : List Lexeme) (b : Bool) (more : Progress) → is_lone end_word tokens ≡ b → IsSound schema (Second answer first second) →
      cond b (Some (Ended (record { first = first; second = second; answer = answer }))) (fact_at schema.relations tokens >>= λ x. Some (Second answer first (second ++ x.0 ∷ []))) ≡ Some more → Follows schema (Second answer first second) tokens more
  second_follows answer first second tokens true more lone sound e =
      let pair : Witness = record { first = first; second = second; answer = answer } in
      subst (Follows schema (Second answer first second) tokens) (some_injective (Ended pair) more e)
      (record {
        form = word_form end_word;
        forms_are = ap (λ (fs : List (List Slot)). opening_form ∷ answer_form answer ∷ word_form first_word ∷ fs) (sym (append_assoc (facts_forms schema.relations first second_word) (fact_forms schema second) (word_form end_word ∷ [])));
        of_form = lone_found end_word tokens lone;
        sound = record { first = sound.first_fits; second = sound.second_fits; some = sound.some };
      })
  second_follows answer first second tokens false more lone sound e =
      let a = bind_some (fact_at schema.relations tokens) (λ (x : Fact × List Lexeme). Some (Second answer first (second ++ x.0 ∷ []))) more e in
      let f = fact_found schema tokens a.0.0 a.0.1 a.1 in
      let made : Progress = Second answer first (second ++ a.0.0 ∷ []) in
      subst (Follows schema (Second answer first second) tokens) {x = made} (some_injective made more a.2)
      (record {
        form = fact_form schema.relations a.0.0;
        forms_are = ap (λ (fs : List (List Slot)). opening_form ∷ answer_form answer ∷ word_form first_word ∷ (facts_forms schema.relations first second_word ++ fs)) (map-append (fact_form schema.relations) second (a.0.0 ∷ []))
            ∙ ap (λ (fs : List (List Slot)). opening_form ∷ answer_form answer ∷ word_form first_word ∷ fs) (sym (append_assoc (facts_forms schema.relations first second_word) (fact_forms schema second) (fact_form schema.relations a.0.0 ∷ [])));
        of_form = f.0;
        sound = record { first_fits = sound.first_fits; second_fits = one_more schema second a.0.0 sound.second_fits f.1; some = sound.some };
      })

  next_follows : (done : Progress) (tokens : List Lexeme) (more : Progress) → IsSound schema done → next_at schema done tokens ≡ Some more → Follows schema done tokens more
  next_follows Opening tokens more sound e = opening_follows tokens more e
  next_follows Opened tokens more sound e = answer_follows tokens more e
  next_follows (Answered answer) tokens more sound e = begin_follows answer tokens more sound e
  next_follows (First answer first) tokens more sound e = first_follows answer first tokens (is_lone second_word tokens) more refl sound e
  next_follows (Second answer first second) tokens more sound e = second_follows answer first second tokens (is_lone end_word tokens) more refl sound e
  next_follows (Ended pair) tokens more sound e = absurd cc

  -- ---- lines one behind another

  abbrev pub read_from : Progress → List (List Lexeme) → Option Progress
  read_from = by_lines.read_from (next_at schema)

  pub lines_found : (lines : List (List Lexeme)) (done last : Progress) → IsSound schema done → read_from done lines ≡ Some last → AreRead schema done lines last
  lines_found = by_lines.lines_found (next_at schema) (forms_of schema) (IsSound schema) next_follows

  -- ---- a refutation's lines are read

  -- facts behind others, where each is read so
  facts_again : (make : List Fact → Progress) → ((done : List Fact) (fact : Fact) (tokens : List Lexeme) → FitsRelation (meaning_of schema) fact.rel fact.row → IsOfForm tokens (fact_form schema.relations fact) → next_at schema (make done) tokens ≡ Some (make (done ++ fact ∷ []))) →
      (facts done : List Fact) (lines : List (List Lexeme)) → IsInstance (meaning_of schema) facts → Fit lines (fact_forms schema facts) → read_from (make done) lines ≡ Some (make (done ++ facts))
  facts_again make each [] done [] fit are = ap (λ (fs : List Fact). Some (make fs)) (sym (append-nil done))
  facts_again make each [] done (x ∷ lines) fit are = absurd are
  facts_again make each (fact ∷ facts) done [] fit are = absurd are
  facts_again make each (fact ∷ facts) done (tokens ∷ lines) fit are =
      ap (λ (o : Option Progress). o >>= λ more. read_from more lines) (each done fact tokens (fit fact (contains_here fact facts)) are.0)
      ∙ facts_again make each facts (done ++ fact ∷ []) lines (λ other among. fit other (contains_there fact facts other among)) are.1
      ∙ ap (λ (fs : List Fact). Some (make fs)) (append_assoc done (fact ∷ []) facts)

  first_more : (answer : List (List ℕ)) (done : List Fact) (fact : Fact) (tokens : List Lexeme) → FitsRelation (meaning_of schema) fact.rel fact.row → IsOfForm tokens (fact_form schema.relations fact) →
      next_at schema (First answer done) tokens ≡ Some (First answer (done ++ fact ∷ []))
  first_more answer done fact tokens fits of_form =
      let other = row_no_lone second_word (name_of (slice_get schema.relations fact.rel)) fact.row tokens of_form in
      let again = fact_reread schema tokens fact (readable schema fact fits).wide fits of_form in
      rw (other, again) refl

  second_more : (answer : List (List ℕ)) (first done : List Fact) (fact : Fact) (tokens : List Lexeme) → FitsRelation (meaning_of schema) fact.rel fact.row → IsOfForm tokens (fact_form schema.relations fact) →
      next_at schema (Second answer first done) tokens ≡ Some (Second answer first (done ++ fact ∷ []))
  second_more answer first done fact tokens fits of_form =
      let other = row_no_lone end_word (name_of (slice_get schema.relations fact.rel)) fact.row tokens of_form in
      let again = fact_reread schema tokens fact (readable schema fact fits).wide fits of_form in
      rw (other, again) refl

  -- one line alone
  word_line_again : (done last : Progress) (word : List ℕ) (lines : List (List Lexeme)) → ((tokens : List Lexeme) → is_lone word tokens ≡ true → next_at schema done tokens ≡ Some last) → Fit lines (word_form word ∷ []) → read_from done lines ≡ Some last
  word_line_again done last word [] each fit = absurd fit
  word_line_again done last word (tokens ∷ []) each fit = ap (λ (o : Option Progress). o >>= λ more. Some more) (each tokens (lone_again word tokens fit.0))
  word_line_again done last word (tokens ∷ more ∷ lines) each fit = absurd fit.1

  first_again : (answer : List (List ℕ)) (first : List Fact) (lines : List (List Lexeme)) → IsInstance (meaning_of schema) first → Fit lines (facts_forms schema.relations first second_word) → read_from (First answer []) lines ≡ Some (Second answer first [])
  first_again answer first lines fit are =
      let s = Fit-split lines (fact_forms schema first) (word_form second_word ∷ []) are in
      ap (read_from (First answer [])) s.2 ∙ by_lines.read-append (next_at schema) (First answer []) s.0 s.1
      ∙ ap (λ (o : Option Progress). o >>= λ more. read_from more s.1) (facts_again (λ fs. First answer fs) (first_more answer) first [] s.0 fit s.3)
      ∙ word_line_again (First answer first) (Second answer first []) second_word s.1 (λ tokens lone. rw lone refl) s.4

  second_again : (answer : List (List ℕ)) (first second : List Fact) (lines : List (List Lexeme)) → IsInstance (meaning_of schema) second → Fit lines (facts_forms schema.relations second end_word) →
      read_from (Second answer first []) lines ≡ Some (Ended (record { first = first; second = second; answer = answer }))
  second_again answer first second lines fit are =
      let pair : Witness = record { first = first; second = second; answer = answer } in
      let s = Fit-split lines (fact_forms schema second) (word_form end_word ∷ []) are in
      ap (read_from (Second answer first [])) s.2 ∙ by_lines.read-append (next_at schema) (Second answer first []) s.0 s.1
      ∙ ap (λ (o : Option Progress). o >>= λ more. read_from more s.1) (facts_again (λ fs. Second answer first fs) (second_more answer first) second [] s.0 fit s.3)
      ∙ word_line_again (Second answer first second) (Ended pair) end_word s.1 (λ tokens lone. rw lone refl) s.4

  both_again : (pair : Witness) (lines : List (List Lexeme)) → FitsSchema schema pair → Fit lines (facts_forms schema.relations pair.first second_word ++ facts_forms schema.relations pair.second end_word) → read_from (First pair.answer []) lines ≡ Some (Ended pair)
  both_again pair lines fits are =
      let s = Fit-split lines (facts_forms schema.relations pair.first second_word) (facts_forms schema.relations pair.second end_word) are in
      ap (read_from (First pair.answer [])) s.2 ∙ by_lines.read-append (next_at schema) (First pair.answer []) s.0 s.1
      ∙ ap (λ (o : Option Progress). o >>= λ more. read_from more s.1) (first_again pair.answer pair.first s.0 fits.first s.3)
      ∙ second_again pair.answer pair.first pair.second s.1 fits.second s.4

  pub witness_again : (pair : Witness) (lines : List (List Lexeme)) → AreWitnessLines schema lines pair → read_from Opening lines ≡ Some (Ended pair)
  witness_again pair [] are = absurd are.1
  witness_again pair (a ∷ []) are = absurd are.1.1
  witness_again pair (a ∷ b ∷ []) are = absurd are.1.1.1
  witness_again pair (a ∷ b ∷ c ∷ lines) are =
      let one = opening_again a are.1.0 in
      let two = answer_again b pair.answer are.0.some are.1.1.0 in
      let three = lone_again first_word c are.1.1.1.0 in
      let begun : read_from Opening (a ∷ b ∷ c ∷ lines) ≡ read_from (First pair.answer []) lines = rw (one, two, three) refl in
      begun ∙ both_again pair lines are.0 are.1.1.1.1

-- ---- lines that begin a refutation

-- lines of one word
abbrev word_tokens : List ℕ → List Lexeme
word_tokens word = record { kind = Word; text = word } ∷ []

abbrev opening_tokens : List Lexeme
opening_tokens = record { kind = Word; text = codes "no" } ∷ record { kind = Word; text = codes "plan" } ∷ []

-- an answer of one empty value
abbrev least_answer : List (List ℕ)
least_answer = [] ∷ []

abbrev answer_tokens : List Lexeme
answer_tokens = record { kind = Word; text = codes "answer" } ∷ record { kind = Text; text = [] } ∷ []

first_fits : IsOfForm (word_tokens first_word) (word_form first_word)
first_fits = (refl, refl)

second_fits : IsOfForm (word_tokens second_word) (word_form second_word)
second_fits = (refl, refl)

end_fits : IsOfForm (word_tokens end_word) (word_form end_word)
end_fits = (refl, refl)

opening_fits : IsOfForm opening_tokens opening_form
opening_fits = (refl, (refl, refl))

answer_fits : IsOfForm answer_tokens (answer_form least_answer)
answer_fits = (refl, ((refl, refl), refl))

least_some : least_answer ≢ []
least_some e = cc

-- lines and forms that complete what has been read
record Completes (schema : Schema) (done : Progress) : Type 0 where
  pub lines : List (List Lexeme)
  pub forms : List (List Slot)
  pub fit : Fit lines forms
  pub pair : Witness
  pub forms_are : forms_of schema done ++ forms ≡ witness_forms schema.relations pair
  pub fits : FitsSchema schema pair

module _ (schema : Schema) where
  abbrev last_lines : List (List Lexeme)
  last_lines = word_tokens second_word ∷ word_tokens end_word ∷ []

  abbrev last_forms : List (List Slot)
  last_forms = word_form second_word ∷ word_form end_word ∷ []

  empty_pair : (answer : List (List ℕ)) → answer ≢ [] → FitsSchema schema (record { first = []; second = []; answer = answer })
  empty_pair answer some = record { first = no_facts schema; second = no_facts schema; some = some }

  completes : (done : Progress) → IsSound schema done → Completes schema done
  completes Opening sound = record {
    lines = opening_tokens ∷ answer_tokens ∷ word_tokens first_word ∷ last_lines;
    forms = opening_form ∷ answer_form least_answer ∷ word_form first_word ∷ last_forms;
    fit = (opening_fits, (answer_fits, (first_fits, (second_fits, (end_fits, tt)))));
    pair = record { first = []; second = []; answer = least_answer };
    forms_are = refl;
    fits = empty_pair least_answer least_some;
  }
  completes Opened sound = record {
    lines = answer_tokens ∷ word_tokens first_word ∷ last_lines;
    forms = answer_form least_answer ∷ word_form first_word ∷ last_forms;
    fit = (answer_fits, (first_fits, (second_fits, (end_fits, tt))));
    pair = record { first = []; second = []; answer = least_answer };
    forms_are = refl;
    fits = empty_pair least_answer least_some;
  }
  completes (Answered answer) sound = record {
    lines = word_tokens first_word ∷ last_lines;
    forms = word_form first_word ∷ last_forms;
    fit = (first_fits, (second_fits, (end_fits, tt)));
    pair = record { first = []; second = []; answer = answer };
    forms_are = refl;
    fits = empty_pair answer sound;
  }
  completes (First answer first) sound = record {
    lines = last_lines;
    forms = last_forms;
    fit = (second_fits, (end_fits, tt));
    pair = record { first = first; second = []; answer = answer };
    forms_are = ap (λ (fs : List (List Slot)). opening_form ∷ answer_form answer ∷ word_form first_word ∷ fs) (sym (append_assoc (fact_forms schema first) (word_form second_word ∷ []) (word_form end_word ∷ [])));
    fits = record { first = sound.first_fits; second = no_facts schema; some = sound.some };
  }
  completes (Second answer first second) sound = record {
    lines = word_tokens end_word ∷ [];
    forms = word_form end_word ∷ [];
    fit = (end_fits, tt);
    pair = record { first = first; second = second; answer = answer };
    forms_are = ap (λ (fs : List (List Slot)). opening_form ∷ answer_form answer ∷ word_form first_word ∷ fs) (append_assoc (facts_forms schema.relations first second_word) (fact_forms schema second) (word_form end_word ∷ []));
    fits = record { first = sound.first_fits; second = sound.second_fits; some = sound.some };
  }
  completes (Ended pair) sound = record { lines = []; forms = []; fit = tt; pair = pair; forms_are = append-nil (witness_forms schema.relations pair); fits = sound }

  -- lines that are read begin a refutation
  pub read_begin : (lines : List (List Lexeme)) (done : Progress) → AreRead schema Opening lines done → BeginWitness schema lines
  read_begin lines done r =
      let c = completes done r.sound in
      let front : Fit (lines ++ c.lines) (forms_of schema done ++ c.forms) = Fit-append lines c.lines (forms_of schema done) c.forms (subst (Fit lines) (sym r.forms_are) r.fit) c.fit in
      (c.lines, c.pair, (c.fits, subst (Fit (lines ++ c.lines)) c.forms_are front))

  -- lines that begin a refutation are read
  pub begin_read : (lines : List (List Lexeme)) → BeginWitness schema lines → (last : Progress) × (read_from schema Opening lines ≡ Some last)
  begin_read lines (more, pair, are) =
      let whole = sym (by_lines.read-append (next_at schema) Opening lines more) ∙ witness_again schema pair (lines ++ more) are in
      let a = bind_some (read_from schema Opening lines) (λ (p : Progress). read_from schema p more) (Ended pair) whole in
      (a.0, a.1)

  -- lines that end a refutation are its lines
  pub ended_are : (lines : List (List Lexeme)) (pair : Witness) → AreRead schema Opening lines (Ended pair) → AreWitnessLines schema lines pair
  ended_are lines pair r = (r.sound, subst (Fit lines) (sym r.forms_are) r.fit)

-- How what was received grows: by a row, by the rows of an answer, by the answers of a round.
use Rattle.std.proofs.Common.{◌≡◌, ◌↔◌, ◌∙◌, ◌⊎◌, ◌+◌, inl, inr, ⊎_elim, ℕ, List, [], ◌∷◌, ◌++◌, length, take, refl, sym, ap, subst, arith}
use Rattle.std.specs.Prelude.{Contains, map, slice_get, Some}
use Rattle.std.specs.List.Sorted.{IsStrictlySortedBy}
use Rattle.std.specs.Ordering.{nat_cmp}
use Rattle.std.specs.Cmp.Lexicographic.{slice_cmp}
use Rattle.std.proofs.lemmas.List.{map-append, length-take-le}
use Rattle.std.proofs.lemmas.List.Elements.{Contains-append_cases, Contains-append_left, Contains-append_right}
use Rattle.std.proofs.lemmas.Option.{slice_get_within}
use Rattle.lists.proofs.Members.{contains_here, contains_none, contains_one}
use Rattle.lists.proofs.Places.{take_got}
use Rattle.meaning.specs.declared.types.Fact.{Fact}
use Rattle.meaning.specs.Values.{Value, Row}
use Rattle.source_trait.specs.Asking.{RowList}
use Rattle.source_trait.specs.declared.work.Ask.{Ask}
use Rattle.crawl_rounds.specs.Log.{Answered, IsAmong}
use Rattle.crawl.specs.declared.known.KnownValues.{KnownValues}
use Rattle.crawl.specs.declared.progress.Progress.{Progress}
use Rattle.crawl.specs.Knowing.{TakesIn}
use Rattle.crawl.specs.Progress.{fact_of, facts_of, Gains, StandsIn, IsRowOf, StandsInAnswers, answered_by, TakesRound, BeginsWith}
use Rattle.crawl.specs.Finding.{Finds}
use Rattle.crawl.proofs.Finding.{finds_nothing, finds_both}

-- ---- nothing, and one after another

pub gains_none : (P : Value → Type 0) (Q : Fact → Type 0) → ((v : Value) → P v → ⊥) → ((f : Fact) → Q f → ⊥) → (progress : Progress) → Gains P Q progress progress
gains_none P Q not_taken none progress = record {
  known = refl;
  values = finds_nothing progress.known.all.keys P not_taken progress.found.list.items;
  facts = λ f. ((λ c. inl c), (λ c. ⊎_elim (λ d. d) (λ q. absurd (none f q)) c));
  made = refl;
  rounds = refl;
}

pub gains_both : (P P2 R : Value → Type 0) (Q Q2 S : Fact → Type 0) → ((v : Value) → R v ↔ (P v ⊎ P2 v)) → ((f : Fact) → S f ↔ (Q f ⊎ Q2 f)) → (old mid new : Progress) → Gains P Q old mid → Gains P2 Q2 mid new → Gains R S old new
gains_both P P2 R Q Q2 S values facts old mid new h k = record {
  known = k.known ∙ h.known;
  values = finds_both old.known.all.keys P P2 R values old.found.list.items mid.found.list.items new.found.list.items
      h.values (subst (λ (known : KnownValues). Finds known.all.keys P2 mid.found.list.items new.found.list.items)
      h.known k.values);
  facts = λ f. (
    (λ c. ⊎_elim (λ d. ⊎_elim (λ a. inl a) (λ q. inr ((facts f).1 (inl q))) ((h.facts f).0 d)) (λ q. inr ((facts f).1 (inr q))) ((k.facts f).0 c)),
    (λ c. (k.facts f).1 (⊎_elim (λ a. inl ((h.facts f).1 (inl a))) (λ s. ⊎_elim (λ q. inl ((h.facts f).1 (inr q))) (λ q. inr q) ((facts f).0 s)) c)),
  );
  made = k.made ∙ h.made;
  rounds = k.rounds ∙ h.rounds;
}

-- ---- a row

pub gains_row : (rel : ℕ) (row : Row) (old new : Progress) → new.known ≡ old.known
    → Finds old.known.all.keys (Contains row) old.found.list.items new.found.list.items
    → new.received.items ≡ old.received.items ++ (rel, row) ∷ [] → new.made ≡ old.made → new.rounds ≡ old.rounds
    → Gains (Contains row) (λ f. f ≡ record { rel = rel; row = row }) old new
gains_row rel row old new known values pushed made rounds = record {
  known = known;
  values = values;
  facts = λ f. (
    (λ c. ⊎_elim (λ d. inl d) (λ d. inr (sym (contains_one (fact_of (rel, row)) f d))) (Contains-append_cases (facts_of old) (fact_of (rel, row) ∷ []) f (subst (λ l. Contains l f) grown c))),
    (λ c. subst (λ l. Contains l f) (sym grown) (⊎_elim (λ d. Contains-append_left (facts_of old) (fact_of (rel, row) ∷ []) f d) (λ e. Contains-append_right (facts_of old) (fact_of (rel, row) ∷ []) f (subst (Contains (fact_of (rel, row) ∷ [])) (sym e) (contains_here (fact_of (rel, row)) []))) c)),
  );
  made = made;
  rounds = rounds;
}
  where
    grown : facts_of new ≡ facts_of old ++ fact_of (rel, row) ∷ []
    grown = ap (map fact_of) pushed ∙ map-append fact_of old.received.items ((rel, row) ∷ [])

-- ---- the rows of an answer

pub rows_none : (rel : ℕ) (progress : Progress) → Gains (StandsIn []) (IsRowOf rel []) progress progress
rows_none rel progress = gains_none (StandsIn []) (IsRowOf rel []) (λ v (row, c, d). contains_none row c) (λ f (e, c). contains_none f.row c) progress

pub rows_more : (rel : ℕ) (rows : RowList) (row : Row) (old mid new : Progress) → Gains (StandsIn rows) (IsRowOf rel rows) old mid → Gains (Contains row) (λ f. f ≡ record { rel = rel; row = row }) mid new
    → Gains (StandsIn (rows ++ row ∷ [])) (IsRowOf rel (rows ++ row ∷ [])) old new
rows_more rel rows row = gains_both (StandsIn rows) (Contains row) (StandsIn (rows ++ row ∷ [])) (IsRowOf rel rows) (λ f. f ≡ record { rel = rel; row = row }) (IsRowOf rel (rows ++ row ∷ []))
    (λ v. (
      (λ (r, c, d). ⊎_elim (λ h. inl (r, h, d)) (λ h. inr (subst (λ (l : Row). Contains l v) (sym (contains_one row r h)) d)) (Contains-append_cases rows (row ∷ []) r c)),
      (λ s. ⊎_elim (λ (r, c, d). (r, Contains-append_left rows (row ∷ []) r c, d)) (λ d. (row, Contains-append_right rows (row ∷ []) row (contains_here row []), d)) s),
    ))
    (λ f. (
      (λ (e, c). ⊎_elim (λ h. inl (e, h)) (λ h. inr (λ i. record { rel = sym e i; row = sym (contains_one row f.row h) i })) (Contains-append_cases rows (row ∷ []) f.row c)),
      (λ s. ⊎_elim (λ (e, c). (e, Contains-append_left rows (row ∷ []) f.row c)) (λ e. (ap (λ (g : Fact). g.rel) (sym e), Contains-append_right rows (row ∷ []) f.row (subst (Contains (row ∷ [])) (ap (λ (g : Fact). g.row) (sym e)) (contains_here row [])))) s),
    ))

-- ---- the answers of a round

answered_push : (asks : List Ask) (answers : List RowList) (ask : Ask) (rows : RowList) → length answers ≡ length asks → answered_by (asks ++ ask ∷ []) (answers ++ rows ∷ []) ≡ answered_by asks answers ++ record { request = ask.request; rows = rows } ∷ []
answered_push [] [] ask rows e = refl
answered_push [] (r ∷ answers) ask rows e = absurd (omega arith)
answered_push (a ∷ asks) [] ask rows e = absurd (omega arith)
answered_push (a ∷ asks) (r ∷ answers) ask rows e = ap (λ (l : List Answered). record { request = a.request; rows = r } ∷ l) (answered_push asks answers ask rows (omega arith))

pub answers_none : (progress : Progress) → Gains (StandsInAnswers []) (IsAmong []) progress progress
answers_none progress = gains_none (StandsInAnswers []) (IsAmong []) (λ v (a, c, d). contains_none a c) (λ f (a, c, e, d). contains_none a c) progress

-- what is among the answers and one more
pub among_push : (answers : List Answered) (one : Answered) (f : Fact) → IsAmong (answers ++ one ∷ []) f ↔ (IsAmong answers f ⊎ IsRowOf one.request.rel one.rows f)
among_push answers one f = (
  (λ (a, c, e, d). ⊎_elim (λ h. inl (a, h, e, d)) (λ h. inr (subst (λ (b : Answered). IsRowOf b.request.rel b.rows f) (sym (contains_one one a h)) (e, d))) (Contains-append_cases answers (one ∷ []) a c)),
  (λ s. ⊎_elim (λ (a, c, e, d). (a, Contains-append_left answers (one ∷ []) a c, e, d)) (λ (e, d). (one, Contains-append_right answers (one ∷ []) one (contains_here one []), e, d)) s),
)

answers_push : (answers : List Answered) (one : Answered) (old mid new : Progress) → Gains (StandsInAnswers answers) (IsAmong answers) old mid → Gains (StandsIn one.rows) (IsRowOf one.request.rel one.rows) mid new
    → Gains (StandsInAnswers (answers ++ one ∷ [])) (IsAmong (answers ++ one ∷ [])) old new
answers_push answers one = gains_both (StandsInAnswers answers) (StandsIn one.rows) (StandsInAnswers (answers ++ one ∷ [])) (IsAmong answers) (IsRowOf one.request.rel one.rows) (IsAmong (answers ++ one ∷ []))
    (λ v. (
      (λ (a, c, d). ⊎_elim (λ h. inl (a, h, d)) (λ h. inr (subst (λ (b : Answered). StandsIn b.rows v) (sym (contains_one one a h)) d)) (Contains-append_cases answers (one ∷ []) a c)),
      (λ s. ⊎_elim (λ (a, c, d). (a, Contains-append_left answers (one ∷ []) a c, d)) (λ d. (one, Contains-append_right answers (one ∷ []) one (contains_here one []), d)) s),
    ))
    (among_push answers one)

-- the answers to one request more
pub answered_more : (asks : List Ask) (answers : List RowList) (k : ℕ) (ask : Ask) (rows : RowList) → length answers ≡ length asks → slice_get asks k ≡ Some ask → slice_get answers k ≡ Some rows
    → answered_by (take (k + 1) asks) (take (k + 1) answers) ≡ answered_by (take k asks) (take k answers) ++ record { request = ask.request; rows = rows } ∷ []
answered_more asks answers k ask rows long at its =
    ap (λ l. answered_by l (take (k + 1) answers)) (take_got asks k ask at) ∙ ap (answered_by (take k asks ++ ask ∷ [])) (take_got answers k rows its)
    ∙ answered_push (take k asks) (take k answers) ask rows long_alike
  where
    long_alike : length (take k answers) ≡ length (take k asks)
    long_alike =
        let a = slice_get_within asks k ask at in
        let b = slice_get_within answers k rows its in
        length-take-le k answers (omega (arith, b)) ∙ sym (length-take-le k asks (omega (arith, a)))

pub answers_more : (asks : List Ask) (answers : List RowList) (k : ℕ) (ask : Ask) (rows : RowList) → length answers ≡ length asks → slice_get asks k ≡ Some ask → slice_get answers k ≡ Some rows → (old mid new : Progress)
    → Gains (StandsInAnswers (answered_by (take k asks) (take k answers))) (IsAmong (answered_by (take k asks) (take k answers))) old mid
    → Gains (StandsIn rows) (IsRowOf ask.request.rel rows) mid new
    → Gains (StandsInAnswers (answered_by (take (k + 1) asks) (take (k + 1) answers))) (IsAmong (answered_by (take (k + 1) asks) (take (k + 1) answers))) old new
answers_more asks answers k ask rows long at its old mid new h g =
    subst (λ (l : List Answered). Gains (StandsInAnswers l) (IsAmong l) old new) (sym (answered_more asks answers k ask rows long at its))
    (answers_push (answered_by (take k asks) (take k answers)) (record { request = ask.request; rows = rows }) old mid new h g)

-- ---- a round

pub answered_long : (asks : List Ask) (answers : List RowList) → length answers ≡ length asks → length (answered_by asks answers) ≡ length asks
answered_long [] answers e = refl
answered_long (a ∷ asks) [] e = absurd (omega arith)
answered_long (a ∷ asks) (r ∷ answers) e = let rest = answered_long asks answers (omega arith) in omega (arith, rest)

module _ (answers : List Answered) (old mid took : Progress) (first : mid.known ≡ old.known)
    (none : mid.found.list.items ≡ [])
    (received : mid.received.items ≡ old.received.items) (g : Gains (StandsInAnswers answers) (IsAmong answers) mid took)
    (found : List Value) (are : (v : Value) → Contains found v ↔ Contains took.found.list.items v)
    (settled taken : KnownValues) (all : settled.all.keys ≡ took.known.all.keys)
    (none_fresh : settled.fresh.items ≡ [])
    (t : TakesIn (Contains found) settled taken) where
  -- what was found came in an answer, and what came in one was found or known
  came : (v : Value) → Contains found v → StandsInAnswers answers v
  came v c = ⊎_elim (λ d. absurd (contains_none v (subst (λ (l : List Value). Contains l v) none d))) (λ p. p)
      (g.values.from v ((are v).0 c))

  brought : (v : Value) → StandsInAnswers answers v → Contains found v ⊎ Contains old.known.all.keys v
  brought v p = ⊎_elim (λ d. inl ((are v).1 d))
      (λ d. inr (subst (λ (known : KnownValues). Contains known.all.keys v) first d)) (g.values.into v (inr p))

  was : settled.all.keys ≡ old.known.all.keys
  was = all ∙ ap (λ (known : KnownValues). known.all.keys) (g.known ∙ first)

  pub round_taken : (new : Progress) → new.known.all.keys ≡ taken.all.keys
      → ((v : Value) → Contains new.known.fresh.items v ↔ Contains taken.fresh.items v)
      → IsStrictlySortedBy (slice_cmp nat_cmp) new.known.fresh.items → new.received ≡ took.received
      → new.made ≡ old.made + length answers → new.rounds ≡ old.rounds + 1 → TakesRound answers old new
  round_taken new known same up facts made rounds = record {
    all = λ v. (
      (λ c. ⊎_elim (λ d. inl (subst (λ (l : List Value). Contains l v) was d)) (λ d. inr (came v d))
          ((t.all v).0 (subst (λ (l : List Value). Contains l v) known c))),
      (λ c. subst (λ (l : List Value). Contains l v) (sym known) ((t.all v).1
          (⊎_elim (λ d. inl (before v d)) (λ p. ⊎_elim (λ d. inr d) (λ d. inl (before v d)) (brought v p)) c))),
    );
    fresh = λ v. (
      (λ c. ⊎_elim (λ d. absurd (contains_none v (subst (λ (l : List Value). Contains l v) none_fresh d)))
          (λ p. (came v p.0, λ d. p.1 (before v d))) ((t.fresh v).0 ((same v).0 c))),
      (λ p. (same v).1 ((t.fresh v).1 (inr (
        ⊎_elim (λ d. d) (λ d. absurd (p.1 d)) (brought v p.0),
        λ d. p.1 (subst (λ (l : List Value). Contains l v) was d),
      )))),
    );
    ascend = up;
    facts = λ f. (
      (λ c. ⊎_elim (λ d. inl (subst (λ l. Contains (map fact_of l) f) received d)) (λ q. inr q)
          ((g.facts f).0 (subst (λ r. Contains (map fact_of r.items) f) facts c))),
      (λ c. subst (λ r. Contains (map fact_of r.items) f) (sym facts)
          ((g.facts f).1 (⊎_elim (λ d. inl (subst (λ l. Contains (map fact_of l) f) (sym received) d))
          (λ q. inr q) c))),
    );
    made = made;
    rounds = rounds;
  }
    where
      before : (v : Value) → Contains old.known.all.keys v → Contains settled.all.keys v
      before v d = subst (λ (l : List Value). Contains l v) (sym was) d

-- ---- before the first round

pub begins : (constants : List Value) (none : KnownValues) → none.all.keys ≡ [] → none.fresh.items ≡ [] → (took : KnownValues) → TakesIn (Contains constants) none took → (progress : Progress)
    → progress.known.all.keys ≡ took.all.keys → ((v : Value) → Contains progress.known.fresh.items v ↔ Contains took.fresh.items v) → IsStrictlySortedBy (slice_cmp nat_cmp) progress.known.fresh.items → progress.received.items ≡ [] → progress.made ≡ 0 → progress.rounds ≡ 0 → BeginsWith constants progress
begins constants none no_value no_fresh took takes progress known same up received made rounds = record {
  all = λ v. (
    (λ c. ⊎_elim (λ d. absurd (contains_none v (subst (λ l. Contains l v) no_value d))) (λ d. d) ((takes.all v).0 (subst (λ l. Contains l v) known c))),
    (λ c. subst (λ l. Contains l v) (sym known) ((takes.all v).1 (inr c))),
  );
  fresh = λ v. (
    (λ c. ⊎_elim (λ d. absurd (contains_none v (subst (λ l. Contains l v) no_fresh d))) (λ d. d.0) ((takes.fresh v).0 ((same v).0 c))),
    (λ c. (same v).1 ((takes.fresh v).1 (inr (c, λ d. contains_none v (subst (λ l. Contains l v) no_value d))))),
  );
  ascend = up;
  received = received;
  made = made;
  rounds = rounds;
}

-- Candidates, and the moves of those that can be made.
use Rattle.std.proofs.Common.{◌≡◌, ◌↔◌, ◌⊎◌, ℕ, ◌+◌, ◌<◌, ◌≤◌, List, [], ◌∷◌, ◌++◌, length, take, Some, Bool, true, false, not, IsTrue, refl, sym, ap, ◌∙◌, subst, inl, inr, ⊎_elim, arith}
use Rattle.std.specs.Prelude.{Contains, slice_get, slice_index}
use Rattle.std.proofs.lemmas.Bool.{cases_eq}
use Rattle.std.proofs.lemmas.List.{take_more}
use Rattle.std.proofs.lemmas.List.Elements.{Contains-append_left, Contains-push, Contains-push_cases}
use Rattle.std.proofs.lemmas.Option.{slice_get_within}
use Rattle.lists.proofs.Members.{some_injective}
use Rattle.lists.proofs.Places.{take_got}
use Rattle.meaning.specs.declared.types.Method.{Method}
use Rattle.meaning.specs.declared.types.Ground.{Ground}
use Rattle.meaning.specs.declared.types.Val.{Val}
use Rattle.accessible_copy.specs.Known.{known_values}
use Rattle.accessible_copy.specs.Listing.{AreInputs}
use Rattle.accessible_copy.specs.Methods.{IsMethodIndex, methods_of}
use Rattle.accessible_copy.proofs.Listed.{known_to, known_from, inputs_more}
use Rattle.least_search.specs.declared.space.Move.{Move}
use Rattle.exposure_search.specs.declared.marks.Marks.{Marks}
use Rattle.exposure_search.specs.declared.candidates.Candidate.{Candidate}
use Rattle.exposure_search.specs.Tries.{IsMarked}
use Rattle.exposure_search.specs.Making.{IsServed}
use Rattle.exposure_search.specs.Ahead.{AreTheMarked}
use Rattle.exposure_search.specs.Candidates.{IsHeld, AreHeld, AreKnown, IsCandidateOf, IsCandidate, AreCandidates, CanBeMade, AreMovesFrom}

-- ---- values that are not known before anything is exposed

module _ (constants : List (List ℕ)) (exposed : List Ground) where
  known_first : (v : Val) → Contains (known_values constants []) v → Contains (known_values constants exposed) v
  known_first v c = known_from constants exposed v (⊎_elim (λ it. inl it) (λ (fact, among, has). absurd (omega arith)) (known_to constants [] v c))

  known_held : (v : Val) → (Contains (known_values constants []) v → ⊥) → Contains (known_values constants exposed) v → IsHeld exposed v
  known_held v new c = ⊎_elim (λ it. absurd (new (known_from constants [] v (inl it)))) (λ held. held) (known_to constants exposed v c)

  pub held_same : (values : List Val) (v : Val) → Contains (known_values constants []) v → AreHeld exposed values ↔ (AreHeld exposed values × Contains (known_values constants exposed) v)
  held_same values v known = ((λ all. (all, known_first v known)), (λ both. both.0))

  pub held_push : (values : List Val) (v : Val) → (Contains (known_values constants []) v → ⊥) → AreHeld exposed (values ++ v ∷ []) ↔ (AreHeld exposed values × Contains (known_values constants exposed) v)
  held_push values v new = (
    (λ all. ((λ w c. all w (Contains-append_left values (v ∷ []) w c)), known_from constants exposed v (inr (all v (Contains-push values v))))),
    (λ (all, known). (λ w c. ⊎_elim (λ old. all w old) (λ same. subst (λ u. IsHeld exposed u) same (known_held v new known)) (Contains-push_cases values v w c))),
  )

  module _ (old new : List Val) (v : Val) (step : AreHeld exposed new ↔ (AreHeld exposed old × Contains (known_values constants exposed) v)) where
    -- one more input
    pub asked_more : (inputs : List ℕ) (vals : List Val) (n : ℕ) → n < length inputs → slice_get vals (slice_index inputs n) ≡ Some v → (AreHeld exposed old ↔ AreInputs (known_values constants exposed) (take n inputs) vals) →
        AreHeld exposed new ↔ AreInputs (known_values constants exposed) (take (n + 1) inputs) vals
    asked_more inputs vals n low at before =
        let turn : take (n + 1) inputs ≡ take n inputs ++ slice_index inputs n ∷ [] = take_more inputs n 0 low in (
          (λ all. let (held, is) = step.0 all in inputs_more (known_values constants exposed) vals inputs n low (before.0 held) (v, at, is)),
          (λ are. step.1 (
            before.1 (λ p c. are p (subst (λ ps. Contains ps p) (sym turn) (Contains-append_left (take n inputs) (slice_index inputs n ∷ []) p c))),
            (let (w, got, is) = are (slice_index inputs n) (subst (λ ps. Contains ps (slice_index inputs n)) (sym turn) (Contains-push (take n inputs) (slice_index inputs n))) in
                subst (λ u. Contains (known_values constants exposed) u) (some_injective w v (sym got ∙ at)) is),
          )),
        )

    -- one more value
    pub brought_more : (vals : List Val) (n : ℕ) → slice_get vals n ≡ Some v → (AreHeld exposed old ↔ AreKnown (known_values constants exposed) (take n vals)) →
        AreHeld exposed new ↔ AreKnown (known_values constants exposed) (take (n + 1) vals)
    brought_more vals n at before =
        let turn : take (n + 1) vals ≡ take n vals ++ v ∷ [] = take_got vals n v at in (
          (λ all. let (held, is) = step.0 all in (λ w c. ⊎_elim (λ old'. before.0 held w old') (λ same. subst (λ u. Contains (known_values constants exposed) u) same is)
              (Contains-push_cases (take n vals) v w (subst (λ vs. Contains vs w) turn c)))),
          (λ are. step.1 (
            before.1 (λ w c. are w (subst (λ vs. Contains vs w) (sym turn) (Contains-append_left (take n vals) (v ∷ []) w c))),
            are v (subst (λ vs. Contains vs v) (sym turn) (Contains-push (take n vals) v)),
          )),
        )

-- ---- a list of candidates

-- the candidates of a fact, by the first of its relation's methods
pub record AreAdded (methods : List Method) (constants : List (List ℕ)) (place : ℕ) (fact : Ground) (needed : Bool) (numbers : List ℕ) (old new : List Candidate) : Type 0 where
  pub each : (candidate : Candidate) → Contains new candidate → Contains old candidate ⊎ ((candidate.step.fact ≡ place) × (candidate.needed ≡ needed) × IsCandidateOf methods constants fact candidate)
  pub stay : (candidate : Candidate) → Contains old candidate → Contains new candidate
  pub all : (number : ℕ) (method : Method) (exposed : List Ground) → Contains numbers number → slice_get methods number ≡ Some method → AreInputs (known_values constants exposed) method.inputs fact.vals →
      (candidate : Candidate) × Contains new candidate × (candidate.step ≡ record { fact = place; method = number; cost = method.cost })

module _ (methods : List Method) (constants : List (List ℕ)) (place : ℕ) (fact : Ground) (needed : Bool) (old : List Candidate) where
  pub added_none : AreAdded methods constants place fact needed [] old old
  added_none = record { each = λ candidate c. inl c; stay = λ candidate c. c; all = λ number method exposed c named inputs. absurd (omega arith) }

  module _ (numbers : List ℕ) (new : List Candidate) (are : AreAdded methods constants place fact needed numbers old new) (number : ℕ) where
    pub added_more : (candidate : Candidate) → (candidate.step.fact ≡ place) × (candidate.needed ≡ needed) × IsCandidateOf methods constants fact candidate → ((method : Method) → slice_get methods number ≡ Some method → candidate.step ≡ record { fact = place; method = number; cost = method.cost }) →
        AreAdded methods constants place fact needed (numbers ++ number ∷ []) old (new ++ candidate ∷ [])
    added_more candidate is step = record {
      each = λ other c. ⊎_elim (λ before. are.each other before) (λ same. inr (subst (λ (o : Candidate). (o.step.fact ≡ place) × (o.needed ≡ needed) × IsCandidateOf methods constants fact o) same is)) (Contains-push_cases new candidate other c);
      stay = λ other c. Contains-append_left new (candidate ∷ []) other (are.stay other c);
      all = λ other method exposed c named inputs. ⊎_elim
          (λ before. let (found, among, its) = are.all other method exposed before named inputs in (found, Contains-append_left new (candidate ∷ []) found among, its))
          (λ same. (candidate, Contains-push new candidate, subst (λ (n : ℕ). candidate.step ≡ record { fact = place; method = n; cost = method.cost }) same (step method (ap (slice_get methods) same ∙ named)))) (Contains-push_cases numbers number other c);
    }

    pub added_less : ((method : Method) (exposed : List Ground) → slice_get methods number ≡ Some method → AreInputs (known_values constants exposed) method.inputs fact.vals → ⊥) → AreAdded methods constants place fact needed (numbers ++ number ∷ []) old new
    added_less none = record {
      each = are.each;
      stay = are.stay;
      all = λ other method exposed c named inputs. ⊎_elim (λ before. are.all other method exposed before named inputs)
          (λ same. absurd (none method exposed (ap (slice_get methods) same ∙ named) inputs)) (Contains-push_cases numbers number other c);
    }

-- the candidates of the first facts
pub record AreCandidatesTo (methods : List Method) (constants : List (List ℕ)) (base : List Ground) (marks : Marks) (candidates : List Candidate) (count : ℕ) : Type 0 where
  pub each : (candidate : Candidate) → Contains candidates candidate → IsCandidate methods constants base marks candidate
  pub all : (number of : ℕ) (fact : Ground) (method : Method) (exposed : List Ground) → number < count → slice_get base number ≡ Some fact → IsMarked marks.relevant.items number → slice_get methods of ≡ Some method → method.rel ≡ fact.rel →
      AreInputs (known_values constants exposed) method.inputs fact.vals → (candidate : Candidate) × Contains candidates candidate × (candidate.step ≡ record { fact = number; method = of; cost = method.cost })

module _ (methods : List Method) (constants : List (List ℕ)) (base : List Ground) (marks : Marks) where
  module _ (candidates : List Candidate) (count : ℕ) (are : AreCandidatesTo methods constants base marks candidates count) where
    pub candidates_more : (index : List (List ℕ)) → IsMethodIndex methods index → (fact : Ground) → slice_get base count ≡ Some fact → IsMarked marks.relevant.items count → (needed : Bool) → (IsTrue needed ↔ IsMarked marks.needed.items count) →
        (new : List Candidate) → AreAdded methods constants count fact needed (methods_of index fact.rel) candidates new → AreCandidatesTo methods constants base marks new (count + 1)
    candidates_more index indexed fact at on needed need new added = record {
      each = λ candidate c. ⊎_elim (λ old. are.each candidate old)
          (λ (here, is_needed, is). record {
            fact = fact;
            at = ap (slice_get base) here ∙ at;
            relevant = subst (λ n. IsMarked marks.relevant.items n) (sym here) on;
            needed = subst (λ (n : ℕ). IsTrue candidate.needed ↔ IsMarked marks.needed.items n) (sym here) (subst (λ (b : Bool). IsTrue b ↔ IsMarked marks.needed.items count) (sym is_needed) need);
            exposes = is;
          }) (added.each candidate c);
      all = λ number of its method exposed low got marked named rel inputs. ⊎_elim
          (λ same.
          let facts : its ≡ fact = some_injective its fact (sym got ∙ ap (slice_get base) same ∙ at) in
          let among : Contains (methods_of index fact.rel) of = subst (λ (r : ℕ). Contains (methods_of index r) of) (rel ∙ ap (λ (f : Ground). f.rel) facts) (indexed.all of method named) in
          let (candidate, c, e) = added.all of method exposed among named (subst (λ (f : Ground). AreInputs (known_values constants exposed) method.inputs f.vals) facts inputs) in
          (candidate, c, subst (λ (n : ℕ). candidate.step ≡ record { fact = n; method = of; cost = method.cost }) (sym same) e))
          (λ other. let (candidate, c, e) = are.all number of its method exposed (omega arith) got marked named rel inputs in (candidate, added.stay candidate c, e)) (cases_eq number count);
    }

    pub candidates_less : (IsMarked marks.relevant.items count → ⊥) → AreCandidatesTo methods constants base marks candidates (count + 1)
    candidates_less off = record {
      each = are.each;
      all = λ number of its method exposed low got marked named rel inputs. ⊎_elim (λ same. absurd (off (subst (λ n. IsMarked marks.relevant.items n) same marked)))
          (λ other. are.all number of its method exposed (omega arith) got marked named rel inputs) (cases_eq number count);
    }

    pub candidates_all : length base ≤ count → AreCandidates methods constants base marks candidates
    candidates_all long = record {
      each = are.each;
      all = λ number of its method exposed got marked named rel inputs. are.all number of its method exposed (let low : number < length base = slice_get_within base number its got in omega arith) got marked named rel inputs;
    }

-- ---- the moves of those that can be made

-- one takes the place of the last move, of the same fact
module _ (front : List Move) (last step best : Move) (same : last.fact ≡ step.fact) (one : (best ≡ last) ⊎ (best ≡ step)) where
  best_fact : best.fact ≡ step.fact
  best_fact = ⊎_elim (λ e. ap (λ (m : Move). m.fact) e ∙ same) (λ e. ap (λ (m : Move). m.fact) e) one

  pub replaced_each : (move : Move) → Contains (front ++ best ∷ []) move → Contains (front ++ last ∷ []) move ⊎ (move ≡ step)
  replaced_each move c = ⊎_elim (λ old. inl (Contains-append_left front (last ∷ []) move old))
      (λ e. ⊎_elim (λ is. inl (subst (λ m. Contains (front ++ last ∷ []) m) (sym is ∙ e) (Contains-push front last))) (λ is. inr (sym e ∙ is)) one) (Contains-push_cases front best move c)

  pub replaced_stay : best.cost ≤ last.cost → (move : Move) → IsServed (front ++ last ∷ []) move → IsServed (front ++ best ∷ []) move
  replaced_stay cheap move (other, among, its, low) = ⊎_elim (λ old. (other, Contains-append_left front (best ∷ []) other old, its, low))
      (λ e. let cost : last.cost ≡ other.cost = ap (λ (m : Move). m.cost) e in (best, Contains-push front best, best_fact ∙ sym same ∙ ap (λ (m : Move). m.fact) e ∙ its, omega arith)) (Contains-push_cases front last other among)

module _ (facts : List Ground) (set : List Bool) (below : ℕ) where
  pub from_none : AreMovesFrom facts set below [] []
  from_none = record { possible = λ move c. absurd (omega arith); served = λ candidate c. absurd (omega arith) }

  module _ (candidates : List Candidate) (moves : List Move) (are : AreMovesFrom facts set below candidates moves) (candidate : Candidate) where
    pub from_more : CanBeMade facts set below candidate → (new : List Move) → ((move : Move) → Contains new move → Contains moves move ⊎ (move ≡ candidate.step)) → IsServed new candidate.step → ((move : Move) → IsServed moves move → IsServed new move) →
        AreMovesFrom facts set below (candidates ++ candidate ∷ []) new
    from_more made new each served stay = record {
      possible = λ move c. ⊎_elim (λ old. let (from, among, is, can) = are.possible move old in (from, Contains-append_left candidates (candidate ∷ []) from among, is, can))
          (λ e. (candidate, Contains-push candidates candidate, sym e, made)) (each move c);
      served = λ other c can. ⊎_elim (λ old. stay other.step (are.served other old can)) (λ e. subst (λ (o : Candidate). IsServed new o.step) e served) (Contains-push_cases candidates candidate other c);
    }

    pub from_less : (CanBeMade facts set below candidate → ⊥) → AreMovesFrom facts set below (candidates ++ candidate ∷ []) moves
    from_less cannot = record {
      possible = λ move c. let (from, among, is, can) = are.possible move c in (from, Contains-append_left candidates (candidate ∷ []) from among, is, can);
      served = λ other c can. ⊎_elim (λ old. are.served other old can) (λ e. absurd (cannot (subst (λ o. CanBeMade facts set below o) (sym e) can))) (Contains-push_cases candidates candidate other c);
    }

-- ---- numbers that are marked

abbrev pub AreMarkedTo : List Bool → ℕ → List ℕ → Type 0
AreMarkedTo marks count numbers = (number : ℕ) → ((number < count) × IsMarked marks number) ↔ Contains numbers number

pub marked_none : (marks : List Bool) → AreMarkedTo marks 0 []
marked_none marks number = ((λ (low, marked). absurd (omega arith)), (λ c. absurd (omega arith)))

module _ (marks : List Bool) (count : ℕ) (numbers : List ℕ) (are : AreMarkedTo marks count numbers) where
  pub marked_more : IsMarked marks count → AreMarkedTo marks (count + 1) (numbers ++ count ∷ [])
  marked_more on number = (
    (λ (low, marked). ⊎_elim (λ same. subst (λ n. Contains (numbers ++ count ∷ []) n) (sym same) (Contains-push numbers count)) (λ other. Contains-append_left numbers (count ∷ []) number ((are number).0 (omega arith, marked))) (cases_eq number count)),
    (λ c. ⊎_elim (λ old. let (low, marked) = (are number).1 old in (omega arith, marked)) (λ same. (omega arith, subst (λ n. IsMarked marks n) same on)) (Contains-push_cases numbers count number c)),
  )

  pub marked_less : (IsMarked marks count → ⊥) → AreMarkedTo marks (count + 1) numbers
  marked_less off number = (
    (λ (low, marked). ⊎_elim (λ same. absurd (off (subst (λ n. IsMarked marks n) same marked))) (λ other. (are number).0 (omega arith, marked)) (cases_eq number count)),
    (λ c. let (low, marked) = (are number).1 c in (omega arith, marked)),
  )

  pub marked_all : length marks ≤ count → AreTheMarked marks numbers
  marked_all long number = ((λ marked. (are number).0 ((let low : number < length marks = slice_get_within marks number true marked in omega arith), marked)), (λ c. ((are number).1 c).1))

pub refusal : {P : Type 0} (b : Bool) → (IsTrue b ↔ P) → IsTrue (not b) ↔ (P → ⊥)
refusal true iff = ((λ e. absurd (cc)), (λ none. absurd (none (iff.0 refl))))
refusal false iff = ((λ e p. let yes : false ≡ true = iff.1 p in cc), (λ none. refl))

-- A branch has the rows that its query has answers, and one query is contained in another where the chase says so.
use Rattle.std.proofs.Common.{◌≡◌, ℕ, ◌+◌, ◌<◌, List, [], ◌∷◌, ◌++◌, length, Some, refl, sym, ap, ◌∙◌, subst, ⊎_elim, arith}
use Rattle.std.specs.Prelude.{Contains, slice_get, slice_index_or, map}
use Rattle.std.specs.List.{AllZip, range_with_len}
use Rattle.std.proofs.lemmas.Option.{get_or_from_slice_get, slice_get_within, slice_get-get_or}
use Rattle.std.proofs.lemmas.List.{length_push}
use Rattle.std.proofs.lemmas.List.FromFn.{length-map-range_with_len, get_or-map-range_with_len, map-range_with_len_more}
use Rattle.lists.proofs.Members.{contains_here, contains_there, contains_cases, contains_mapped, got_push, got_before, map_same}
use Rattle.meaning_laws.proofs.Added.{opened_from}
use Rattle.meaning_laws.proofs.Monotone.{joins_length}
use Rattle.meaning.specs.declared.types.Atom.{Atom}
use Rattle.meaning.specs.declared.types.Place.{Place}
use Rattle.meaning.specs.declared.types.Place.TheVariants.{Const, Col, New}
use Rattle.meaning.specs.declared.types.Out.{Out}
use Rattle.meaning.specs.declared.types.Out.TheVariants.{Const as Fixed, Col as Made}
use Rattle.meaning.specs.declared.types.Step.{Step}
use Rattle.meaning.specs.declared.types.Branch.{Branch}
use Rattle.meaning.specs.declared.types.Fact.{Fact}
use Rattle.meaning.specs.declared.types.Method.{Method}
use Rattle.meaning.specs.declared.types.SchemaParts.{SchemaParts}
use Rattle.meaning.specs.declared.types.Query.{Query}
use Rattle.meaning.specs.declared.types.Val.TheVariants.{Const as Known, Label}
use Rattle.meaning.specs.declared.types.Rule.{Rule}
use Rattle.meaning.specs.declared.types.Trigger.{Trigger}
use Rattle.meaning_laws.proofs.Carrying.{image_values, extend_run, same_image}
use Rattle.meaning_laws.proofs.Keeping.{run_keeps, named_more}
use Rattle.meaning_laws.proofs.Kept.{kept_opening}
use Rattle.meaning_laws.proofs.Deciding.{quiet_meets}
use Rattle.meaning_laws.proofs.Renaming.{renamed_meets, answer_renamed, answer_back}
use Rattle.meaning_laws.proofs.Witness.{renamed_fits}
use Rattle.meaning_laws.proofs.Extracted.{carries_answer}
use Rattle.meaning.specs.Matching.{value_of, AreFacts, itself, FactsOf, GroundsOf, IsQueryAnswer, Meets, AnswersQuery}
use Rattle.meaning.specs.Plans.{IsWellFormed, made, AreLawfulPlaces, IsLawfulOut, AreLawfulFrom, IsLawfulBranch}
use Rattle.meaning.specs.Rows.{Joins, LeadsTo, IsOut, IsBranchRow}
use Rattle.meaning.specs.Claims.{IsModel}
use Rattle.meaning.specs.Homomorphisms.{image, Carries, fact_of, renamed}
use Rattle.meaning.specs.Triggers.{ground, State, IsFiringRun, IsActive}
use Rattle.meaning.specs.Runs.{frozen_head, opening_state}
use Rattle.meaning.specs.Naming.{IsNaming}
use Rattle.meaning.specs.Fitting.{RulesFit, QueryFits, QueryHasConstants}
use Rattle.meaning.specs.Judge.{terms_of, AreAtoms, out_term, IsBranchQuery}

-- what stands in the row stands in the next one
joins_front : (places : List Place) (values row next : List (List ℕ)) → Joins places values row next → (k : ℕ) (v : List ℕ) → slice_get row k ≡ Some v → slice_get next k ≡ Some v
joins_front [] [] row next e k v g = subst (λ r. slice_get r k ≡ Some v) (sym e) g
joins_front [] (value ∷ values) row next j k v g = absurd j
joins_front (place ∷ places) [] row next j k v g = absurd j
joins_front (Const t ∷ places) (value ∷ values) row next j k v g = joins_front places values row next j.1 k v g
joins_front (Col i ∷ places) (value ∷ values) row next j k v g = joins_front places values row next j.1 k v g
joins_front (New ∷ places) (value ∷ values) row next j k v g =
    joins_front places values (row ++ value ∷ []) next j k v (got_before row (value ∷ []) k (slice_get_within row k v g) ∙ g)

-- the fact's values are the terms' under an assignment that agrees with the next row
joins_terms : (a : ℕ → List ℕ) (places : List Place) (values row next : List (List ℕ)) (n : ℕ) → length row ≡ n → Joins places values row next → ((k : ℕ) (v : List ℕ) → slice_get next k ≡ Some v → a k ≡ v) → values ≡ map (value_of itself a) (terms_of n places)
joins_terms a [] [] row next n l j agree = refl
joins_terms a [] (value ∷ values) row next n l j agree = absurd j
joins_terms a (place ∷ places) [] row next n l j agree = absurd j
joins_terms a (Const t ∷ places) (value ∷ values) row next n l (e, j) agree =
    let rest : values ≡ map (value_of itself a) (terms_of n places) = joins_terms a places values row next n l j agree in cc
joins_terms a (Col k ∷ places) (value ∷ values) row next n l (g, j) agree =
    let here : a k ≡ value = agree k value (joins_front places values row next j k value g) in
    let rest : values ≡ map (value_of itself a) (terms_of n places) = joins_terms a places values row next n l j agree in cc
joins_terms a (New ∷ places) (value ∷ values) row next n l j agree =
    let at : slice_get (row ++ value ∷ []) n ≡ Some value = subst (λ m. slice_get (row ++ value ∷ []) m ≡ Some value) l (got_push row value) in
    let here : a n ≡ value = agree n value (joins_front places values (row ++ value ∷ []) next j n value at) in
    let rest : values ≡ map (value_of itself a) (terms_of (n + 1) places) = joins_terms a places values (row ++ value ∷ []) next (n + 1) (length_push row value ∙ ap (λ m. m + 1) l) j agree in cc

-- the row of the first n variables
tabulated : (ℕ → List ℕ) → ℕ → List (List ℕ)
tabulated a n = map a (range_with_len 0 n)

tabulated_none : (a : ℕ → List ℕ) → tabulated a 0 ≡ []
unfolding tabulated
tabulated_none a = refl

tabulated_more : (a : ℕ → List ℕ) (n : ℕ) → tabulated a n ++ a n ∷ [] ≡ tabulated a (n + 1)
unfolding tabulated
tabulated_more a n = sym (map-range_with_len_more a 0 n n (omega arith))

tabulated_at : (a : ℕ → List ℕ) (n k : ℕ) → k < n → slice_get (tabulated a n) k ≡ Some (a k)
unfolding tabulated
tabulated_at a n k l =
    slice_get-get_or (map a (range_with_len 0 n)) k [] (rw (length-map-range_with_len a 0 n) l) ∙ ap Some (get_or-map-range_with_len a 0 n k k [] l (omega arith))

terms_join : (a : ℕ → List ℕ) (constants : List (List ℕ)) (inputs : List ℕ) (began p n : ℕ) (places : List Place) → AreLawfulPlaces constants inputs began p n places → Joins places (map (value_of itself a) (terms_of n places)) (tabulated a n) (tabulated a (made n places))
terms_join a constants inputs began p n [] lawful = refl
terms_join a constants inputs began p n (Const t ∷ places) lawful = (refl, terms_join a constants inputs began (p + 1) n places lawful.1)
terms_join a constants inputs began p n (Col k ∷ places) lawful = (tabulated_at a n k lawful.0, terms_join a constants inputs began (p + 1) n places lawful.2)
terms_join a constants inputs began p n (New ∷ places) lawful =
    subst (λ row. Joins places (map (value_of itself a) (terms_of (n + 1) places)) row (tabulated a (made (n + 1) places))) (sym (tabulated_more a n)) (terms_join a constants inputs began (p + 1) (n + 1) places lawful.1)

module _ (schema : SchemaParts) (well : IsWellFormed schema) (instance : List Fact) where
  steps_front : (steps : List Step) (row last : List (List ℕ)) → LeadsTo schema instance steps row last → (k : ℕ) (v : List ℕ) → slice_get row k ≡ Some v → slice_get last k ≡ Some v
  steps_front [] row last e k v g = subst (λ r. slice_get r k ≡ Some v) (sym e) g
  steps_front (step ∷ steps) row last (next, one, more) k v g = steps_front steps next last more k v (joins_front step.places one.fact.row row next one.joins k v g)

  steps_atoms : (a : ℕ → List ℕ) (steps : List Step) (row last : List (List ℕ)) (n : ℕ) (atoms : List Atom) → length row ≡ n → AreAtoms schema n steps atoms → ((k : ℕ) (v : List ℕ) → slice_get last k ≡ Some v → a k ≡ v) → LeadsTo schema instance steps row last → AreFacts itself (FactsOf instance) a atoms
  steps_atoms a [] row last n atoms l are agree rows atom c = absurd (no_atom atom (subst (λ xs. Contains xs atom) are c))
    where
      no_atom : (atom : Atom) → Contains [] atom → ⊥
      no_atom atom c = omega arith
  steps_atoms a (step ∷ steps) row last n atoms l (method, rest, named, e, are) agree (next, one, more) atom c =
      let record { method = found; fact = fact; named = named'; of_relation = rel; holds = holds; joins = joins } = one in
      let same : found ≡ method = well.once found method named'.0 named.0 (named'.1 ∙ sym named.1) in
      let rel' : fact.rel ≡ method.rel = rel ∙ ap (λ (m : Method). m.rel) same in
      let row' : fact.row ≡ map (value_of itself a) (terms_of n step.places) = joins_terms a step.places fact.row row next n l joins (λ k v g. agree k v (steps_front steps next last more k v g)) in
      let long : length next ≡ made n step.places = joins_length step.places fact.row row next joins ∙ ap (λ m. made m step.places) l in
      ⊎_elim (λ i. subst (λ (x : Atom). FactsOf instance x.rel (map (value_of itself a) x.terms)) i (subst (λ f. Contains instance f) (λ i. record { rel = rel' i; row = row' i }) holds))
      (λ i. steps_atoms a steps next last (made n step.places) rest long are agree more atom i)
      (contains_cases (record { rel = method.rel; terms = terms_of n step.places }) rest atom (subst (λ xs. Contains xs atom) e c))

  atoms_steps : (a : ℕ → List ℕ) (constants : List (List ℕ)) (steps : List Step) (output : List Out) (n : ℕ) (atoms : List Atom) → AreLawfulFrom schema constants n steps output → AreAtoms schema n steps atoms → AreFacts itself (FactsOf instance) a atoms →
      (m : ℕ) × LeadsTo schema instance steps (tabulated a n) (tabulated a m) × ((out : Out) → Contains output out → IsLawfulOut constants m out)
  atoms_steps a constants [] output n atoms outs are facts = (n, refl, outs)
  atoms_steps a constants (step ∷ steps) output n atoms (method, lawful, more) (found, rest, named, e, are) facts =
      let same : found ≡ method = well.once found method named.0 lawful.named.0 (named.1 ∙ sym lawful.named.1) in
      let first : record { rel = found.rel; terms = terms_of n step.places } ∷ rest ≡ atoms = sym e in
      let holds : FactsOf instance found.rel (map (value_of itself a) (terms_of n step.places)) =
      facts (record { rel = found.rel; terms = terms_of n step.places }) (subst (λ xs. Contains xs (record { rel = found.rel; terms = terms_of n step.places })) first (contains_here (record { rel = found.rel; terms = terms_of n step.places }) rest)) in
      let (m, rows, outs) = atoms_steps a constants steps output (made n step.places) rest more are
      (λ atom c. facts atom (subst (λ xs. Contains xs atom) first (contains_there (record { rel = found.rel; terms = terms_of n step.places }) rest atom c))) in
      (m, (tabulated a (made n step.places), record { method = found; fact = record { rel = found.rel; row = map (value_of itself a) (terms_of n step.places) }; named = named; of_relation = refl; holds = holds; joins = terms_join a constants method.inputs n 0 n step.places lawful.places }, rows), outs)

outs_terms : (a : ℕ → List ℕ) (last : List (List ℕ)) (output : List Out) (row : List (List ℕ)) → ((k : ℕ) (v : List ℕ) → slice_get last k ≡ Some v → a k ≡ v) → AllZip (IsOut last) output row → row ≡ map (value_of itself a) (map out_term output)
outs_terms a last [] [] agree z = refl
outs_terms a last [] (v ∷ row) agree z = absurd z
outs_terms a last (out ∷ output) [] agree z = absurd z
outs_terms a last (Fixed c ∷ output) (v ∷ row) agree (e, z) = let rest : row ≡ map (value_of itself a) (map out_term output) = outs_terms a last output row agree z in cc
outs_terms a last (Made k ∷ output) (v ∷ row) agree (g, z) =
    let here : a k ≡ v = agree k v g in
    let rest : row ≡ map (value_of itself a) (map out_term output) = outs_terms a last output row agree z in cc

terms_outs : (a : ℕ → List ℕ) (constants : List (List ℕ)) (m : ℕ) (output : List Out) → ((out : Out) → Contains output out → IsLawfulOut constants m out) → AllZip (IsOut (tabulated a m)) output (map (value_of itself a) (map out_term output))
terms_outs a constants m [] outs = tt
terms_outs a constants m (Fixed c ∷ output) outs = (refl, terms_outs a constants m output (λ o c'. outs o (contains_there (Fixed c) output o c')))
terms_outs a constants m (Made k ∷ output) outs = (tabulated_at a m k (outs (Made k) (contains_here (Made k) output)), terms_outs a constants m output (λ o c. outs o (contains_there (Made k) output o c)))

-- the rows of a lawful branch are the answers of its query
pub rows_are_answers : (schema : SchemaParts) (constants : List (List ℕ)) (branch : Branch) (query : Query) (instance : List Fact) (row : List (List ℕ)) → IsWellFormed schema → IsLawfulBranch schema constants branch → IsBranchQuery schema branch query → (IsBranchRow schema branch instance row → AnswersQuery query instance row) × (AnswersQuery query instance row → IsBranchRow schema branch instance row)
rows_are_answers schema constants branch query instance row well lawful is = (
  (λ (last, steps, outs).
      let a = λ (k : ℕ). slice_index_or last k [] in
      let agree : (k : ℕ) (v : List ℕ) → slice_get last k ≡ Some v → a k ≡ v = λ k v g. get_or_from_slice_get last k v [] g in (
        a,
        steps_atoms schema well instance a branch.steps [] last 0 query.atoms refl is.atoms agree steps,
        outs_terms a last branch.output row agree outs ∙ ap (map (value_of itself a)) (sym is.head),
      )),
  (λ (a, are, e).
      let (m, rows, outs) = from_start a (atoms_steps schema well instance a constants branch.steps branch.output 0 query.atoms lawful is.atoms are) in
      (tabulated a m, rows, subst (λ r. AllZip (IsOut (tabulated a m)) branch.output r) (ap (map (value_of itself a)) (sym is.head) ∙ sym e) (terms_outs a constants m branch.output outs))),
)
  where
    from_start : (a : ℕ → List ℕ) → ((m : ℕ) × LeadsTo schema instance branch.steps (tabulated a 0) (tabulated a m) × ((out : Out) → Contains branch.output out → IsLawfulOut constants m out)) → ((m : ℕ) × LeadsTo schema instance branch.steps [] (tabulated a m) × ((out : Out) → Contains branch.output out → IsLawfulOut constants m out))
    from_start a (m, rows, outs) = (m, subst (λ r. LeadsTo schema instance branch.steps r (tabulated a m)) (nothing a) rows, outs)
      where
        nothing : (a : ℕ → List ℕ) → tabulated a 0 ≡ []
        nothing a = tabulated_none a

-- where the head of one query is an answer of another after a run from its opening state, its answers are answers of the other
pub contained : (schema : SchemaParts) (constants : List (List ℕ)) (query other : Query) (log : List Trigger) (end : State) → RulesFit schema constants → QueryFits schema query → QueryHasConstants constants query → IsFiringRun schema.rules (opening_state query) log end → IsQueryAnswer Known (GroundsOf end.facts) other (frozen_head query) →
    (instance : List Fact) (row : List (List ℕ)) → Meets instance schema → AnswersQuery query instance row → AnswersQuery other instance row
contained schema constants query other log end rules fits have run match instance row meets (a, are, e) =
    let opened = kept_opening schema constants query fits have in
    let start : Carries a (opening_state query).facts instance =
    λ fact c. let (atom, among, same) = contains_mapped (ground Label) query.atoms fact (opened_from query fact c) in
    subst (λ f. Contains instance (fact_of a f)) same (subst (λ r. Contains instance (record { rel = atom.rel; row = r })) (sym (image_values a Label atom.terms)) (are atom among)) in
    let (g, same, carries) = extend_run schema.rules log (opening_state query) end instance a rules.numbered meets (λ fact k c i. opened.base_named fact (Label k) c i) run start in
    let heads : map (image g) (frozen_head query) ≡ row = map_same (image g) (image a) (frozen_head query) (λ v c. same_image g a query.variables same v (λ k is. opened.head_named (Label k) (subst (λ w. Contains (frozen_head query) w) is c))) ∙ image_values a Label query.head ∙ sym e in
    subst (λ r. AnswersQuery other instance r) heads (carries_answer g end.facts instance other (frozen_head query) carries match)

-- where nothing is active after the run and no query has the head, the state is an instance that separates
pub separated : (schema : SchemaParts) (constants : List (List ℕ)) (query : Query) (others : List Query) (log : List Trigger) (end : State) (h : ℕ → List ℕ) → RulesFit schema constants → QueryFits schema query → QueryHasConstants constants query → ((q : Query) → Contains others q → QueryHasConstants constants q) → IsFiringRun schema.rules (opening_state query) log end →
    ((trigger : Trigger) (rule : Rule) → IsActive schema.rules end trigger rule → ⊥) → ((q : Query) → Contains others q → IsQueryAnswer Known (GroundsOf end.facts) q (frozen_head query) → ⊥) → IsNaming constants end.next h →
    IsModel schema (renamed h end.facts) × AnswersQuery query (renamed h end.facts) (map (image h) (frozen_head query)) × ((q : Query) → Contains others q → AnswersQuery q (renamed h end.facts) (map (image h) (frozen_head query)) → ⊥)
separated schema constants query others log end h rules fits have others_have run quiet none naming =
    let opened = kept_opening schema constants query fits have in
    let kept = run_keeps schema constants log (opening_state query) end rules opened.base_named opened.base_fits run in
    let answered : IsQueryAnswer Known (GroundsOf end.facts) query (frozen_head query) = (opened.answered.0, (λ atom among. kept.grows (ground opened.answered.0 atom) (opened.answered.1 atom among)), opened.answered.2) in (
      record { fits = renamed_fits schema h end.facts kept.fit; meets = renamed_meets constants end.next h naming end.facts kept.named schema.rules rules.have (quiet_meets schema.rules end rules.numbered quiet) },
      answer_renamed constants end.next h naming end.facts kept.named query (frozen_head query) answered,
      (λ q among answer. none q among (answer_back constants end.next h naming end.facts kept.named q (frozen_head query) (others_have q among).atoms (others_have q among).head (λ v c. named_more constants query.variables end.next v kept.next (opened.head_named v c)) answer)),
    )

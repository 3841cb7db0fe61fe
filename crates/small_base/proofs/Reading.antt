-- Facts as the atoms of a query, and what the query keeps of the state that has them.
use Rattle.std.proofs.Common.{◌≡◌, ℕ, ◌<◌, ◌≤◌, List, [], ◌∷◌, length, slice_get, Some, refl, sym, ap, ◌∙◌, subst, ⊎_elim, arith}
use Rattle.std.specs.Prelude.{Contains, map}
use Rattle.std.proofs.lemmas.List.{length-map}
use Rattle.lists.proofs.Members.{contains_here, contains_there, contains_map, contains_mapped, got_mapped}
use Rattle.meaning.specs.declared.types.Term.{Term}
use Rattle.meaning.specs.declared.types.Term.TheVariants.{Var, Const as Said}
use Rattle.meaning.specs.declared.types.Val.{Val}
use Rattle.meaning.specs.declared.types.Val.TheVariants.{Const, Label}
use Rattle.meaning.specs.declared.types.Atom.{Atom}
use Rattle.meaning.specs.declared.types.Ground.{Ground}
use Rattle.meaning.specs.declared.types.Query.{Query}
use Rattle.meaning.specs.declared.types.Rule.{Rule}
use Rattle.meaning.specs.declared.types.SchemaParts.{SchemaParts}
use Rattle.meaning.specs.Integers.{IsInteger}
use Rattle.meaning.specs.Sorts.{HoldsIntegers, AtomsAreSorted}
use Rattle.meaning.specs.Matching.{value_of}
use Rattle.meaning.specs.Triggers.{terms_bound, bound, State, LabelsBelow, ground, IsQuiet}
use Rattle.meaning.specs.Runs.{opening_state}
use Rattle.meaning.specs.Naming.{IsNamed, AreNamed}
use Rattle.meaning.specs.Fitting.{HaveConstants, RulesHaveConstants, QueryHasConstants, Fit, QueryFits}
use Rattle.meaning_laws.specs.Trims.{AreIn}
use Rattle.meaning_laws.proofs.Added.{added_right, added_cases}
use Rattle.meaning_laws.proofs.Carrying.{occurs_below}
use Rattle.meaning_laws.proofs.Fits.{fits_alike}
use Rattle.integer_laws.specs.Sorted.{AreSortedGrounds, AreSortedRules}
use Rattle.integer_laws.proofs.Firings.{opening_sorted}
use Rattle.small_base.specs.Closing.{IsClosing}
use Rattle.small_base.specs.Closed.{term_of, atom_of, query_of, HasMore, IsClosed}

value_term : (v : Val) → value_of Const Label (term_of v) ≡ v
value_term (Const c) = refl
value_term (Label k) = refl

term_value : (term : Term) → term_of (value_of Const Label term) ≡ term
term_value (Said c) = refl
term_value (Var x) = refl

values_terms : (vals : List Val) → map (value_of Const Label) (map term_of vals) ≡ vals
values_terms [] = refl
values_terms (v ∷ vals) = let here : value_of Const Label (term_of v) ≡ v = value_term v in let rest : map (value_of Const Label) (map term_of vals) ≡ vals = values_terms vals in cc

terms_values : (terms : List Term) → map term_of (map (value_of Const Label) terms) ≡ terms
terms_values [] = refl
terms_values (t ∷ terms) = let here : term_of (value_of Const Label t) ≡ t = term_value t in let rest : map term_of (map (value_of Const Label) terms) ≡ terms = terms_values terms in cc

-- freezing a fact's atom gives the fact, and an atom is that of its frozen fact
ground_atom : (fact : Ground) → ground Label (atom_of fact) ≡ fact
ground_atom fact = λ i. record { rel = fact.rel; vals = values_terms fact.vals i }

atom_ground : (atom : Atom) → atom_of (ground Label atom) ≡ atom
atom_ground atom = λ i. record { rel = atom.rel; terms = terms_values atom.terms i }

-- a value of a frozen atom is that of one of its terms
term_there : (terms : List Term) (v : Val) → Contains (map (value_of Const Label) terms) v → Contains terms (term_of v)
term_there terms v c =
    let (term, among, e) = contains_mapped (value_of Const Label) terms v c in
    subst (λ t. Contains terms t) (sym (term_value term) ∙ ap term_of e) among

-- the opening facts of a query over a state are its facts
opened_to : (query : Query) (state : State) → AreIn state.facts (opening_state (query_of query state)).facts
opened_to query state fact c =
    added_right [] (map (ground Label) (map atom_of state.facts)) fact
    (subst (λ f. Contains (map (ground Label) (map atom_of state.facts)) f) (ground_atom fact) (contains_map (ground Label) (map atom_of state.facts) (atom_of fact) (contains_map atom_of state.facts fact c)))

opened_from : (query : Query) (state : State) → AreIn (opening_state (query_of query state)).facts state.facts
opened_from query state fact c =
    ⊎_elim (λ none. absurd (omega arith))
    (λ h. let (atom, among, e) = contains_mapped (ground Label) (map atom_of state.facts) fact h in
    let (first, within, same) = contains_mapped atom_of state.facts atom among in
    subst (λ f. Contains state.facts f) (sym (ground_atom first) ∙ ap (ground Label) same ∙ e) within)
    (added_cases [] (map (ground Label) (map atom_of state.facts)) fact c)

-- of a state's facts only membership counts
quiet_same : (rules : List Rule) (first second : State) → AreIn first.facts second.facts → AreIn second.facts first.facts → first.next ≡ second.next → IsQuiet rules first → IsQuiet rules second
quiet_same rules first second to from same quiet trigger rule active = quiet trigger rule (record {
  trigger_is = record {
    numbered = active.trigger_is.numbered;
    width = active.trigger_is.width;
    fresh = (let l = active.trigger_is.fresh in omega arith);
    body = λ atom c. from _ (active.trigger_is.body atom c);
  };
  next = active.next ∙ sym same;
  unmet = λ b ext. active.unmet b (record { agrees = ext.agrees; head = λ atom c. to _ (ext.head atom c) });
})

-- variables are counted where labels are
terms_low : (vals : List Val) (n : ℕ) → ((k : ℕ) → Contains vals (Label k) → k < n) → terms_bound (map term_of vals) ≤ n
terms_low [] n below = omega arith
terms_low (Const t ∷ vals) n below = terms_low vals n (λ k c. below k (contains_there (Const t) vals (Label k) c))
terms_low (Label j ∷ vals) n below =
    let here : j < n = below j (contains_here (Label j) vals) in
    let rest : terms_bound (map term_of vals) ≤ n = terms_low vals n (λ k c. below k (contains_there (Label j) vals (Label k) c)) in
    omega arith

bound_low : (facts : List Ground) (n : ℕ) → LabelsBelow facts n → bound (map atom_of facts) ≤ n
bound_low [] n below = omega arith
bound_low (fact ∷ facts) n below =
    let here : terms_bound (map term_of fact.vals) ≤ n = terms_low fact.vals n (λ k c. below fact k (contains_here fact facts) c) in
    let rest : bound (map atom_of facts) ≤ n = bound_low facts n (λ f k c i. below f k (contains_there fact facts f c) i) in
    omega arith

module _ (query : Query) (counted : bound query.atoms ≤ query.variables) where
  -- the frozen atoms of a query
  pub frozen_below : LabelsBelow (map (ground Label) query.atoms) query.variables
  frozen_below fact k c inside =
      let (atom, among, e) = contains_mapped (ground Label) query.atoms fact c in
      let occurs : Contains atom.terms (Var k) = term_there atom.terms (Label k) (subst (λ (f : Ground). Contains f.vals (Label k)) (sym e) inside) in
      let low : k < bound query.atoms = occurs_below query.atoms k (atom, among, occurs) in
      omega arith

  frozen_named : (constants : List (List ℕ)) → HaveConstants constants query.atoms → AreNamed constants query.variables (map (ground Label) query.atoms)
  frozen_named constants have fact (Label k) c inside = frozen_below fact k c inside
  frozen_named constants have fact (Const t) c inside =
      let (atom, among, e) = contains_mapped (ground Label) query.atoms fact c in
      have atom t among (term_there atom.terms (Const t) (subst (λ (f : Ground). Contains f.vals (Const t)) (sym e) inside))

  frozen_fits : (schema : SchemaParts) → QueryFits schema query → Fit schema (map (ground Label) query.atoms)
  frozen_fits schema fits fact c =
      let (atom, among, e) = contains_mapped (ground Label) query.atoms fact c in
      fits_alike schema atom.rel fact.rel atom.terms fact.vals (ap (λ (f : Ground). f.rel) e) (ap (λ (f : Ground). length f.vals) (sym e) ∙ length-map atom.terms (value_of Const Label)) (fits.arity atom among)

  frozen_sorted : (schema : SchemaParts) → AtomsAreSorted schema query.atoms → AreSortedGrounds schema (map (ground Label) query.atoms)
  frozen_sorted schema are fact c =
      let opened = opening_sorted schema query are in
      opened.base fact (added_right [] (map (ground Label) query.atoms) fact c)

  module _ (schema : SchemaParts) (state : State) (closing : IsClosing schema (map (ground Label) query.atoms) query.variables state) where
    closed_more : HasMore query (query_of query state)
    closed_more = record {
      head = refl;
      atoms = λ atom c. subst (λ a. Contains (map atom_of state.facts) a) (atom_ground atom) (contains_map atom_of state.facts (ground Label atom) (closing.grows.within (ground Label atom) (contains_map (ground Label) query.atoms atom c)));
    }

    closed_fits : LabelsBelow state.facts state.next → QueryFits schema query → QueryFits schema (query_of query state)
    closed_fits below fits = record {
      arity = λ atom c. let (fact, among, e) = contains_mapped atom_of state.facts atom c in
          fits_alike schema fact.rel atom.rel fact.vals atom.terms (ap (λ (a : Atom). a.rel) e) (ap (λ (a : Atom). length a.terms) (sym e) ∙ length-map fact.vals term_of) (closing.grows.fits (frozen_fits schema fits) fact among);
      variables = bound_low state.facts state.next below;
      head = λ x c. let (atom, among, occurs) = fits.head x c in (atom, closed_more.atoms atom among, occurs);
    }

    closed_have : (constants : List (List ℕ)) → RulesHaveConstants constants schema.rules → QueryHasConstants constants query → QueryHasConstants constants (query_of query state)
    closed_have constants rules have = record {
      atoms = λ atom t c inside.
          let (fact, among, e) = contains_mapped atom_of state.facts atom c in
          let (v, has, same) = contains_mapped term_of fact.vals (Said t) (subst (λ (a : Atom). Contains a.terms (Said t)) (sym e) inside) in
          named_constant v t same (closing.grows.named constants rules (frozen_named constants have.atoms) fact v among has);
      head = have.head;
    }
      where
        named_constant : (v : Val) (t : List ℕ) → term_of v ≡ Said t → IsNamed constants state.next v → Contains constants t
        named_constant (Const s) t e is = let same : s ≡ t = said_is e in subst (λ u. Contains constants u) same is
          where
            said_is : {s t : List ℕ} → Said s ≡ Said t → s ≡ t
            said_is e = cc
        named_constant (Label k) t e is = absurd (cc)

    closed_sorted : AreSortedRules schema → AtomsAreSorted schema query.atoms → AtomsAreSorted schema (query_of query state).atoms
    closed_sorted rules are atom c place t holds at =
        let (fact, among, e) = contains_mapped atom_of state.facts atom c in
        let (v, got, same) = got_mapped term_of fact.vals place (Said t) (subst (λ (a : Atom). slice_get a.terms place ≡ Some (Said t)) (sym e) at) in
        let here : HoldsIntegers schema fact.rel place = subst (λ r. HoldsIntegers schema r place) (sym (ap (λ (a : Atom). a.rel) e)) holds in
        sorted_constant fact v t same (closing.grows.sorted rules (frozen_sorted schema are) fact among place) here got
      where
        sorted_constant : (fact : Ground) (v : Val) (t : List ℕ) → term_of v ≡ Said t →
            ((c : List ℕ) → HoldsIntegers schema fact.rel place → slice_get fact.vals place ≡ Some (Const c) → IsInteger c) →
            HoldsIntegers schema fact.rel place → slice_get fact.vals place ≡ Some v → IsInteger t
        sorted_constant fact (Const s) t e is here got = let same : s ≡ t = said_is e in subst IsInteger same (is s here got)
          where
            said_is : {s t : List ℕ} → Said s ≡ Said t → s ≡ t
            said_is e = cc
        sorted_constant fact (Label k) t e is here got = absurd (cc)

    -- the query over a closing of its frozen atoms
    pub closed_is : LabelsBelow state.facts state.next → IsClosed schema query (query_of query state)
    closed_is below = record {
      more_atoms = closed_more;
      fits = closed_fits below;
      constants = closed_have;
      sorted = closed_sorted;
      quiet = quiet_same schema.rules state (opening_state (query_of query state)) (opened_to query state) (opened_from query state) refl closing.quiet;
    }

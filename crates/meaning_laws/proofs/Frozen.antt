-- The query of a lawful branch fits the schema, so that its frozen branch is the opening of runs.
use Rattle.std.proofs.Common.{◌≡◌, ◌⊎◌, ℕ, suc, ◌+◌, ◌<◌, ◌≤◌, List, [], ◌∷◌, length, refl, sym, ap, ◌∙◌, subst, inl, inr, ⊎_elim, arith}
use Rattle.std.specs.Prelude.{Contains}
use Rattle.lists.proofs.Members.{contains_here, contains_there, contains_cases, contains_mapped}
use Rattle.meaning_laws.proofs.Fits.{fits_alike}
use Rattle.meaning.specs.declared.types.Term.TheVariants.{Var, Const as Said}
use Rattle.meaning.specs.declared.types.Atom.{Atom}
use Rattle.meaning.specs.declared.types.Place.{Place}
use Rattle.meaning.specs.declared.types.Place.TheVariants.{Const, Col, New}
use Rattle.meaning.specs.declared.types.Out.{Out}
use Rattle.meaning.specs.declared.types.Out.TheVariants.{Const as Fixed, Col as Made}
use Rattle.meaning.specs.declared.types.Step.{Step}
use Rattle.meaning.specs.declared.types.Branch.{Branch}
use Rattle.meaning.specs.declared.types.Method.{Method}
use Rattle.meaning.specs.declared.types.Query.{Query}
use Rattle.meaning.specs.declared.types.SchemaParts.{SchemaParts}
use Rattle.meaning.specs.Instances.{FitsRelation}
use Rattle.meaning.specs.Matching.{OccursIn}
use Rattle.meaning.specs.Plans.{IsWellFormed, made, AreLawfulPlaces, IsLawfulOut, AreLawfulFrom, IsLawfulBranch}
use Rattle.meaning.specs.Triggers.{terms_bound, bound}
use Rattle.meaning.specs.Fitting.{HaveConstants, QueryHasConstants, QueryFits}
use Rattle.meaning.specs.Judge.{terms_of, AreAtoms, out_term, columns_of, IsBranchQuery}

length_terms : (n : ℕ) (places : List Place) → length (terms_of n places) ≡ length places
length_terms n [] = refl
length_terms n (Const c ∷ places) = ap suc (length_terms n places)
length_terms n (Col k ∷ places) = ap suc (length_terms n places)
length_terms n (New ∷ places) = ap suc (length_terms (n + 1) places)

pub made_grows : (n : ℕ) (places : List Place) → n ≤ made n places
made_grows n [] = omega arith
made_grows n (Const c ∷ places) = made_grows n places
made_grows n (Col k ∷ places) = made_grows n places
made_grows n (New ∷ places) = let more : n + 1 ≤ made (n + 1) places = made_grows (n + 1) places in omega arith

pub columns_grow : (n : ℕ) (steps : List Step) → n ≤ columns_of n steps
columns_grow n [] = omega arith
columns_grow n (step ∷ steps) =
    let here : n ≤ made n step.places = made_grows n step.places in
    let rest : made n step.places ≤ columns_of (made n step.places) steps = columns_grow (made n step.places) steps in
    omega arith

-- the variables of lawful places are columns
places_bound : (constants : List (List ℕ)) (inputs : List ℕ) (began p n : ℕ) (places : List Place) → AreLawfulPlaces constants inputs began p n places → terms_bound (terms_of n places) ≤ made n places
places_bound constants inputs began p n [] lawful = omega arith
places_bound constants inputs began p n (Const c ∷ places) lawful = places_bound constants inputs began (p + 1) n places lawful.1
places_bound constants inputs began p n (Col k ∷ places) lawful =
    let low : k < n = lawful.0 in
    let grows : n ≤ made n places = made_grows n places in
    let rest : terms_bound (terms_of n places) ≤ made n places = places_bound constants inputs began (p + 1) n places lawful.2 in
    omega arith
places_bound constants inputs began p n (New ∷ places) lawful =
    let grows : n + 1 ≤ made (n + 1) places = made_grows (n + 1) places in
    let rest : terms_bound (terms_of (n + 1) places) ≤ made (n + 1) places = places_bound constants inputs began (p + 1) (n + 1) places lawful.1 in
    omega arith

-- the constants of lawful places are constants of the list
places_have : (constants : List (List ℕ)) (inputs : List ℕ) (began p n : ℕ) (places : List Place) → AreLawfulPlaces constants inputs began p n places → (c : List ℕ) → Contains (terms_of n places) (Said c) → Contains constants c
places_have constants inputs began p n [] lawful c i = absurd (omega arith)
places_have constants inputs began p n (Const t ∷ places) lawful c i =
    ⊎_elim (λ e. let same : t ≡ c = cc in subst (λ u. Contains constants u) same lawful.0) (λ h. places_have constants inputs began (p + 1) n places lawful.1 c h) (contains_cases (Said t) (terms_of n places) (Said c) i)
places_have constants inputs began p n (Col k ∷ places) lawful c i =
    ⊎_elim (λ e. let clash : ⊥ = cc in absurd clash) (λ h. places_have constants inputs began (p + 1) n places lawful.2 c h) (contains_cases (Var k) (terms_of n places) (Said c) i)
places_have constants inputs began p n (New ∷ places) lawful c i =
    ⊎_elim (λ e. let clash : ⊥ = cc in absurd clash) (λ h. places_have constants inputs began (p + 1) (n + 1) places lawful.1 c h) (contains_cases (Var n) (terms_of (n + 1) places) (Said c) i)

-- a column that places make is a variable of theirs
places_occur : (n : ℕ) (places : List Place) (k : ℕ) → k < made n places → (k < n) ⊎ Contains (terms_of n places) (Var k)
places_occur n [] k l = inl l
places_occur n (Const c ∷ places) k l = ⊎_elim inl (λ h. inr (contains_there (Said c) (terms_of n places) (Var k) h)) (places_occur n places k l)
places_occur n (Col j ∷ places) k l = ⊎_elim inl (λ h. inr (contains_there (Var j) (terms_of n places) (Var k) h)) (places_occur n places k l)
places_occur n (New ∷ places) k l =
    ⊎_elim (λ less. ⊎_elim inl (λ e. inr (subst (λ m. Contains (Var n ∷ terms_of (n + 1) places) (Var m)) e (contains_here (Var n) (terms_of (n + 1) places)))) (below less))
    (λ h. inr (contains_there (Var n) (terms_of (n + 1) places) (Var k) h)) (places_occur (n + 1) places k l)
  where
    below : k < n + 1 → (k < n) ⊎ (n ≡ k)
    below less = grind arith

-- what the atoms of lawful steps keep
record Frozen (schema : SchemaParts) (constants : List (List ℕ)) (n : ℕ) (steps : List Step) (atoms : List Atom) : Type 0 where
  pub arity : (atom : Atom) → Contains atoms atom → FitsRelation schema atom.rel atom.terms
  pub have : HaveConstants constants atoms
  pub low : bound atoms ≤ columns_of n steps
  pub occur : (k : ℕ) → k < columns_of n steps → (k < n) ⊎ OccursIn atoms k

module _ (schema : SchemaParts) (well : IsWellFormed schema) (constants : List (List ℕ)) where
  steps_frozen : (n : ℕ) (steps : List Step) (output : List Out) (atoms : List Atom) → AreLawfulFrom schema constants n steps output → AreAtoms schema n steps atoms → Frozen schema constants n steps atoms × ((out : Out) → Contains output out → IsLawfulOut constants (columns_of n steps) out)
  steps_frozen n [] output atoms outs are = (
    subst (λ xs. Frozen schema constants n [] xs) (sym are) (record {
      arity = λ atom c. absurd (none c);
      have = λ atom c i. absurd (none i);
      low = omega arith;
      occur = λ k l. inl l;
    }),
    outs,
  )
    where
      none : {atom : Atom} → Contains [] atom → ⊥
      none c = omega arith
  steps_frozen n (step ∷ steps) output atoms (method, lawful, more) (found, rest, named, e, are) =
      let (later, outs) = steps_frozen (made n step.places) steps output rest more are in
      let same : found ≡ method = well.once found method named.0 lawful.named.0 (named.1 ∙ sym lawful.named.1) in
      let first : Atom = record { rel = found.rel; terms = terms_of n step.places } in
      let fit : FitsRelation schema found.rel (terms_of n step.places) = fits_alike schema method.rel found.rel step.places (terms_of n step.places) (ap (λ (m : Method). m.rel) (sym same)) (length_terms n step.places) lawful.arity in
      let here : terms_bound (terms_of n step.places) ≤ made n step.places = places_bound constants method.inputs n 0 n step.places lawful.places in
      let grows : made n step.places ≤ columns_of (made n step.places) steps = columns_grow (made n step.places) steps in
      let least : bound rest ≤ columns_of (made n step.places) steps = later.low in (
        subst (λ xs. Frozen schema constants n (step ∷ steps) xs) (sym e) (record {
          arity = λ atom c. ⊎_elim (λ i. subst (λ (a : Atom). FitsRelation schema a.rel a.terms) i fit) (λ i. later.arity atom i) (contains_cases first rest atom c);
          have = λ atom c i d. ⊎_elim (λ j. places_have constants method.inputs n 0 n step.places lawful.places c (subst (λ (a : Atom). Contains a.terms (Said c)) (sym j) d)) (λ j. later.have atom c j d) (contains_cases first rest atom i);
          low = omega arith;
          occur = λ k l. ⊎_elim (λ less. ⊎_elim inl (λ h. inr (first, contains_here first rest, h)) (places_occur n step.places k less)) (λ (atom, c, d). inr (atom, contains_there first rest atom c, d)) (later.occur k l);
        }),
        outs,
      )

  -- the query of a lawful branch fits, and the list has its constants
  pub branch_query_fits : (branch : Branch) (query : Query) → IsLawfulBranch schema constants branch → IsBranchQuery schema branch query → QueryFits schema query × QueryHasConstants constants query
  branch_query_fits branch query lawful is =
      let (frozen, outs) = steps_frozen 0 branch.steps branch.output query.atoms lawful is.atoms in
      let low : bound query.atoms ≤ columns_of 0 branch.steps = frozen.low in (
        record {
          arity = frozen.arity;
          variables = subst (λ m. bound query.atoms ≤ m) (sym is.variables) low;
          head = λ x c. let (out, among, e) = contains_mapped out_term branch.output (Var x) (subst (λ ts. Contains ts (Var x)) is.head c) in
              ⊎_elim (λ l. absurd (below x l)) (λ o. o) (frozen.occur x (column out x (outs out among) e));
        },
        record {
          atoms = frozen.have;
          head = λ c i. let (out, among, e) = contains_mapped out_term branch.output (Said c) (subst (λ ts. Contains ts (Said c)) is.head i) in constant out c (outs out among) e;
        },
      )
    where
      below : (x : ℕ) → x < 0 → ⊥
      below x l = omega arith

      column : (out : Out) (x : ℕ) → IsLawfulOut constants (columns_of 0 branch.steps) out → out_term out ≡ Var x → x < columns_of 0 branch.steps
      column (Fixed c) x lawful e = let clash : ⊥ = cc in absurd clash
      column (Made k) x lawful e = let same : k ≡ x = cc in subst (λ m. m < columns_of 0 branch.steps) same lawful

      constant : (out : Out) (c : List ℕ) → IsLawfulOut constants (columns_of 0 branch.steps) out → out_term out ≡ Said c → Contains constants c
      constant (Fixed t) c lawful e = let same : t ≡ c = cc in subst (λ u. Contains constants u) same lawful
      constant (Made k) c lawful e = let clash : ⊥ = cc in absurd clash

pub made_few : (n : ℕ) (places : List Place) → made n places ≤ n + length places
made_few n [] = omega arith
made_few n (Const c ∷ places) = let rest = made_few n places in omega arith
made_few n (Col k ∷ places) = let rest = made_few n places in omega arith
made_few n (New ∷ places) = let rest = made_few (n + 1) places in omega arith

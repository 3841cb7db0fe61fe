-- What breaks a rule, by what its first atom is and what breaks the rule that remains.
use Rattle.std.proofs.Common.{◌≡◌, ℕ, ◌+◌, ◌-◌, ◌<◌, List, [], ◌∷◌, map, refl, sym, ap, ◌∙◌, subst, ⊎_elim, arith, Bool, true, false, cond}
use Rattle.std.specs.Prelude.{Contains, nat_lt, drop}
use Rattle.std.proofs.lemmas.Bool.{cases_lt}
use Rattle.std.proofs.lemmas.Bool.Decides.{nat_tests}
use Rattle.lists.proofs.Members.{contains_here, contains_there, contains_cases, contains_map, contains_mapped, contains_none, map_same, cons_same, head_is, tail_is}
use Rattle.meaning.specs.declared.types.Term.{Term}
use Rattle.meaning.specs.declared.types.Term.TheVariants.{Var, Const}
use Rattle.meaning.specs.declared.types.Atom.{Atom}
use Rattle.meaning.specs.declared.types.Rule.{Rule}
use Rattle.meaning.specs.declared.types.Fact.{Fact}
use Rattle.meaning.specs.Matching.{value_of, AreFacts, OccursIn, Extends, itself, FactsOf}
use Rattle.meaning.specs.Triggers.{joined, bound, terms_bound, IsNumbered}
use Rattle.meaning_laws.proofs.Joined.{joined_below, joined_above}
use Rattle.meaning_laws.proofs.Deciding.{same_values}
use Rattle.homomorphism.proofs.Binding.{var_is}
use Rattle.data_verify.specs.Breaking.{Breaks, row_under, facts_under}
use Rattle.data_verify.specs.Remaining.{remaining_term, remaining_atom, remaining_atoms, remaining_rule}
use Rattle.data_verify.proofs.Terms.{const_var}

pub are_same : (instance : List Fact) (a b : ℕ → List ℕ) (atoms : List Atom) →
    ((x : ℕ) → OccursIn atoms x → a x ≡ b x) →
    AreFacts itself (FactsOf instance) a atoms → AreFacts itself (FactsOf instance) b atoms
are_same instance a b atoms same are atom c =
    subst (FactsOf instance atom.rel) (same_values itself a b atom.terms (λ x o. same x (atom, c, o))) (are atom c)

-- an assignment in two parts
parts_under : (w : ℕ) (f a : ℕ → List ℕ) → ((x : ℕ) → x < w → f x ≡ a x) → (x : ℕ) → a x ≡ joined w f (λ i. a (w + i)) x
parts_under w f a same x = ⊎_elim
    (λ less. sym (same x less) ∙ sym (joined_below w f (λ i. a (w + i)) x less))
    (λ more. let at : x ≡ w + (x - w) = omega arith in
    ap a at ∙ sym (joined_above w f (λ i. a (w + i)) (x - w)) ∙ ap (joined w f (λ i. a (w + i))) (sym at))
    (cases_lt x w)

module _ (w : ℕ) (f : ℕ → List ℕ) where
  pub earlier_is : (x : ℕ) → x < w → remaining_term w f (Var x) ≡ Const (f x)
  earlier_is x l = grind (arith, nat_tests)

  later_is : (i : ℕ) → remaining_term w f (Var (w + i)) ≡ Var i
  later_is i = let e : w + i - w ≡ i = omega arith in grind (arith, nat_tests)

  later_back : (term : Term) (i : ℕ) → remaining_term w f term ≡ Var i → term ≡ Var (w + i)
  later_back (Const c) i e = absurd (const_var c i e)
  later_back (Var x) i e = ⊎_elim
      (λ less. absurd (const_var (f x) i (sym (earlier_is x less) ∙ e)))
      (λ more. let at : x ≡ w + (x - w) = omega arith in
      let is : x - w ≡ i = var_is (x - w) i (sym (later_is (x - w)) ∙ ap (λ y. remaining_term w f (Var y)) (sym at) ∙ e)
      in
      ap Var (at ∙ ap (λ k. w + k) is)) (cases_lt x w)

  pub occurs_later : (atoms : List Atom) (i : ℕ) → OccursIn atoms (w + i) → OccursIn (remaining_atoms w f atoms) i
  unfolding later_is
  occurs_later atoms i (atom, c, o) = (
    remaining_atom w f atom,
    contains_map (remaining_atom w f) atoms atom c,
    subst (Contains (map (remaining_term w f) atom.terms)) (later_is i)
        (contains_map (remaining_term w f) atom.terms (Var (w + i)) o),
  )

  occurs_back : (atoms : List Atom) (i : ℕ) → OccursIn (remaining_atoms w f atoms) i → OccursIn atoms (w + i)
  occurs_back atoms i (atom, c, o) =
      let (one, among, e) = contains_mapped (remaining_atom w f) atoms atom c in
      let there : Contains (map (remaining_term w f) one.terms) (Var i) =
      subst (λ (z : Atom). Contains z.terms (Var i)) (sym e) o in
      let (term, had, is) = contains_mapped (remaining_term w f) one.terms (Var i) there in
      (one, among, subst (Contains one.terms) (later_back term i is) had)

  -- the values, rows and facts of atoms are those of the atoms that remain
  module _ (g : ℕ → List ℕ) where
    value_remains : (term : Term) → value_of itself (joined w f g) term ≡ value_of itself g (remaining_term w f term)
    value_remains (Const c) = refl
    value_remains (Var x) = by (nat_lt x w)
      where
        by : (b : Bool) → cond b (f x) (g (x - w)) ≡ value_of itself g (cond b (Const (f x)) (Var (x - w)))
        by true = refl
        by false = refl

    pub terms_remain : (terms : List Term) → map (value_of itself (joined w f g)) terms ≡ map (value_of itself g)
        (map (remaining_term w f) terms)
    unfolding value_remains
    terms_remain [] = refl
    terms_remain (term ∷ terms) = cons_same _ _ _ _ (value_remains term) (terms_remain terms)

    pub rows_remain : (atoms : List Atom) → map (row_under (joined w f g)) atoms ≡ map (row_under g)
        (remaining_atoms w f atoms)
    rows_remain [] = refl
    rows_remain (atom ∷ atoms) = cons_same _ _ _ _ (terms_remain atom.terms) (rows_remain atoms)

    pub facts_remain : (atoms : List Atom) → facts_under (joined w f g) atoms ≡ facts_under g
        (remaining_atoms w f atoms)
    facts_remain [] = refl
    facts_remain (atom ∷ atoms) = cons_same _ _ _ _ (ap (λ row. record { rel = atom.rel; row = row })
        (terms_remain atom.terms)) (facts_remain atoms)

    module _ (instance : List Fact) (atoms : List Atom) where
      are_there : AreFacts itself (FactsOf instance) (joined w f g) atoms →
          AreFacts itself (FactsOf instance) g (remaining_atoms w f atoms)
      are_there are atom c =
          let (one, among, e) = contains_mapped (remaining_atom w f) atoms atom c in
          subst (λ (z : Atom). FactsOf instance z.rel (map (value_of itself g) z.terms)) e
          (subst (FactsOf instance one.rel) (terms_remain one.terms) (are one among))

      are_back : AreFacts itself (FactsOf instance) g (remaining_atoms w f atoms) →
          AreFacts itself (FactsOf instance) (joined w f g) atoms
      are_back are atom c = subst (FactsOf instance atom.rel) (sym (terms_remain atom.terms))
          (are (remaining_atom w f atom) (contains_map (remaining_atom w f) atoms atom c))

  -- how many variables remain
  terms_width : (terms : List Term) → terms_bound (map (remaining_term w f) terms) ≡ terms_bound terms - w
  terms_width [] = omega arith
  terms_width (Const c ∷ terms) = terms_width terms
  terms_width (Var x ∷ terms) = ⊎_elim
      (λ less. let rest = terms_width terms in ap (λ t. terms_bound (t ∷ map (remaining_term w f) terms))
      (earlier_is x less) ∙ rest ∙ omega arith)
      (λ more. let rest = terms_width terms in let at : x ≡ w + (x - w) = omega arith in
      ap (λ t. terms_bound (t ∷ map (remaining_term w f) terms))
      (ap (λ y. remaining_term w f (Var y)) at ∙ later_is (x - w)) ∙ omega arith) (cases_lt x w)

  pub width_is : (atoms : List Atom) → bound (remaining_atoms w f atoms) ≡ bound atoms - w
  width_is [] = omega arith
  width_is (atom ∷ atoms) = let here = terms_width atom.terms in let rest = width_is atoms in omega arith

-- a rule with a first atom, in which exactly the variables below a width occur
module _ (line : ℕ) (first : Atom) (later head : List Atom) (w : ℕ) (below : (x : ℕ) → OccursIn (first ∷ []) x → x < w)
    (all : (x : ℕ) → x < w → OccursIn (first ∷ []) x) where
  abbrev whole : Rule
  whole = record { line = line; body = first ∷ later; head = head }

  in_first : (x : ℕ) → x < w → OccursIn (first ∷ later) x
  in_first x l = let (atom, c, o) = all x l in
      ⊎_elim (λ e. (first, contains_here first later, subst (λ (z : Atom). Contains z.terms (Var x)) (sym e) o))
      (λ h. absurd (contains_none atom h)) (contains_cases first [] atom c)

  in_later : (i : ℕ) → OccursIn (first ∷ later) (w + i) → OccursIn later (w + i)
  in_later i (atom, c, o) = ⊎_elim
      (λ e.
      let here : Contains first.terms (Var (w + i)) = subst (λ (z : Atom). Contains z.terms (Var (w + i))) (sym e) o in
      let less = below (w + i) (first, contains_here first [], here) in
      absurd (omega arith))
      (λ h. (atom, h, o)) (contains_cases first later atom c)

  pub numbered_remains : (f : ℕ → List ℕ) → w ≡ bound (first ∷ []) → IsNumbered whole →
      IsNumbered (remaining_rule w f whole)
  numbered_remains f wide n = record {
    body = λ i l.
        let many = width_is w f later in
        occurs_later w f later i (in_later i (n.body (w + i) (omega arith)));
    head = λ i l m.
        let many = width_is w f later in let more = width_is w f head in
        occurs_later w f head i (n.head (w + i) (omega arith) (omega arith));
  }

  module _ (instance : List Fact) (f g : ℕ → List ℕ) where
    pub first_is : row_under (joined w f g) first ≡ row_under f first
    first_is = same_values itself (joined w f g) f first.terms
        (λ x o. joined_below w f g x (below x (first, contains_here first [], o)))

    pub breaks_rest : Breaks instance whole (joined w f g) → Breaks instance (remaining_rule w f whole) g
    breaks_rest br = record {
      body = are_there w f g instance later (λ atom c. br.body atom (contains_there first later atom c));
      unmet = λ b ext. br.unmet (joined w f b) (record {
        agrees = λ x o. ⊎_elim
            (λ less. joined_below w f b x less ∙ sym (joined_below w f g x less))
            (λ more. let at : x ≡ w + (x - w) = omega arith in
            ap (joined w f b) at ∙ joined_above w f b (x - w) ∙ ext.agrees (x - w)
            (occurs_later w f later (x - w) (in_later (x - w) (subst (OccursIn (first ∷ later)) at o)))
            ∙ sym (joined_above w f g (x - w)) ∙ ap (joined w f g) (sym at)) (cases_lt x w);
        head = are_back w f b instance head ext.head;
      });
    }

    pub breaks_whole : AreFacts itself (FactsOf instance) f (first ∷ []) →
        Breaks instance (remaining_rule w f whole) g → Breaks instance whole (joined w f g)
    breaks_whole are br = record {
      body = λ atom c. ⊎_elim
          (λ e. subst (λ (z : Atom). FactsOf instance z.rel (map (value_of itself (joined w f g)) z.terms)) e
          (subst (FactsOf instance first.rel) (sym first_is) (are first (contains_here first []))))
          (λ h. are_back w f g instance later br.body atom h) (contains_cases first later atom c);
      unmet = λ b ext. br.unmet (λ i. b (w + i)) (record {
        agrees = λ i o. ext.agrees (w + i) (deeper i (occurs_back w f later i o)) ∙ joined_above w f g i;
        head = are_there w f (λ i. b (w + i)) instance head
            (are_same instance b (joined w f (λ i. b (w + i))) head (λ x o. same b ext x) ext.head);
      });
    }
      where
        deeper : (i : ℕ) → OccursIn later (w + i) → OccursIn (first ∷ later) (w + i)
        deeper i (atom, c, o) = (atom, contains_there first later atom c, o)

        same : (b : ℕ → List ℕ) → Extends itself (FactsOf instance) whole (joined w f g) b → (x : ℕ) →
            b x ≡ joined w f (λ i. b (w + i)) x
        same b ext x = parts_under w f b (λ y l. sym (ext.agrees y (in_first y l) ∙ joined_below w f g y l)) x

  -- what breaks the rule breaks what remains under the values that it gives the first atom
  pub breaks_under : (instance : List Fact) (f a : ℕ → List ℕ) → ((x : ℕ) → x < w → f x ≡ a x) →
      Breaks instance whole a → Breaks instance (remaining_rule w f whole) (λ i. a (w + i))
  breaks_under instance f a same br = breaks_rest instance f (λ i. a (w + i)) (record {
    body = are_same instance a (joined w f (λ i. a (w + i))) (first ∷ later) (λ x o. parts_under w f a same x) br.body;
    unmet = λ b ext. br.unmet b (record {
      agrees = λ x o. ext.agrees x o ∙ sym (parts_under w f a same x);
      head = ext.head;
    });
  })

-- the rows of atoms under an assignment are those of the atoms that remain
pub rows_after : (w : ℕ) (f a : ℕ → List ℕ) → ((x : ℕ) → x < w → f x ≡ a x) → (atoms : List Atom) →
    map (row_under (λ i. a (w + i))) (remaining_atoms w f atoms) ≡ map (row_under a) atoms
unfolding parts_under
rows_after w f a same atoms = sym (rows_remain w f (λ i. a (w + i)) atoms)
    ∙ map_same (row_under (joined w f (λ i. a (w + i)))) (row_under a) atoms
    (λ atom c. same_values itself (joined w f (λ i. a (w + i))) a atom.terms (λ x o. sym (parts_under w f a same x)))

-- values that agree below the width, where they occur in what remains, leave the same rule
module _ (w : ℕ) (f g : ℕ → List ℕ) where
  term_alike : (term : Term) → ((x : ℕ) → x < w → term ≡ Var x → f x ≡ g x) →
      remaining_term w f term ≡ remaining_term w g term
  term_alike (Const c) same = refl
  term_alike (Var x) same = ⊎_elim
      (λ less. earlier_is w f x less ∙ ap Const (same x less refl) ∙ sym (earlier_is w g x less))
      (λ more. let at : x ≡ w + (x - w) = omega arith in
      ap (λ y. remaining_term w f (Var y)) at ∙ later_is w f (x - w) ∙ sym (later_is w g (x - w))
      ∙ ap (λ y. remaining_term w g (Var y)) (sym at)) (cases_lt x w)

  atoms_alike : (atoms : List Atom) → ((x : ℕ) → x < w → OccursIn atoms x → f x ≡ g x) →
      remaining_atoms w f atoms ≡ remaining_atoms w g atoms
  atoms_alike atoms same = map_same (remaining_atom w f) (remaining_atom w g) atoms
      (λ atom c. ap (λ terms. record { rel = atom.rel; terms = terms })
      (map_same (remaining_term w f) (remaining_term w g) atom.terms
      (λ term h. term_alike term (λ x l e. same x l (atom, c, subst (Contains atom.terms) e h)))))

  pub rule_alike : (rule : Rule) → ((x : ℕ) → x < w → OccursIn (drop 1 rule.body) x → f x ≡ g x) →
      ((x : ℕ) → x < w → OccursIn rule.head x → f x ≡ g x) →
      remaining_rule w f rule ≡ remaining_rule w g rule
  rule_alike rule body head =
      let bodies : remaining_atoms w f (drop 1 rule.body) ≡ remaining_atoms w g (drop 1 rule.body) =
      atoms_alike (drop 1 rule.body) body in
      let heads : remaining_atoms w f rule.head ≡ remaining_atoms w g rule.head = atoms_alike rule.head head in
      cc

-- where the rows of atoms are the same, so are the values of their variables
map_at : {X Y : Type 0} (f g : X → Y) (xs : List X) (x : X) → map f xs ≡ map g xs → Contains xs x → f x ≡ g x
map_at f g [] x e c = absurd (contains_none x c)
map_at f g (y ∷ xs) x e c =
    ⊎_elim (λ same. subst (λ z. f z ≡ g z) same (head_is (f y) (g y) (map f xs) (map g xs) e))
    (λ h. map_at f g xs x (tail_is (f y) (g y) (map f xs) (map g xs) e) h) (contains_cases y xs x c)

pub values_alike : (f g : ℕ → List ℕ) (atoms : List Atom) → map (row_under f) atoms ≡ map (row_under g) atoms →
    (x : ℕ) → OccursIn atoms x → f x ≡ g x
unfolding map_at
values_alike f g atoms e x (atom, c, o) = map_at (value_of itself f) (value_of itself g) atom.terms (Var x)
    (map_at (row_under f) (row_under g) atoms atom e c) o

-- A rule with one body atom and one head atom, by the keys of the facts of its atoms.
use Rattle.std.proofs.Common.{◌≡◌, ℕ, List, [], ◌∷◌, map, length, slice_index_or, ◌==◌, Bool, true, false, cond, eqb, refl, sym, ap, ◌∙◌, subst, ⊎_elim, arith, Contains}
use Rattle.std.specs.Prelude.{◌≢◌}
use Rattle.std.specs.declared.cmp.Ordering.TheVariants.{Greater}
use Rattle.std.proofs.lemmas.Bool.{cases_eq, eq-eqb, eqb-true, ne_eqb, and_parts}
use Rattle.lists.proofs.Orders.{then_equal}
use Rattle.lists.proofs.Members.{contains_here, contains_there, contains_cases, map_same, contains_none, contains_one}
use Rattle.meaning.specs.declared.types.Term.{Term}
use Rattle.meaning.specs.declared.types.Term.TheVariants.{Var, Const}
use Rattle.meaning.specs.declared.types.Atom.{Atom}
use Rattle.meaning.specs.declared.types.Rule.{Rule}
use Rattle.meaning.specs.declared.types.Fact.{Fact}
use Rattle.meaning.specs.Matching.{value_of, AreFacts, OccursIn, Extends, MeetsRule, itself, FactsOf}
use Rattle.meaning_laws.proofs.Deciding.{same_values}
use Rattle.homomorphism.proofs.Binding.{var_is}
use Rattle.data_verify.specs.Breaking.{Breaks, AreLeastBreaking, row_under, facts_under, row_lists_cmp}
use Rattle.data_verify.specs.Inclusion.{is_inclusion, AreShared, IsKey, AreKeys, IsWithout, IsLeastOf}
use Rattle.data_verify.specs.Keys.{reading, key_of, row_cmp, Holds}
use Rattle.data_verify.specs.declared.key_set.KeySet.{KeySet}
use Rattle.data_verify.proofs.Terms.{const_var, reading_is}
use Rattle.data_verify.proofs.Held.{same_at, held_cases}

-- whether a variable is one of the terms
occurs : ℕ → List Term → Bool
occurs x [] = false
occurs x (Var y ∷ terms) = cond (eqb y x) true (occurs x terms)
occurs x (Const c ∷ terms) = occurs x terms

occurs_told : (x : ℕ) (terms : List Term) → occurs x terms ≡ true → Contains terms (Var x)
unfolding occurs
occurs_told x [] e = absurd (cc)
occurs_told x (Var y ∷ terms) e =
    ⊎_elim (λ same. subst (λ z. Contains (Var y ∷ terms) (Var z)) same (contains_here (Var y) terms))
    (λ differ. contains_there (Var y) terms (Var x) (occurs_told x terms (sym (ap (λ b. cond b true (occurs x terms)) (ne_eqb y x differ)) ∙ e))) (cases_eq y x)
occurs_told x (Const c ∷ terms) e = contains_there (Const c) terms (Var x) (occurs_told x terms e)

occurs_is : (x : ℕ) (terms : List Term) → Contains terms (Var x) → occurs x terms ≡ true
unfolding occurs
occurs_is x [] c = absurd (contains_none (Var x) c)
occurs_is x (Var y ∷ terms) c =
    ⊎_elim (λ same. ap (λ b. cond b true (occurs x terms)) (eq-eqb y x same))
    (λ differ. ap (λ b. cond b true (occurs x terms)) (ne_eqb y x differ) ∙ ⊎_elim (λ e. absurd (differ (var_is y x e))) (λ h. occurs_is x terms h) (contains_cases (Var y) terms (Var x) c)) (cases_eq y x)
occurs_is x (Const c ∷ terms) d = ⊎_elim (λ e. absurd (const_var c x e)) (λ h. occurs_is x terms h) (contains_cases (Const c) terms (Var x) d)

-- two rows that fit terms: keys are equal exactly where the values of the shared variables are
module _ (body head : List Term) (variables : List ℕ) (shared : AreShared body head variables) where
  same_key : (a b : ℕ → List ℕ) → ((x : ℕ) → Contains body (Var x) → b x ≡ a x) → key_of head variables (map (value_of itself b) head) ≡ key_of body variables (map (value_of itself a) body)
  same_key a b agrees = map_same (reading head (map (value_of itself b) head)) (reading body (map (value_of itself a) body)) variables
      (λ x c. let (of_head, of_body) = (shared x).0 c in
      reading_is b head (map (value_of itself b) head) x refl of_head ∙ agrees x of_body ∙ sym (reading_is a body (map (value_of itself a) body) x refl of_body))

  -- the values of the body's variables by the one, and of the others by the other
  abbrev joined : (ℕ → List ℕ) → (ℕ → List ℕ) → ℕ → List ℕ
  joined a b x = cond (occurs x body) (a x) (b x)

  joined_body : (a b : ℕ → List ℕ) (x : ℕ) → Contains body (Var x) → joined a b x ≡ a x
  joined_body a b x c = ap (λ t. cond t (a x) (b x)) (occurs_is x body c)

  joined_head : (a b : ℕ → List ℕ) → key_of head variables (map (value_of itself b) head) ≡ key_of body variables (map (value_of itself a) body) → map (value_of itself (joined a b)) head ≡ map (value_of itself b) head
  unfolding joined_body
  joined_head a b e = same_values itself (joined a b) b head (λ x c. by x c (occurs x body) refl)
    where
      by : (x : ℕ) → Contains head (Var x) → (t : Bool) → occurs x body ≡ t → joined a b x ≡ b x
      by x c true told = let of_body = occurs_told x body told in
          joined_body a b x of_body ∙ sym (reading_is a body (map (value_of itself a) body) x refl of_body)
          ∙ sym (same_at (reading head (map (value_of itself b) head)) (reading body (map (value_of itself a) body)) variables x e ((shared x).1 (c, of_body)))
          ∙ reading_is b head (map (value_of itself b) head) x refl c
      by x c false told = ap (λ t. cond t (a x) (b x)) told

-- the only atom of each side
pub one_each : (rule : Rule) → is_inclusion rule ≡ true → (length rule.body ≡ 1) × (length rule.head ≡ 1)
one_each rule e =
    let (first, second) = and_parts (length rule.body == 1) (length rule.head == 1) e in
    (eqb-true (length rule.body) 1 first, eqb-true (length rule.head) 1 second)

pub only : {X : Type 0} (xs items : List X) (x : X) → items ≡ xs → length xs ≡ 1 → x ≡ slice_index_or items 0 x → xs ≡ x ∷ []
only {X = X} xs items x e one is = by xs one (subst (λ z. x ≡ slice_index_or z 0 x) e is)
  where
    by : (xs : List X) → length xs ≡ 1 → x ≡ slice_index_or xs 0 x → xs ≡ x ∷ []
    by [] l f = absurd (omega arith)
    by (y ∷ []) l f = ap (λ z. z ∷ []) (sym f)
    by (y ∷ z ∷ ys) l f = absurd (omega arith)

-- a rule of these atoms, over an instance
module _ (instance : List Fact) (rule : Rule) (body head : Atom) (body_is : rule.body ≡ body ∷ []) (head_is : rule.head ≡ head ∷ []) (variables : List ℕ) (shared : AreShared body.terms head.terms variables)
    (keys : KeySet) (are : AreKeys instance head variables keys) where
  -- the fact of an atom under an assignment
  abbrev fact_under : (ℕ → List ℕ) → Atom → Fact
  fact_under a atom = record { rel = atom.rel; row = map (value_of itself a) atom.terms }

  of_one : (atoms : List Atom) (atom : Atom) (a : ℕ → List ℕ) → atoms ≡ atom ∷ [] → Contains instance (fact_under a atom) → AreFacts itself (FactsOf instance) a atoms
  of_one atoms atom a e c other among = subst (λ z. Contains instance (fact_under a z)) (contains_one atom other (subst (λ z. Contains z other) e among)) c

  one_of : (atoms : List Atom) (atom : Atom) (a : ℕ → List ℕ) → atoms ≡ atom ∷ [] → AreFacts itself (FactsOf instance) a atoms → Contains instance (fact_under a atom)
  one_of atoms atom a e facts = facts atom (subst (λ z. Contains z atom) (sym e) (contains_here atom []))

  occurs_in : (x : ℕ) → Contains body.terms (Var x) → OccursIn rule.body x
  occurs_in x c = subst (λ z. OccursIn z x) (sym body_is) (body, contains_here body [], c)

  in_body : (x : ℕ) → OccursIn rule.body x → Contains body.terms (Var x)
  in_body x occurs =
      let (atom, among, c) = subst (λ z. OccursIn z x) body_is occurs in
      ⊎_elim (λ same. subst (λ (z : Atom). Contains z.terms (Var x)) (sym same) c) (λ h. absurd (contains_none atom h)) (contains_cases body [] atom among)

  -- a body fact whose key is one of the keys extends
  extends : (a : ℕ → List ℕ) → IsKey instance head variables (key_of body.terms variables (map (value_of itself a) body.terms)) → (b : ℕ → List ℕ) × Extends itself (FactsOf instance) rule a b
  unfolding of_one in_body
  extends a (fact, among, fits, e) =
      let (b, f) = fits.row in
      let same : key_of head.terms variables (map (value_of itself b) head.terms) ≡ key_of body.terms variables (map (value_of itself a) body.terms) = ap (key_of head.terms variables) f ∙ e in
      let row : map (value_of itself (joined body.terms head.terms variables shared a b)) head.terms ≡ fact.row = joined_head body.terms head.terms variables shared a b same ∙ f in (
        joined body.terms head.terms variables shared a b,
        record {
          agrees = λ x occurs. joined_body body.terms head.terms variables shared a b x (in_body x occurs);
          head = of_one rule.head head (joined body.terms head.terms variables shared a b) head_is (subst (Contains instance) (is fact fits.rel (joined body.terms head.terms variables shared a b) row) among);
        },
      )
    where
      is : (fact : Fact) → fact.rel ≡ head.rel → (c : ℕ → List ℕ) → map (value_of itself c) head.terms ≡ fact.row → fact ≡ fact_under c head
      is fact r c e = ap (λ n. record { rel = n; row = fact.row }) r ∙ ap (λ row. record { rel = head.rel; row = row }) (sym e)

  -- where a body fact extends, its key is one of the keys
  has_key : (a b : ℕ → List ℕ) → Extends itself (FactsOf instance) rule a b → IsKey instance head variables (key_of body.terms variables (map (value_of itself a) body.terms))
  unfolding one_of occurs_in
  has_key a b ext = (
    fact_under b head,
    one_of rule.head head b head_is ext.head,
    record { rel = refl; row = (b, refl) },
    same_key body.terms head.terms variables shared a b (λ x c. ext.agrees x (occurs_in x c)),
  )

  without : (a : ℕ → List ℕ) → ((b : ℕ → List ℕ) → Extends itself (FactsOf instance) rule a b → ⊥) → IsWithout body head variables keys (fact_under a body)
  unfolding extends
  without a unmet = record {
    fits = record { rel = refl; row = (a, refl) };
    absent = λ h. let (b, ext) = extends a ((are _).0 h) in unmet b ext;
  }

  pub all_met : ((fact : Fact) → Contains instance fact → IsWithout body head variables keys fact → ⊥) → MeetsRule itself (FactsOf instance) rule
  unfolding extends one_of
  all_met none a facts = ⊎_elim (λ h. extends a ((are _).0 h))
      (λ not. absurd (none (fact_under a body) (one_of rule.body body a body_is facts) (record { fits = record { rel = refl; row = (a, refl) }; absent = not })))
      (held_cases head.terms variables keys (key_of body.terms variables (map (value_of itself a) body.terms)))

  breaks : (fact : Fact) → Contains instance fact → IsWithout body head variables keys fact → (a : ℕ → List ℕ) × Breaks instance rule a × (fact ≡ fact_under a body)
  unfolding of_one has_key
  breaks fact among w =
      let (a, e) = w.fits.row in
      let same : fact ≡ fact_under a body = is fact w.fits.rel a e in (
        a,
        record {
          body = of_one rule.body body a body_is (subst (Contains instance) same among);
          unmet = λ b ext. w.absent (subst (λ row. Holds head.terms variables keys (key_of body.terms variables row)) e ((are _).1 (has_key a b ext)));
        },
        same,
      )
    where
      is : (fact : Fact) → fact.rel ≡ body.rel → (a : ℕ → List ℕ) → map (value_of itself a) body.terms ≡ fact.row → fact ≡ fact_under a body
      is fact r a e = ap (λ n. record { rel = n; row = fact.row }) r ∙ ap (λ row. record { rel = body.rel; row = row }) (sym e)

  one_row : (x y : List (List ℕ)) → row_cmp x y ≢ Greater → row_lists_cmp (x ∷ []) (y ∷ []) ≢ Greater
  one_row x y n g = n (sym (then_equal (row_cmp x y)) ∙ g)

  pub least_breaking : (fact copy : Fact) → IsLeastOf (IsWithout body head variables keys) instance fact → copy ≡ fact → AreLeastBreaking instance rule (copy ∷ [])
  unfolding breaks without one_row one_of
  least_breaking fact copy l e = record {
    come = let (a, br, same) = breaks fact l.among l.is in (a, br, ap (λ (f : Fact). f ∷ []) (e ∙ same) ∙ ap (facts_under a) (sym body_is));
    least = λ a br.
        let below : row_cmp fact.row (map (value_of itself a) body.terms) ≢ Greater = l.lowest (fact_under a body) (one_of rule.body body a body_is br.body) (without a br.unmet) in
        subst (λ z. row_lists_cmp (copy.row ∷ []) (map (row_under a) z) ≢ Greater) (sym body_is)
        (subst (λ (f : Fact). row_lists_cmp (f.row ∷ []) (map (value_of itself a) body.terms ∷ []) ≢ Greater) (sym e) (one_row fact.row (map (value_of itself a) body.terms) below));
  }

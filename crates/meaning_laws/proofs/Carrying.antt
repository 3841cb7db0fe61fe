-- A map that carries labelled facts into an instance that meets the rules extends along firings.
use Rattle.std.proofs.Common.{◌≡◌, ℕ, ◌+◌, ◌-◌, ◌<◌, ◌≤◌, List, [], ◌∷◌, length, refl, sym, ap, ◌∙◌, subst, ⊎_elim, arith}
use mathlib.Core.Path.{fun_ext}
use Rattle.std.specs.Prelude.{Contains, slice_index_or, map}
use Rattle.std.specs.Prelude.{take}
use Rattle.std.specs.List.{range_with_len}
use Rattle.std.proofs.lemmas.List.{same_lists, get_or_default}
use Rattle.std.proofs.lemmas.List.FromFn.{length-map-range_with_len, get_or-map-range_with_len, take-map-range_with_len}
use Rattle.std.proofs.lemmas.Bool.{cases_lt}
use Rattle.lists.proofs.Members.{contains_here, contains_there, contains_cases, contains_got, contains_map, contains_mapped}
use Rattle.meaning_laws.proofs.Added.{added_cases}
use Rattle.meaning_laws.proofs.Joined.{joined_below, joined_above}
use Rattle.meaning.specs.declared.types.Term.{Term}
use Rattle.meaning.specs.declared.types.Term.TheVariants.{Var, Const as Said}
use Rattle.meaning.specs.declared.types.Val.{Val}
use Rattle.meaning.specs.declared.types.Val.TheVariants.{Const, Label}
use Rattle.meaning.specs.declared.types.Atom.{Atom}
use Rattle.meaning.specs.declared.types.Rule.{Rule}
use Rattle.meaning.specs.declared.types.Fact.{Fact}
use Rattle.meaning.specs.declared.types.Ground.{Ground}
use Rattle.meaning.specs.declared.types.Trigger.{Trigger}
use Rattle.meaning.specs.Matching.{value_of, AreFacts, OccursIn, Extends, MeetsAll, itself, FactsOf}
use Rattle.meaning.specs.Homomorphisms.{image, Carries}
use Rattle.meaning.specs.Triggers.{joined, terms_bound, bound, IsNumbered, AreNumbered, State, LabelsBelow, assigned, ground, IsTrigger, fired, IsFiringRun}
use Rattle.meaning.specs.Runs.{IsBaseRun}

-- the image of an atom's values is the atom under the mapped assignment
pub image_values : (h : ℕ → List ℕ) (a : ℕ → Val) (terms : List Term) → map (image h) (map (value_of Const a) terms) ≡ map (value_of itself (λ x. image h (a x))) terms
image_values h a [] = refl
image_values h a (Var x ∷ terms) = ap (λ l. image h (a x) ∷ l) (image_values h a terms)
image_values h a (Said c ∷ terms) = ap (λ l. c ∷ l) (image_values h a terms)

-- maps that agree below n have the same images of values whose labels are below n
pub same_image : (g h : ℕ → List ℕ) (n : ℕ) → ((k : ℕ) → k < n → g k ≡ h k) → (v : Val) → ((k : ℕ) → v ≡ Label k → k < n) → image g v ≡ image h v
same_image g h n same (Const c) below = refl
same_image g h n same (Label k) below = same k (below k refl)

pub same_images : (g h : ℕ → List ℕ) (n : ℕ) → ((k : ℕ) → k < n → g k ≡ h k) → (vals : List Val) → ((k : ℕ) → Contains vals (Label k) → k < n) → map (image g) vals ≡ map (image h) vals
same_images g h n same [] below = refl
same_images g h n same (v ∷ vals) below =
    let here : image g v ≡ image h v = same_image g h n same v (λ k e. below k (subst (λ w. Contains (v ∷ vals) w) e (contains_here v vals))) in
    let rest : map (image g) vals ≡ map (image h) vals = same_images g h n same vals (λ k c. below k (contains_there v vals (Label k) c)) in
    cc

pub carries_same : (g h : ℕ → List ℕ) (n : ℕ) → ((k : ℕ) → k < n → g k ≡ h k) → (facts : List Ground) (instance : List Fact) → LabelsBelow facts n → Carries h facts instance → Carries g facts instance
carries_same g h n same facts instance below carries fact c =
    rw (same_images g h n same fact.vals (λ k l. below fact k c l)) (carries fact c)

term_below : (terms : List Term) (x : ℕ) → Contains terms (Var x) → x < terms_bound terms
term_below [] x c = absurd (omega arith)
term_below (Var y ∷ terms) x c =
    ⊎_elim (λ e. let same : y ≡ x = cc in omega arith) (λ h. let rest : x < terms_bound terms = term_below terms x h in omega arith) (contains_cases (Var y) terms (Var x) c)
term_below (Said t ∷ terms) x c =
    ⊎_elim (λ e. let none : ⊥ = cc in absurd none) (λ h. term_below terms x h) (contains_cases (Said t) terms (Var x) c)

pub occurs_below : (atoms : List Atom) (x : ℕ) → OccursIn atoms x → x < bound atoms
occurs_below [] x (atom, c, t) = absurd (omega arith)
occurs_below (first ∷ atoms) x (atom, c, t) =
    ⊎_elim (λ e. let here : x < terms_bound first.terms = term_below first.terms x (subst (λ (w : Atom). Contains w.terms (Var x)) (sym e) t) in omega arith)
    (λ h. let rest : x < bound atoms = occurs_below atoms x (atom, h, t) in omega arith) (contains_cases first atoms atom c)

-- h for the old labels, and for each new one the value of its variable
grown : ℕ → ℕ → (ℕ → List ℕ) → (ℕ → List ℕ) → ℕ → List ℕ
grown next first h b = joined next h (λ i. b (first + i))

grown_below : (next first : ℕ) (h b : ℕ → List ℕ) (k : ℕ) → k < next → grown next first h b k ≡ h k
unfolding grown
grown_below next first h b k l = joined_below next h (λ i. b (first + i)) k l

grown_above : (next first : ℕ) (h b : ℕ → List ℕ) (i : ℕ) → grown next first h b (next + i) ≡ b (first + i)
unfolding grown
grown_above next first h b i = joined_above next h (λ j. b (first + j)) i

module _ (rules : List Rule) (state : State) (trigger : Trigger) (rule : Rule) (is : IsTrigger rules state trigger rule) where
  -- the new labels
  pub fresh_is : (i : ℕ) → assigned trigger (bound rule.body + i) ≡ Label (trigger.fresh + i)
  fresh_is i =
      rw (← is.width) (joined_above (length trigger.values) (λ x. slice_index_or trigger.values x (Label 0)) (λ j. Label (trigger.fresh + j)) i)

module _ (rules : List Rule) (state : State) (trigger : Trigger) (rule : Rule) (is : IsTrigger rules state trigger rule) (numbered : IsNumbered rule) (below : LabelsBelow state.facts state.next) where
  -- a body value's label is below the next one
  value_below : (x k : ℕ) → x < bound rule.body → assigned trigger x ≡ Label k → k < state.next
  value_below x k l e =
      let (atom, among, occurs) = numbered.body x l in
      below (ground (assigned trigger) atom) k (is.body atom among) (subst (λ v. Contains (map (value_of Const (assigned trigger)) atom.terms) v) e (contains_map (value_of Const (assigned trigger)) atom.terms (Var x) occurs))

  -- the labels of the state after the firing
  pub fired_below : LabelsBelow (fired state trigger rule).facts (fired state trigger rule).next
  fired_below fact k c l =
      ⊎_elim (λ old. let was : k < state.next = below fact k old l in let up = is.fresh in omega arith)
      (λ new. new_below new) (added_cases state.facts (map (ground (assigned trigger)) rule.head) fact c)
    where
      term_fresh : (term : Term) (atom : Atom) → Contains rule.head atom → Contains atom.terms term → value_of Const (assigned trigger) term ≡ Label k → k < trigger.fresh + (bound rule.head - bound rule.body)
      term_fresh (Said t) atom among within e = absurd (cc)
      term_fresh (Var x) atom among within e =
          let top : x < bound rule.head = occurs_below rule.head x (atom, among, within) in
          ⊎_elim (λ l. let was : k < state.next = value_below x k l e in let up = is.fresh in omega arith)
          (λ l. let split : x ≡ bound rule.body + (x - bound rule.body) = omega arith in
          let made = fresh_is rules state trigger rule is (x - bound rule.body) in
          let same : k ≡ trigger.fresh + (x - bound rule.body) = label_is (sym e ∙ ap (assigned trigger) split ∙ made) in
          omega arith) (cases_lt x (bound rule.body))
        where
          label_is : {m n : ℕ} → Label m ≡ Label n → m ≡ n
          label_is {m} {n} e = cc

      new_below : Contains (map (ground (assigned trigger)) rule.head) fact → k < trigger.fresh + (bound rule.head - bound rule.body)
      new_below new =
          let (atom, among, e) = contains_mapped (ground (assigned trigger)) rule.head fact new in
          let within : Contains (map (value_of Const (assigned trigger)) atom.terms) (Label k) = subst (λ (f : Ground). Contains f.vals (Label k)) (sym e) l in
          let (term, has, is_label) = contains_mapped (value_of Const (assigned trigger)) atom.terms (Label k) within in
          term_fresh term atom among has is_label

  -- the map that gives the new labels the values of the extension b
  extend_by : (instance : List Fact) (h b : ℕ → List ℕ) → Extends itself (FactsOf instance) rule (λ x. image h (assigned trigger x)) b → Carries h state.facts instance → (g : ℕ → List ℕ) × ((k : ℕ) → k < state.next → g k ≡ h k) × Carries g (fired state trigger rule).facts instance
  extend_by instance h b extends carries = (g, same, carried)
    where
      g : ℕ → List ℕ
      g = grown trigger.fresh (bound rule.body) h b

      same : (k : ℕ) → k < state.next → g k ≡ h k
      same k l = let up = is.fresh in grown_below trigger.fresh (bound rule.body) h b k (omega arith)

      above : (i : ℕ) → g (trigger.fresh + i) ≡ b (bound rule.body + i)
      above i = grown_above trigger.fresh (bound rule.body) h b i

      each : (x : ℕ) → image g (assigned trigger x) ≡ b x
      each x =
          ⊎_elim (λ l. same_image g h state.next same (assigned trigger x) (λ k e. value_below x k l e) ∙ sym (extends.agrees x (numbered.body x l)))
          (λ l. let split : x ≡ bound rule.body + (x - bound rule.body) = omega arith in
          ap (λ y. image g (assigned trigger y)) split ∙ ap (image g) (fresh_is rules state trigger rule is (x - bound rule.body)) ∙ above (x - bound rule.body) ∙ ap b (sym split))
          (cases_lt x (bound rule.body))

      carried : Carries g (fired state trigger rule).facts instance
      carried fact c =
          ⊎_elim (λ old. carries_same g h state.next same state.facts instance below carries fact old)
          (λ new. let (atom, among, e) = contains_mapped (ground (assigned trigger)) rule.head fact new in
          subst (λ (f : Ground). Contains instance (record { rel = f.rel; row = map (image g) f.vals })) e
          (subst (λ row. Contains instance (record { rel = atom.rel; row = row })) (sym (image_values g (assigned trigger) atom.terms))
          (subst (λ f. Contains instance (record { rel = atom.rel; row = map (value_of itself f) atom.terms })) (sym (fun_ext each)) (extends.head atom among))))
          (added_cases state.facts (map (ground (assigned trigger)) rule.head) fact c)

  -- one firing
  pub extend_firing : (instance : List Fact) (h : ℕ → List ℕ) → MeetsAll itself (FactsOf instance) rules → Carries h state.facts instance → (g : ℕ → List ℕ) × ((k : ℕ) → k < state.next → g k ≡ h k) × Carries g (fired state trigger rule).facts instance
  extend_firing instance h meets carries =
      let body : AreFacts itself (FactsOf instance) (λ x. image h (assigned trigger x)) rule.body =
      λ atom among. subst (λ row. Contains instance (record { rel = atom.rel; row = row })) (image_values h (assigned trigger) atom.terms) (carries (ground (assigned trigger) atom) (is.body atom among)) in
      let found = meets rule (contains_got rules trigger.rule rule is.numbered) (λ x. image h (assigned trigger x)) body in
      extend_by instance h found.0 found.1 carries

-- the same, with the premises in the order of the law
pub firing_extends : (rules : List Rule) (state : State) (trigger : Trigger) (rule : Rule) (instance : List Fact) (h : ℕ → List ℕ) → AreNumbered rules → MeetsAll itself (FactsOf instance) rules → LabelsBelow state.facts state.next → IsTrigger rules state trigger rule → Carries h state.facts instance → (g : ℕ → List ℕ) × ((k : ℕ) → k < state.next → g k ≡ h k) × Carries g (fired state trigger rule).facts instance
firing_extends rules state trigger rule instance h numbered meets below is carries =
    extend_firing rules state trigger rule is (numbered rule (contains_got rules trigger.rule rule is.numbered)) below instance h meets carries

-- a whole run
pub extend_run : (rules : List Rule) (log : List Trigger) (state end : State) (instance : List Fact) (h : ℕ → List ℕ) → AreNumbered rules → MeetsAll itself (FactsOf instance) rules → LabelsBelow state.facts state.next → IsFiringRun rules state log end → Carries h state.facts instance → (g : ℕ → List ℕ) × ((k : ℕ) → k < state.next → g k ≡ h k) × Carries g end.facts instance
extend_run rules [] state end instance h numbered meets below run carries = (h, (λ k l. refl), subst (λ (s : State). Carries h s.facts instance) (sym run) carries)
extend_run rules (trigger ∷ log) state end instance h numbered meets below (rule, is, more) carries =
    let its = numbered rule (contains_got rules trigger.rule rule is.numbered) in
    let once = extend_firing rules state trigger rule is its below instance h meets carries in
    let rest = extend_run rules log (fired state trigger rule) end instance once.0 numbered meets (fired_below rules state trigger rule is its below) more once.2 in
    (rest.0, (λ k l. let up = is.fresh in rest.1 k (omega arith) ∙ once.1 k l), rest.2)

pub run_below : (rules : List Rule) (log : List Trigger) (state end : State) → AreNumbered rules → LabelsBelow state.facts state.next → IsFiringRun rules state log end → LabelsBelow end.facts end.next × (state.next ≤ end.next)
run_below rules [] state end numbered below run = (subst (λ (s : State). LabelsBelow s.facts s.next) (sym run) below, let same : end.next ≡ state.next = ap (λ (s : State). s.next) run in omega arith)
run_below rules (trigger ∷ log) state end numbered below (rule, is, more) =
    let its = numbered rule (contains_got rules trigger.rule rule is.numbered) in
    let rest = run_below rules log (fired state trigger rule) end numbered (fired_below rules state trigger rule is its below) more in
    (rest.0, let up = is.fresh in let on = rest.1 in omega arith)

-- a base run is a run of firings
pub run_fires : (rules : List Rule) (log : List Trigger) (state end : State) → IsBaseRun rules state log end → IsFiringRun rules state log end
run_fires rules [] state end run = run
run_fires rules (trigger ∷ log) state end (rule, active, more) = (rule, active.active.trigger_is, run_fires rules log (fired state trigger rule) end more)

-- the same with a list of values, one per label below the next one
pub extend_list : (rules : List Rule) (log : List Trigger) (state end : State) (instance : List Fact) (values : List (List ℕ)) → AreNumbered rules → MeetsAll itself (FactsOf instance) rules → LabelsBelow state.facts state.next → IsFiringRun rules state log end → length values ≡ state.next → Carries (λ k. slice_index_or values k []) state.facts instance →
    (longer : List (List ℕ)) × (take (length values) longer ≡ values) × (length longer ≡ end.next) × Carries (λ k. slice_index_or longer k []) end.facts instance
extend_list rules log state end instance values numbered meets below run long carries =
    let (g, agree, whole) = extend_run rules log state end instance (λ k. slice_index_or values k []) numbered meets below run carries in
    let (after, more) = run_below rules log state end numbered below run in
    let longer : List (List ℕ) = map g (range_with_len 0 end.next) in
    let front : take (length values) longer ≡ map g (range_with_len 0 (length values)) = take-map-range_with_len g 0 end.next (length values) (omega arith) in
    let first : map g (range_with_len 0 (length values)) ≡ values =
    same_lists (map g (range_with_len 0 (length values))) values (length-map-range_with_len g 0 (length values))
    (λ k d l. let l' : k < length values = rw (← length-map-range_with_len g 0 (length values)) l in
    get_or-map-range_with_len g 0 (length values) k k d l' (omega arith) ∙ agree k (omega arith) ∙ get_or_default values k [] d l') in (
      longer,
      front ∙ first,
      length-map-range_with_len g 0 end.next,
      carries_same (λ k. slice_index_or longer k []) g end.next (λ k l. get_or-map-range_with_len g 0 end.next k k [] l (omega arith)) end.facts instance after whole,
    )

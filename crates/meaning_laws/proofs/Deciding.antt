-- Whether a rule's body match extends to its head can be decided, so a state without an active trigger meets the rules.
use Rattle.std.proofs.Common.{◌≡◌, ℕ, zero, suc, ◌+◌, ◌-◌, ◌<◌, ◌≤◌, List, [], ◌∷◌, ◌++◌, length, Some, refl, sym, ap, ◌∙◌, subst, ⊎_elim, arith}
use mathlib.Core.List.{List-discrete}
use Rattle.std.proofs.Math.Decide.{ℕ_discrete}
use Rattle.std.specs.List.{range_with_len}
use Rattle.std.specs.Prelude.{Contains, slice_index_or, map}
use Rattle.std.proofs.lemmas.Bool.{cases_lt}
use Rattle.std.proofs.lemmas.Option.{slice_get-get_or}
use Rattle.std.proofs.lemmas.List.Elements.{Contains-append_left, Contains-append_right}
use Rattle.std.proofs.lemmas.List.FromFn.{length-map-range_with_len, get_or-map-range_with_len}
use Rattle.lists.proofs.Members.{contains_here, contains_there, contains_cases, contains_map}
use Rattle.meaning_laws.proofs.Joined.{joined_below, joined_above}
use Rattle.meaning_laws.proofs.Carrying.{occurs_below}
use Rattle.meaning.specs.declared.types.Term.{Term}
use Rattle.meaning.specs.declared.types.Term.TheVariants.{Var, Const as Said}
use Rattle.meaning.specs.declared.types.Val.{Val}
use Rattle.meaning.specs.declared.types.Val.TheVariants.{Const, Label}
use Rattle.meaning.specs.declared.types.Atom.{Atom}
use Rattle.meaning.specs.declared.types.Rule.{Rule}
use Rattle.meaning.specs.declared.types.Ground.{Ground}
use Rattle.meaning.specs.declared.types.Trigger.{Trigger}
use Rattle.meaning.specs.Matching.{value_of, AreFacts, OccursIn, Extends, MeetsAll, GroundsOf}
use Rattle.meaning.specs.Triggers.{joined, bound, IsNumbered, AreNumbered, State, assigned, ground, IsTrigger, IsActive}

-- equality of labelled facts is decidable
pub Val-discrete : (v w : Val) → Dec (v ≡ w)
Val-discrete (Const c) (Const d) = elim (List-discrete ℕ_discrete c d) [ yes e ↦ yes (ap Const e) | no n ↦ no (λ e. n (const_is e)) ]
  where
    const_is : Const c ≡ Const d → c ≡ d
    const_is e = cc
Val-discrete (Const c) (Label k) = no (λ e. differ e)
  where
    differ : Const c ≡ Label k → ⊥
    differ e = cc
Val-discrete (Label j) (Const d) = no (λ e. differ e)
  where
    differ : Label j ≡ Const d → ⊥
    differ e = cc
Val-discrete (Label j) (Label k) = elim (ℕ_discrete j k) [ yes e ↦ yes (ap Label e) | no n ↦ no (λ e. n (label_is e)) ]
  where
    label_is : Label j ≡ Label k → j ≡ k
    label_is e = cc

Ground-discrete : (f g : Ground) → Dec (f ≡ g)
Ground-discrete f g =
    elim (ℕ_discrete f.rel g.rel) [
      | no n ↦ no (λ e. n (ap (λ (x : Ground). x.rel) e))
      | yes r ↦ elim (List-discrete Val-discrete f.vals g.vals) [ no n ↦ no (λ e. n (ap (λ (x : Ground). x.vals) e)) | yes v ↦ yes (λ i. record { rel = r i; vals = v i }) ]
    ]

-- some element, each element, and membership
pub dec_some : {X : Type 0} (P : X → Type 0) → ((x : X) → Dec (P x)) → (xs : List X) → Dec ((x : X) × Contains xs x × P x)
dec_some P d [] = no (λ (x, c, p). none c)
  where
    none : {X : Type 0} {x : X} → Contains [] x → ⊥
    none c = omega arith
dec_some P d (y ∷ xs) =
    elim (d y) [
      | yes p ↦ yes (y, contains_here y xs, p)
      | no n ↦ elim (dec_some P d xs) [
        | yes (x, c, p) ↦ yes (x, contains_there y xs x c, p)
        | no m ↦ no (λ (x, c, p). ⊎_elim (λ e. n (subst P (sym e) p)) (λ h. m (x, h, p)) (contains_cases y xs x c))
      ]
    ]

dec_each : {X : Type 0} (P : X → Type 0) → ((x : X) → Dec (P x)) → (xs : List X) → Dec ((x : X) → Contains xs x → P x)
dec_each P d [] = yes (λ x c. absurd (none c))
  where
    none : {X : Type 0} {x : X} → Contains [] x → ⊥
    none c = omega arith
dec_each P d (y ∷ xs) =
    elim (d y) [
      | no n ↦ no (λ each. n (each y (contains_here y xs)))
      | yes p ↦ elim (dec_each P d xs) [
        | no n ↦ no (λ each. n (λ x c. each x (contains_there y xs x c)))
        | yes rest ↦ yes (λ x c. ⊎_elim (λ e. subst P e p) (λ h. rest x h) (contains_cases y xs x c))
      ]
    ]

pub dec_contains : (facts : List Ground) (fact : Ground) → Dec (Contains facts fact)
dec_contains facts fact =
    elim (dec_some (λ g. g ≡ fact) (λ g. Ground-discrete g fact) facts) [ yes (g, c, e) ↦ yes (subst (λ f. Contains facts f) e c) | no n ↦ no (λ c. n (fact, c, refl)) ]

pub dec_facts : (facts : List Ground) (a : ℕ → Val) (atoms : List Atom) → Dec (AreFacts Const (GroundsOf facts) a atoms)
dec_facts facts a atoms = dec_each (λ atom. Contains facts (ground a atom)) (λ atom. dec_contains facts (ground a atom)) atoms

-- assignments that agree on the variables give the same values
pub same_values : {V : Type 0} (known : List ℕ → V) (a b : ℕ → V) (terms : List Term) → ((x : ℕ) → Contains terms (Var x) → a x ≡ b x) → map (value_of known a) terms ≡ map (value_of known b) terms
same_values known a b [] same = refl
same_values known a b (Var x ∷ terms) same =
    let here : a x ≡ b x = same x (contains_here (Var x) terms) in
    let rest : map (value_of known a) terms ≡ map (value_of known b) terms = same_values known a b terms (λ y c. same y (contains_there (Var x) terms (Var y) c)) in
    cc
same_values known a b (Said t ∷ terms) same = ap (λ l. known t ∷ l) (same_values known a b terms (λ y c. same y (contains_there (Said t) terms (Var y) c)))

pub same_facts : (facts : List Ground) (a b : ℕ → Val) (atoms : List Atom) → ((x : ℕ) → OccursIn atoms x → a x ≡ b x) → AreFacts Const (GroundsOf facts) a atoms → AreFacts Const (GroundsOf facts) b atoms
same_facts facts a b atoms same are atom among =
    subst (λ vals. Contains facts (record { rel = atom.rel; vals = vals })) (same_values Const a b atom.terms (λ x c. same x (atom, among, c))) (are atom among)

-- the values of the facts
pub pool : List Ground → List Val
pool [] = []
pool (fact ∷ facts) = fact.vals ++ pool facts

pub in_pool : (facts : List Ground) (fact : Ground) (v : Val) → Contains facts fact → Contains fact.vals v → Contains (pool facts) v
unfolding pool
in_pool [] fact v c d = absurd (omega arith)
in_pool (first ∷ facts) fact v c d =
    ⊎_elim (λ e. Contains-append_left first.vals (pool facts) v (subst (λ (f : Ground). Contains f.vals v) (sym e) d)) (λ h. Contains-append_right first.vals (pool facts) v (in_pool facts fact v h d)) (contains_cases first facts fact c)

module _ (facts : List Ground) (rule : Rule) (numbered : IsNumbered rule) where
  -- an assignment that agrees with a below m and makes the head facts
  Found : ℕ → (ℕ → Val) → Type 0
  Found m a = (b : ℕ → Val) × ((x : ℕ) → x < m → b x ≡ a x) × AreFacts Const (GroundsOf facts) b rule.head

  dec_found : (n m : ℕ) (a : ℕ → Val) → bound rule.head ≤ n + m → (0 < n → n + m ≤ bound rule.head) → bound rule.body ≤ m → Dec (Found m a)
  unfolding Found
  dec_found zero m a top low l =
      elim (dec_facts facts a rule.head) [
        | yes are ↦ yes (a, (λ x h. refl), are)
        | no n ↦ no (λ (b, same, are). n (same_facts facts b a rule.head (λ x occurs. same x (let less : x < bound rule.head = occurs_below rule.head x occurs in omega arith)) are))
      ]
  dec_found (suc n) m a top low l =
      elim (dec_some (λ v. Found (m + 1) (joined m a (λ i. v))) (λ v. dec_found n (m + 1) (joined m a (λ i. v)) (omega arith) (λ more. fits more) (omega arith)) (pool facts)) [
        | yes (v, among, (b, same, are)) ↦ yes (b, (λ x h. same x (omega arith) ∙ joined_below m a (λ i. v) x h), are)
        | no none ↦ no (λ (b, same, are).
            let (atom, among, occurs) = numbered.head m within l in
            none (b m, in_pool facts (ground b atom) (b m) (are atom among) (contains_map (value_of Const b) atom.terms (Var m) occurs), (b, (λ x h. at b same x h), are)))
      ]
    where
      within : m < bound rule.head
      within = let fit : suc n + m ≤ bound rule.head = low (omega arith) in omega arith

      fits : 0 < n → n + (m + 1) ≤ bound rule.head
      fits more = let fit : suc n + m ≤ bound rule.head = low (omega arith) in omega arith

      at : (b : ℕ → Val) → ((x : ℕ) → x < m → b x ≡ a x) → (x : ℕ) → x < m + 1 → b x ≡ joined m a (λ i. b m) x
      at b same x h =
          ⊎_elim (λ less. same x less ∙ sym (joined_below m a (λ i. b m) x less))
          (λ more. let e : x ≡ m + 0 = omega arith in ap b e ∙ ap b (zero_more m) ∙ sym (joined_above m a (λ i. b m) 0) ∙ ap (joined m a (λ i. b m)) (sym e)) (cases_lt x m)
        where
          zero_more : (m : ℕ) → m + 0 ≡ m
          zero_more m = omega arith

  -- the extension can be found, or there is none
  pub dec_extends : (a : ℕ → Val) → Dec ((b : ℕ → Val) × Extends Const (GroundsOf facts) rule a b)
  unfolding Found
  dec_extends a =
      elim (dec_found (bound rule.head - bound rule.body) (bound rule.body) a (omega arith) (λ more. omega arith) (omega arith)) [
        | yes (b, same, are) ↦ yes (b, record { agrees = λ x occurs. same x (occurs_below rule.body x occurs); head = are })
        | no n ↦ no (λ (b, ext). n (b, (λ x l. ext.agrees x (numbered.body x l)), ext.head))
      ]

-- the trigger of a rule by an assignment
trigger_of : ℕ → ℕ → ℕ → (ℕ → Val) → Trigger
trigger_of rule width next a = record { rule = rule; values = map a (range_with_len 0 width); fresh = next }

trigger_values : (rule width next : ℕ) (a : ℕ → Val) (x : ℕ) → x < width → assigned (trigger_of rule width next a) x ≡ a x
unfolding trigger_of
trigger_values rule width next a x l =
    let values = map a (range_with_len 0 width) in
    joined_below (length values) (λ y. slice_index_or values y (Label 0)) (λ i. Label (next + i)) x (rw (length-map-range_with_len a 0 width) l)
    ∙ get_or-map-range_with_len a 0 width x x (Label 0) l (omega arith)

-- a state in which no trigger is active meets the rules, with labels as values
pub quiet_meets : (rules : List Rule) (state : State) → AreNumbered rules → ((trigger : Trigger) (rule : Rule) → IsActive rules state trigger rule → ⊥) → MeetsAll Const (GroundsOf state.facts) rules
unfolding trigger_of
quiet_meets rules state numbered quiet rule among a body =
    elim (dec_extends state.facts rule (numbered rule among) a) [ yes found ↦ found | no none ↦ absurd (quiet trigger rule (record { trigger_is = is; next = refl; unmet = λ b ext. none (b, record { agrees = λ x occurs. ext.agrees x occurs ∙ values x (occurs_below rule.body x occurs); head = ext.head }) })) ]
  where
    trigger : Trigger
    trigger = trigger_of among.0 (bound rule.body) state.next a

    values : (x : ℕ) → x < bound rule.body → assigned trigger x ≡ a x
    values x l = trigger_values among.0 (bound rule.body) state.next a x l

    is : IsTrigger rules state trigger rule
    is = record {
      numbered = slice_get-get_or rules among.0 rule among.1 ∙ ap Some among.2;
      width = length-map-range_with_len a 0 (bound rule.body);
      fresh = omega arith;
      body = same_facts state.facts a (assigned trigger) rule.body (λ x occurs. sym (values x (occurs_below rule.body x occurs))) body;
    }

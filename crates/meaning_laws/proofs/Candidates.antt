-- A state has finitely many matches of rule bodies: each is by a list of values of its facts.
use Rattle.std.proofs.Common.{◌≡◌, ℕ, zero, suc, ◌+◌, ◌<◌, List, [], ◌∷◌, ◌++◌, length, Some, sym, ap, ◌∙◌, subst, ⊎_elim, arith}
use Rattle.std.specs.List.{range_with_len}
use Rattle.std.specs.Prelude.{Contains, slice_get, slice_index_or, map}
use Rattle.std.proofs.lemmas.List.Elements.{Contains-append_left, Contains-append_right}
use Rattle.std.proofs.lemmas.List.FromFn.{length-map-range_with_len, get_or-map-range_with_len}
use Rattle.lists.proofs.Members.{contains_here, contains_there, contains_cases, contains_map, some_injective}
use Rattle.meaning_laws.proofs.Joined.{joined_below}
use Rattle.meaning_laws.proofs.Deciding.{pool, in_pool}
use Rattle.meaning.specs.declared.types.Term.TheVariants.{Var}
use Rattle.meaning.specs.declared.types.Val.{Val}
use Rattle.meaning.specs.declared.types.Val.TheVariants.{Const, Label}
use Rattle.meaning.specs.declared.types.Rule.{Rule}
use Rattle.meaning.specs.declared.types.Ground.{Ground}
use Rattle.meaning.specs.declared.types.Trigger.{Trigger}
use Rattle.meaning.specs.Matching.{value_of, AreFacts, GroundsOf}
use Rattle.meaning.specs.Triggers.{bound, IsNumbered, assigned, ground}

-- each of the values before each of the lists
before_each : List Val → List (List Val) → List (List Val)
before_each [] lists = []
before_each (v ∷ vals) lists = map (λ list. v ∷ list) lists ++ before_each vals lists

in_before_each : (vals : List Val) (lists : List (List Val)) (v : Val) (list : List Val) → Contains vals v → Contains lists list → Contains (before_each vals lists) (v ∷ list)
unfolding before_each
in_before_each [] lists v list c d = absurd (omega arith)
in_before_each (first ∷ vals) lists v list c d =
    ⊎_elim (λ e. Contains-append_left (map (λ l. first ∷ l) lists) (before_each vals lists) (v ∷ list) (subst (λ w. Contains (map (λ l. first ∷ l) lists) (w ∷ list)) e (contains_map (λ l. first ∷ l) lists list d)))
    (λ h. Contains-append_right (map (λ l. first ∷ l) lists) (before_each vals lists) (v ∷ list) (in_before_each vals lists v list h d)) (contains_cases first vals v c)

-- each list of so many of the values
lists_of : ℕ → List Val → List (List Val)
lists_of zero vals = [] ∷ []
lists_of (suc n) vals = before_each vals (lists_of n vals)

in_lists_of : (vals list : List Val) → ((v : Val) → Contains list v → Contains vals v) → Contains (lists_of (length list) vals) list
unfolding lists_of
in_lists_of vals [] within = contains_here [] []
in_lists_of vals (v ∷ list) within = in_before_each vals (lists_of (length list) vals) v list (within v (contains_here v list)) (in_lists_of vals list (λ w c. within w (contains_there v list w c)))

-- a rule's number with values, and no label yet
abbrev unlabelled : ℕ → List Val → Trigger
unlabelled number values = record { rule = number; values = values; fresh = 0 }

-- the rules, numbered from here on, each with every list of the values for its body's variables
triggers_of : List Val → ℕ → List Rule → List Trigger
triggers_of vals number [] = []
triggers_of vals number (rule ∷ rules) = map (unlabelled number) (lists_of (bound rule.body) vals) ++ triggers_of vals (number + 1) rules

in_triggers_of : (vals : List Val) (number : ℕ) (rules : List Rule) (i : ℕ) (rule : Rule) (values : List Val) → slice_get rules i ≡ Some rule → length values ≡ bound rule.body → ((v : Val) → Contains values v → Contains vals v) → Contains (triggers_of vals number rules) (unlabelled (number + i) values)
unfolding triggers_of
in_triggers_of vals number [] i rule values got long within = absurd (cc)
in_triggers_of vals number (first ∷ rules) zero rule values got long within =
    let same : first ≡ rule = some_injective first rule got in
    let among : Contains (lists_of (bound first.body) vals) values = subst (λ n. Contains (lists_of n vals) values) (long ∙ ap (λ (r : Rule). bound r.body) (sym same)) (in_lists_of vals values within) in
    let here : number ≡ number + zero = omega arith in
    Contains-append_left (map (unlabelled number) (lists_of (bound first.body) vals)) (triggers_of vals (number + 1) rules) (unlabelled (number + zero) values)
    (subst (λ n. Contains (map (unlabelled number) (lists_of (bound first.body) vals)) (unlabelled n values)) here (contains_map (unlabelled number) (lists_of (bound first.body) vals) values among))
in_triggers_of vals number (first ∷ rules) (suc i) rule values got long within =
    let here : (number + 1) + i ≡ number + suc i = omega arith in
    Contains-append_right (map (unlabelled number) (lists_of (bound first.body) vals)) (triggers_of vals (number + 1) rules) (unlabelled (number + suc i) values)
    (subst (λ n. Contains (triggers_of vals (number + 1) rules) (unlabelled n values)) here (in_triggers_of vals (number + 1) rules i rule values got long within))

-- the rules, each with every list of the facts' values for its body's variables
pub candidates : List Rule → List Ground → List Trigger
candidates rules facts = triggers_of (pool facts) 0 rules

among_values : (a : ℕ → Val) (n : ℕ) (v : Val) → Contains (map a (range_with_len 0 n)) v → (x : ℕ) × (x < n) × (a x ≡ v)
among_values a n v (k, l, e) =
    let less : k < n = subst (λ m. k < m) (length-map-range_with_len a 0 n) l in
    (k, less, sym (get_or-map-range_with_len a 0 n k k v less (omega arith)) ∙ e)

-- each assignment that makes a body facts is that of a candidate
pub candidate_of : (rules : List Rule) (facts : List Ground) (number : ℕ) (rule : Rule) (a : ℕ → Val) → IsNumbered rule → slice_get rules number ≡ Some rule → AreFacts Const (GroundsOf facts) a rule.body →
    (c : Trigger) × Contains (candidates rules facts) c × (c.rule ≡ number) × (length c.values ≡ bound rule.body) × ((x : ℕ) → x < bound rule.body → assigned c x ≡ a x)
unfolding candidates
candidate_of rules facts number rule a numbered got body = (
  unlabelled (0 + number) values,
  in_triggers_of (pool facts) 0 rules number rule values got long within,
  omega arith,
  long,
  (λ x l. joined_below (length values) (λ y. slice_index_or values y (Label 0)) (λ i. Label (0 + i)) x (subst (λ m. x < m) (sym long) l)
      ∙ get_or-map-range_with_len a 0 (bound rule.body) x x (Label 0) l (omega arith)),
)
  where
    values : List Val
    values = map a (range_with_len 0 (bound rule.body))

    long : length values ≡ bound rule.body
    long = length-map-range_with_len a 0 (bound rule.body)

    within : (v : Val) → Contains values v → Contains (pool facts) v
    within v c =
        let (x, l, e) = among_values a (bound rule.body) v c in
        let (atom, among, occurs) = numbered.body x l in
        subst (λ w. Contains (pool facts) w) e (in_pool facts (ground a atom) (a x) (body atom among) (contains_map (value_of Const a) atom.terms (Var x) occurs))

-- Runs of the statement of a world are short: a relation is exposed after the one before it, and a firing goes on from the last fact.
use Rattle.std.proofs.Common.{◌≡◌, ◌⊎◌, ◌+◌, ◌-◌, ◌<◌, ◌≤◌, ℕ, zero, suc, List, [], ◌∷◌, ◌++◌, length, slice_get, Option, Some, refl, sym, ap, subst, ◌∙◌, inl, inr, ⊎_elim, arith, nat_lt, cond}
use Rattle.std.specs.Prelude.{Contains, map, slice_index_or}
use Rattle.std.specs.List.{AllZip, range_with_len}
use Rattle.std.proofs.lemmas.Bool.{cases_lt}
use Rattle.std.proofs.lemmas.List.Elements.{Contains-append_left, Contains-append_right, Contains-append_cases}
use Rattle.lists.proofs.Members.{contains_got, contains_here, contains_cases, contains_map, contains_mapped, map_got, some_injective, contains_one, all_member}
use Rattle.lists.proofs.Places.{got_member}
use Rattle.meaning.specs.declared.types.Term.{Term}
use Rattle.meaning.specs.declared.types.Term.TheVariants.{Var, Const as Said}
use Rattle.meaning.specs.declared.types.Atom.{Atom}
use Rattle.meaning.specs.declared.types.Rule.{Rule}
use Rattle.meaning.specs.declared.types.Method.{Method}
use Rattle.meaning.specs.declared.types.Query.{Query}
use Rattle.meaning.specs.declared.types.Val.{Val}
use Rattle.meaning.specs.declared.types.Val.TheVariants.{Const, Label}
use Rattle.meaning.specs.declared.types.Ground.{Ground}
use Rattle.meaning.specs.declared.types.Trigger.{Trigger}
use Rattle.meaning.specs.declared.types.Firing.{Firing}
use Rattle.meaning.specs.declared.types.Firing.TheVariants.{Base, Copy, Expose}
use Rattle.meaning.specs.declared.types.Condition.{Condition}
use Rattle.meaning.specs.declared.types.Operand.{Operand}
use Rattle.meaning.specs.declared.types.Operand.TheVariants.{Column, Literal}
use Rattle.meaning.specs.Matching.{value_of, AreFacts, OccursIn, Extends, GroundsOf}
use Rattle.meaning.specs.Conjunctive.{or_empty, term_in, term_of, IsAtomFor, IsConjunctive, AreJoined, given, alike, turned, chained, OperandFits}
use Rattle.meaning.specs.Added.{with_facts}
use Rattle.meaning.specs.Triggers.{assigned, ground, IsActive, IsQuiet, fired}
use Rattle.meaning.specs.Runs.{Proof, copy_state, IsKnownValue, IsActiveExposure, IsRun, opening}
use Rattle.meaning_laws.proofs.Added.{added_left, added_right, added_cases, opened_from}
use Rattle.world_laws.specs.World.{joined, relation_with, rule_from, world_relations, world_rules, world_select}
use Rattle.world_laws.specs.Plan.{world}
use Rattle.world_laws.proofs.Paths.{two_columns, inputs_at, own}

-- how many exposures a log has, as `exposures_in` of `exposure_search` says, which stands higher
abbrev pub exposures_in : List Firing → ℕ
exposures_in [] = 0
exposures_in (Base trigger ∷ log) = exposures_in log
exposures_in (Copy trigger ∷ log) = exposures_in log
exposures_in (Expose number fact ∷ log) = exposures_in log + 1

-- a fact of the relation with this number
abbrev link : ℕ → Val → Val → Ground
link rel from to = record { rel = rel; vals = from ∷ to ∷ [] }

abbrev end_of : Ground → Val
end_of fact = slice_index_or fact.vals 1 (Label 0)

-- some fact of the next relation goes on from where the fact ends
abbrev IsMet : List Ground → Ground → Type 0
IsMet facts fact = (to : Val) × Contains facts (link (fact.rel + 1) (end_of fact) to)

-- ---- an active trigger

record Active (facts : List Ground) (trigger : Trigger) (rule : Rule) : Type 0 where
  k : ℕ
  some : 1 ≤ k
  few : k ≤ 7
  rule_is : rule_from k ≡ rule
  there : Contains facts (link (k - 1) (assigned trigger 0) (assigned trigger 1))
  open_end : IsMet facts (link (k - 1) (assigned trigger 0) (assigned trigger 1)) → ⊥

pub range_bounds : (a count k : ℕ) → Contains (range_with_len a count) k → (a ≤ k) × (k < a + count)
range_bounds a zero k there = absurd (omega arith)
range_bounds a (suc count) k there = ⊎_elim
    (λ (same : a ≡ k). (omega (arith, same), omega (arith, same)))
    (λ later. let g = range_bounds (a + 1) count k later in (omega (arith, g.0), omega (arith, g.1)))
    (contains_cases a (range_with_len (a + 1) count) k there)

abbrev pub body_of : ℕ → Atom
body_of k = record { rel = k - 1; terms = Var 0 ∷ Var 1 ∷ [] }

abbrev pub head_of : ℕ → Atom
head_of k = record { rel = k; terms = Var 1 ∷ Var 2 ∷ [] }

-- the assignment of the trigger, with another value for the new variable
abbrev after : Trigger → Val → ℕ → Val
after trigger to x = cond (nat_lt x 2) (assigned trigger x) to

agrees_at : (trigger : Trigger) (to : Val) (x : ℕ) → Contains (Var 0 ∷ Var 1 ∷ []) (Var x) → after trigger to x ≡ assigned trigger x
agrees_at trigger to x there = all_member Agrees (Var 0 ∷ Var 1 ∷ []) (Var x) (refl, (refl, tt)) there
  where
    Agrees : Term → Type 0
    Agrees (Var y) = after trigger to y ≡ assigned trigger y
    Agrees (Said c) = Unit {0}

module _ (facts : List Ground) (next : ℕ) (trigger : Trigger) where
  unmet : (k : ℕ) → 1 ≤ k → ((b : ℕ → Val) → Extends Const (GroundsOf facts) (rule_from k) (assigned trigger) b → ⊥) → IsMet facts (link (k - 1) (assigned trigger 0) (assigned trigger 1)) → ⊥
  unmet k some none (to, goes_on) = none (after trigger to) (record { agrees = agrees; head = head })
    where
      agrees : (x : ℕ) → OccursIn (rule_from k).body x → after trigger to x ≡ assigned trigger x
      agrees x (atom, there, occurs) = agrees_at trigger to x (subst (λ (a : Atom). Contains a.terms (Var x)) (sym (contains_one (body_of k) atom there)) occurs)

      head : AreFacts Const (GroundsOf facts) (after trigger to) (rule_from k).head
      head atom there =
          let place : k - 1 + 1 ≡ k = omega (arith, some) in
          subst (λ (a : Atom). GroundsOf facts a.rel (map (value_of Const (after trigger to)) a.terms)) (contains_one (head_of k) atom there)
          (subst (λ rel. Contains facts (link rel (assigned trigger 1) to)) place goes_on)

  active_so : (rule : Rule) → IsActive world.rules (record { facts = facts; next = next }) trigger rule → Active facts trigger rule
  active_so rule active =
      let (k, ranged, is) = contains_mapped rule_from (range_with_len 1 7) rule (contains_got world_rules trigger.rule rule active.trigger_is.numbered) in
      let bounds = range_bounds 1 7 k ranged in
      let body = subst (λ (r : Rule). AreFacts Const (GroundsOf facts) (assigned trigger) r.body) (sym is) active.trigger_is.body in
      let none = subst (λ (r : Rule). (b : ℕ → Val) → Extends Const (GroundsOf facts) r (assigned trigger) b → ⊥) (sym is) active.unmet in
      let few = bounds.1 in
      record { k = k; some = bounds.0; few = omega (arith, few); rule_is = is; there = body (body_of k) (contains_here (body_of k) []); open_end = unmet k bounds.0 none }

-- ---- copy firings

-- the facts are of the relations below a number; each but those of the last one is met, and those of the last one end alike
record IsGrown (facts : List Ground) (top : ℕ) : Type 0 where
  low : (fact : Ground) → Contains facts fact → fact.rel < top
  met : (fact : Ground) → Contains facts fact → fact.rel + 1 < top → IsMet facts fact
  alike : (one other : Ground) → Contains facts one → Contains facts other → one.rel + 1 ≡ top → other.rel + 1 ≡ top → end_of one ≡ end_of other

module _ (facts : List Ground) (trigger : Trigger) (k : ℕ) (some : 1 ≤ k) (top : ℕ) (grown : IsGrown facts top)
    (there : Contains facts (link (k - 1) (assigned trigger 0) (assigned trigger 1)))
    (open_end : IsMet facts (link (k - 1) (assigned trigger 0) (assigned trigger 1)) → ⊥) where
  from : Ground
  from = link (k - 1) (assigned trigger 0) (assigned trigger 1)

  new : Ground
  new = link k (assigned trigger 1) (assigned trigger 2)

  -- the trigger goes on from a fact of the last relation
  last_one : k ≡ top
  unfolding from
  last_one =
      let below : k - 1 < top = grown.low from there in
      let most : top ≤ k = ⊎_elim (λ (more : k < top). absurd (open_end (grown.met from there (omega (arith, more, some))))) (λ h. h) (cases_lt k top) in
      omega (arith, below, most, some)

  more : List Ground
  more = with_facts facts (new ∷ [])

  new_there : Contains more new
  unfolding more
  new_there = added_right facts (new ∷ []) new (contains_here new [])

  old_or_new : (fact : Ground) → Contains more fact → Contains facts fact ⊎ (new ≡ fact)
  unfolding more
  old_or_new fact among = ⊎_elim (λ old. inl old) (λ (here : Contains (new ∷ []) fact). inr (contains_one new fact here)) (added_cases facts (new ∷ []) fact among)

  -- each fact of the last relation is met by the new one
  met_now : (fact : Ground) → Contains facts fact → fact.rel + 1 ≡ top → IsMet more fact
  unfolding from new
  met_now fact old last =
      let ends : end_of fact ≡ assigned trigger 1 = grown.alike fact from old there last (let is = last_one in omega (arith, is, some)) in
      let place : k ≡ fact.rel + 1 = last_one ∙ sym last in (
        assigned trigger 2,
        subst (λ rel. Contains more (link rel (end_of fact) (assigned trigger 2))) place
            (subst (λ (v : Val). Contains more (link k v (assigned trigger 2))) (sym ends) new_there),
      )

  new_last : (fact : Ground) → Contains more fact → fact.rel + 1 ≡ top + 1 → new ≡ fact
  new_last fact among last = ⊎_elim (λ old. absurd (let below = grown.low fact old in omega (arith, below, last))) (λ h. h) (old_or_new fact among)

  new_rel : (fact : Ground) → new ≡ fact → fact.rel ≡ top
  unfolding new
  new_rel fact is = sym (ap (λ (f : Ground). f.rel) is) ∙ last_one

  kept : (fact : Ground) → Contains facts fact → Contains more fact
  unfolding more
  kept fact old = added_left facts (new ∷ []) fact old

  grown_more : IsGrown more (top + 1)
  grown_more = record {
    low = λ fact among. ⊎_elim (λ old. let below = grown.low fact old in omega (arith, below)) (λ is. let rel = new_rel fact is in omega (arith, rel)) (old_or_new fact among);
    met = λ fact among less. ⊎_elim
        (λ old. ⊎_elim (λ (before : fact.rel + 1 < top). let (to, goes_on) = grown.met fact old before in (to, kept (link (fact.rel + 1) (end_of fact) to) goes_on))
        (λ last. met_now fact old (omega (arith, last, less))) (cases_lt (fact.rel + 1) top))
        (λ is. absurd (let rel = new_rel fact is in omega (arith, rel, less))) (old_or_new fact among);
    alike = λ one other among also last its. ap end_of (sym (new_last one among last) ∙ new_last other also its);
  }

-- a copy firing adds a fact of the next relation
after_copy : (proof : Proof) (trigger : Trigger) (rule : Rule) (next : Proof) (top : ℕ) → IsGrown proof.copy top → IsActive world.rules (copy_state proof) trigger rule →
    next ≡ record proof { copy = (fired (copy_state proof) trigger rule).facts; next = (fired (copy_state proof) trigger rule).next } → (top ≤ 7) × IsGrown next.copy (top + 1)
unfolding new more
after_copy proof trigger rule next top grown active is =
    let made = active_so proof.copy proof.next trigger rule active in
    let few = made.few in
    let last = last_one proof.copy trigger made.k made.some top grown made.there made.open_end in (
      omega (arith, few, last),
      subst (λ (p : Proof). IsGrown p.copy (top + 1)) (sym is)
          (subst (λ (r : Rule). IsGrown (fired (copy_state proof) trigger r).facts (top + 1)) made.rule_is
          (grown_more proof.copy trigger made.k made.some top grown made.there made.open_end)),
    )

copies_short : (proof : Proof) (log : List Firing) (end : Proof) (top : ℕ) → IsRun world [] 2 proof log end → IsGrown proof.copy top → top ≤ 8 → length log + top ≤ 8
copies_short proof [] end top run grown most = omega (arith, most)
copies_short proof (Base trigger ∷ log) end top (order, run) grown most = absurd (omega (arith, order))
copies_short proof (Expose number fact ∷ log) end top (order, run) grown most = absurd (omega (arith, order))
copies_short proof (Copy trigger ∷ log) end top (order, (next, (rule, first, still, is), run)) grown most =
    let (few, more) = after_copy proof trigger rule next top grown first.active is in
    let short = copies_short next log end (top + 1) run more (omega (arith, few)) in
    omega (arith, short)

-- ---- exposures

-- the base facts are one of each relation, each leads from one value to the next, and no two of the values are the same
record IsLine (base : List Ground) (at : ℕ → Val) : Type 0 where
  ours : (fact : Ground) → Contains base fact → (k : ℕ) × (k ≤ 7) × (link k (at k) (at (k + 1)) ≡ fact)
  apart : (j k : ℕ) → j ≤ 8 → k ≤ 8 → at j ≡ at k → j ≡ k

module _ (base : List Ground) (at : ℕ → Val) (line : IsLine base at) (quiet : (next : ℕ) → IsQuiet world.rules (record { facts = base; next = next })) where
  -- the base facts of the relations below a number are exposed, and nothing else is in the copy
  record IsExposed (proof : Proof) (top : ℕ) : Type 0 where
    base_is : proof.base ≡ base
    copy_is : proof.copy ≡ proof.exposed
    ours : (fact : Ground) → Contains proof.exposed fact → (k : ℕ) × (k < top) × (link k (at k) (at (k + 1)) ≡ fact)
    all : (k : ℕ) → k < top → Contains proof.exposed (link k (at k) (at (k + 1)))
    most : top ≤ 8

  grown_there : (proof : Proof) (top : ℕ) → IsExposed proof top → IsGrown proof.copy top
  grown_there proof top exposed = subst (λ (facts : List Ground). IsGrown facts top) (sym exposed.copy_is) (record {
    low = λ fact there. let (k, low, is) = exposed.ours fact there in subst (λ (f : Ground). f.rel < top) is low;
    met = λ fact there less. let (k, low, is) = exposed.ours fact there in
        let number : k ≡ fact.rel = ap (λ (f : Ground). f.rel) is in
        subst (IsMet proof.exposed) is (at (k + 1 + 1), exposed.all (k + 1) (omega (arith, number, less)));
    alike = λ one other there also last its.
        let (j, below, is) = exposed.ours one there in
        let (k, low, same) = exposed.ours other also in
        let number : j ≡ one.rel = ap (λ (f : Ground). f.rel) is in
        let its_number : k ≡ other.rel = ap (λ (f : Ground). f.rel) same in
        let e : j ≡ k = omega (arith, number, its_number, last, its) in
        ap end_of (sym is ∙ ap (λ n. link n (at n) (at (n + 1))) e ∙ same);
  })

  -- a value that begins a fact of the line is known where the fact before it is exposed
  known_low : (exposed : List Ground) (top k : ℕ) → ((fact : Ground) → Contains exposed fact → (j : ℕ) × (j < top) × (link j (at j) (at (j + 1)) ≡ fact)) → top ≤ 8 → k ≤ 7 → IsKnownValue [] exposed (at k) → k ≤ top
  known_low exposed top k ours most few known = ⊎_elim
      (λ (c, none, is). absurd (omega (arith, none)))
      (λ (fact, there, among). let (j, low, is) = ours fact there in
      let held : Contains (at j ∷ at (j + 1) ∷ []) (at k) = subst (λ (f : Ground). Contains f.vals (at k)) (sym is) among in
      ⊎_elim
      (λ same. let e = line.apart j k (omega (arith, low, most)) (omega (arith, few)) same in omega (arith, e, low))
      (λ later. let e = line.apart (j + 1) k (omega (arith, low, most)) (omega (arith, few)) (contains_one (at (j + 1)) (at k) later) in omega (arith, e, low))
      (contains_cases (at j) (at (j + 1) ∷ []) (at k) held))
      known

  -- an exposure is that of the next relation
  next_one : (proof : Proof) (number : ℕ) (fact : Ground) (method : Method) (top : ℕ) → IsExposed proof top → IsActiveExposure world [] proof number fact method → (top ≤ 7) × (link top (at top) (at (top + 1)) ≡ fact)
  next_one proof number fact method top exposed active =
      let (k, few, is) = line.ours fact (subst (λ (facts : List Ground). Contains facts fact) exposed.base_is active.of_base) in
      let rel : method.rel ≡ k = active.of_relation ∙ sym (ap (λ (f : Ground). f.rel) is) in
      let inputs : method.inputs ≡ inputs_at k = (own method (contains_got world.methods number method active.named)).inputs ∙ ap inputs_at rel in
      let above : top ≤ k = ⊎_elim (λ (low : k < top). absurd (active.new (subst (Contains proof.exposed) is (exposed.all k low)))) (λ h. h) (cases_lt k top) in
      let below : k ≤ top = begun k few is inputs in
      let e : k ≡ top = omega (arith, above, below) in
      (omega (arith, few, e), subst (λ n. link n (at n) (at (n + 1)) ≡ fact) e is)
    where
      begun : (k : ℕ) → k ≤ 7 → link k (at k) (at (k + 1)) ≡ fact → method.inputs ≡ inputs_at k → k ≤ top
      begun zero few is inputs = omega arith
      begun (suc j) few is inputs =
          let (value, got, known) = active.inputs 0 (subst (λ (ps : List ℕ). Contains ps 0) (sym inputs) (contains_here 0 [])) in
          let same : at (suc j) ≡ value = some_injective (at (suc j)) value (ap (λ (f : Ground). slice_get f.vals 0) is ∙ got) in
          known_low proof.exposed top (suc j) exposed.ours exposed.most few (subst (IsKnownValue [] proof.exposed) (sym same) known)

  after_expose : (proof : Proof) (fact : Ground) (next : Proof) (top : ℕ) → IsExposed proof top → top ≤ 7 → link top (at top) (at (top + 1)) ≡ fact →
      next ≡ record proof { exposed = proof.exposed ++ fact ∷ []; copy = proof.copy ++ fact ∷ [] } → IsExposed next (top + 1)
  after_expose proof fact next top exposed few ours is = subst (λ (p : Proof). IsExposed p (top + 1)) (sym is) (record {
    base_is = exposed.base_is;
    copy_is = ap (λ (facts : List Ground). facts ++ fact ∷ []) exposed.copy_is;
    ours = λ other there. ⊎_elim
        (λ (old : Contains proof.exposed other). let (k, low, same) = exposed.ours other old in (k, omega (arith, low), same))
        (λ (here : Contains (fact ∷ []) other). (top, omega arith, ours ∙ contains_one fact other here))
        (Contains-append_cases proof.exposed (fact ∷ []) other there);
    all = λ k low. ⊎_elim
        (λ (before : k < top). Contains-append_left proof.exposed (fact ∷ []) (link k (at k) (at (k + 1))) (exposed.all k before))
        (λ last. let e : top ≡ k = omega (arith, last, low) in
        subst (λ n. Contains (proof.exposed ++ fact ∷ []) (link n (at n) (at (n + 1)))) e (subst (Contains (proof.exposed ++ fact ∷ [])) (sym ours) (Contains-append_right proof.exposed (fact ∷ []) fact (contains_here fact []))))
        (cases_lt k top);
    most = omega (arith, few);
  })

  run_is_short : (part : ℕ) (proof : Proof) (log : List Firing) (end : Proof) (top : ℕ) → IsRun world [] part proof log end → IsExposed proof top → length log + top ≤ 8
  run_is_short part proof [] end top run exposed = let most = exposed.most in omega (arith, most)
  run_is_short part proof (Base trigger ∷ log) end top (order, (next, (rule, first, is), run)) exposed =
      absurd (quiet proof.next trigger rule (subst (λ (facts : List Ground). IsActive world.rules (record { facts = facts; next = proof.next }) trigger rule) exposed.base_is first.active))
  run_is_short part proof (Copy trigger ∷ log) end top (order, (next, (rule, first, still, is), run)) exposed =
      let (few, more) = after_copy proof trigger rule next top (grown_there proof top exposed) first.active is in
      let short = copies_short next log end (top + 1) run more (omega (arith, few)) in
      omega (arith, short)
  run_is_short part proof (Expose number fact ∷ log) end top (order, (next, (method, active, still, is), run)) exposed =
      let (few, ours) = next_one proof number fact method top exposed active in
      let short = run_is_short 1 next log end (top + 1) run (after_expose proof fact next top exposed few ours is) in
      omega (arith, short)

exposures_few : (log : List Firing) → exposures_in log ≤ length log
exposures_few [] = omega arith
exposures_few (Base trigger ∷ log) = let few = exposures_few log in omega (arith, few)
exposures_few (Copy trigger ∷ log) = let few = exposures_few log in omega (arith, few)
exposures_few (Expose number fact ∷ log) = let few = exposures_few log in omega (arith, few)

-- ---- the base facts of the statement

abbrev value : Term → Val
value term = value_of Const Label term

-- the term of the atom with this number at a column
abbrev term_at : List Atom → ℕ → ℕ → Term
term_at atoms k column = term_of atoms (Column k column)

two_terms : (terms : List Term) → length terms ≡ 2 → terms ≡ or_empty (slice_get terms 0) ∷ or_empty (slice_get terms 1) ∷ []
two_terms [] is = absurd (omega (arith, is))
two_terms (a ∷ []) is = absurd (omega (arith, is))
two_terms (a ∷ b ∷ []) is = refl
two_terms (a ∷ b ∷ c ∷ terms) is = absurd (omega (arith, is))

-- each atom is for the FROM item at its place, and each place has one
atom_found : (froms : List ℕ) (atoms : List Atom) (k : ℕ) (atom : Atom) → AllZip (IsAtomFor world) froms atoms → slice_get atoms k ≡ Some atom → (rel : ℕ) × (slice_get froms k ≡ Some rel) × IsAtomFor world rel atom
atom_found [] [] k atom all at = absurd cc
atom_found [] (a ∷ atoms) k atom all at = absurd all
atom_found (rel ∷ froms) [] k atom all at = absurd all
atom_found (rel ∷ froms) (a ∷ atoms) zero atom all at = (rel, refl, subst (IsAtomFor world rel) (some_injective a atom at) all.0)
atom_found (rel ∷ froms) (a ∷ atoms) (suc k) atom all at = atom_found froms atoms k atom all.1 at

atom_there : (froms : List ℕ) (atoms : List Atom) (k rel : ℕ) → AllZip (IsAtomFor world) froms atoms → slice_get froms k ≡ Some rel → (atom : Atom) × (slice_get atoms k ≡ Some atom) × IsAtomFor world rel atom
atom_there [] [] k rel all at = absurd cc
atom_there [] (a ∷ atoms) k rel all at = absurd all
atom_there (r ∷ froms) [] k rel all at = absurd all
atom_there (r ∷ froms) (a ∷ atoms) zero rel all at = (a, refl, subst (λ s. IsAtomFor world s a) (some_injective r rel at) all.0)
atom_there (r ∷ froms) (a ∷ atoms) (suc k) rel all at = atom_there froms atoms k rel all.1 at

pub range_so : (a count k : ℕ) (rel : ℕ) → slice_get (range_with_len a count) k ≡ Some rel → (rel ≡ a + k) × (k < count)
range_so a zero k rel at = absurd cc
range_so a (suc count) zero rel at = let e : a ≡ rel = some_injective a rel at in (omega (arith, e), omega arith)
range_so a (suc count) (suc k) rel at = let (e, lt) = range_so (a + 1) count k rel at in (omega (arith, e), omega (arith, lt))

pub range_got : (a count k : ℕ) → k < count → slice_get (range_with_len a count) k ≡ Some (a + k)
range_got a zero k lt = absurd (omega (arith, lt))
range_got a (suc count) zero lt = let e : a ≡ a + 0 = omega arith in ap Some e
range_got a (suc count) (suc k) lt = let e : a + 1 + k ≡ a + suc k = omega arith in range_got (a + 1) count k (omega (arith, lt)) ∙ ap Some e

joined_there : (k : ℕ) → k < 7 → Contains world_select.conditions (joined k)
joined_there k lt = contains_map joined (range_with_len 0 7) k (let e : 0 + k ≡ k = omega arith in contains_got (range_with_len 0 7) k k (range_got 0 7 k lt ∙ ap Some e))

-- a relation of the world, by its number
pub relation_there : (rel : ℕ) → rel < 8 → slice_get world_relations rel ≡ Some (relation_with (rel + 1))
relation_there rel few =
    let e : 1 + rel ≡ rel + 1 = omega arith in
    map_got relation_with (range_with_len 1 8) rel (rel + 1) (range_got 1 8 rel few ∙ ap Some e)

-- where a column stands in the chain
abbrev stand : Operand → ℕ
stand (Column item column) = item + column
stand (Literal text) = 0

joined_stand : (o p : Operand) → AreJoined world_select.conditions o p → stand o ≡ stand p
joined_stand _ _ (given condition there) =
    let (k, ranged, is) = contains_mapped joined (range_with_len 0 7) condition there in
    subst (λ (c : Condition). stand c.left ≡ stand c.right) is (omega arith)
joined_stand _ _ (alike o) = refl
joined_stand _ _ (turned {o} {p} joins) = sym (joined_stand o p joins)
joined_stand _ _ (chained {o} {p} {q} one two) = joined_stand o p one ∙ joined_stand p q two

-- the column at which the chain has its value of this number
abbrev stands_at : ℕ → Operand
stands_at zero = Column 0 0
stands_at (suc k) = Column k 1

stands_so : (k : ℕ) → stand (stands_at k) ≡ k
stands_so zero = refl
stands_so (suc k) = omega arith

value_once : (s t : Term) → value s ≡ value t → s ≡ t
value_once (Var j) (Var k) e = ap Var (label_is j k e)
  where
    label_is : (j k : ℕ) → Label j ≡ Label k → j ≡ k
    label_is j k e = cc
value_once (Var j) (Said d) e = absurd (cc)
value_once (Said c) (Var k) e = absurd (cc)
value_once (Said c) (Said d) e = ap Said (const_is c d e)
  where
    const_is : (c d : List ℕ) → Const c ≡ Const d → c ≡ d
    const_is c d e = cc

-- the columns of the FROM items are those of their relations
column_fits : (k column : ℕ) → k ≤ 7 → column < 2 → OperandFits world world_select (Column k column)
column_fits k column few two = (0 + k, relation_with (0 + k + 1), range_got 0 8 k (omega (arith, few)), relation_there (0 + k) (omega (arith, few)), two)

stands_fits : (k : ℕ) → k ≤ 8 → OperandFits world world_select (stands_at k)
stands_fits zero few = column_fits 0 0 (omega arith) (omega arith)
stands_fits (suc k) few = column_fits k 1 (omega (arith, few)) (omega arith)

module _ (query : Query) (form : IsConjunctive world world_select query) where
  -- the fact of the atom with this number
  fact_of : (k : ℕ) (atom : Atom) → slice_get query.atoms k ≡ Some atom → (k ≤ 7) × (ground Label atom ≡ link k (value (term_at query.atoms k 0)) (value (term_at query.atoms k 1)))
  fact_of k atom at =
      let (rel, at_rel, (rel_is, fits)) = atom_found world_select.froms query.atoms k atom form.atoms at in
      let (place, lt) = range_so 0 8 k rel at_rel in
      let terms = two_terms atom.terms (fits.width ∙ two_columns rel fits.relation fits.there) in
      let make : ℕ → List Term → Ground = λ r ts. record { rel = r; vals = map value ts } in
      let number : atom.rel ≡ k = omega (arith, rel_is, place) in
      let pair : Option Atom → Ground = λ o. link k (value (term_in o 0)) (value (term_in o 1)) in
      (omega (arith, lt), ap (λ r. make r atom.terms) number ∙ ap (make k) terms ∙ ap pair (sym at))

  -- a base fact is that of an atom
  base_fact : (fact : Ground) → Contains (opening query).base fact → (k : ℕ) × (k ≤ 7) × (link k (value (term_at query.atoms k 0)) (value (term_at query.atoms k 1)) ≡ fact)
  base_fact fact there =
      let (atom, among, is) = contains_mapped (ground Label) query.atoms fact (opened_from query fact there) in
      let (k, at) = got_member query.atoms atom among in
      let (low, so) = fact_of k atom at in
      (k, low, sym so ∙ is)

  base_has : (k : ℕ) → k ≤ 7 → Contains (opening query).base (link k (value (term_at query.atoms k 0)) (value (term_at query.atoms k 1)))
  base_has k low =
      let (atom, at, of) = atom_there world_select.froms query.atoms k (0 + k) form.atoms (range_got 0 8 k (omega (arith, low))) in
      subst (Contains (opening query).base) (fact_of k atom at).1 (added_right [] (map (ground Label) query.atoms) (ground Label atom) (contains_map (ground Label) query.atoms atom (contains_got query.atoms k atom at)))

  -- a base fact of any relation but the last is met
  met_base : (fact : Ground) → Contains (opening query).base fact → fact.rel ≤ 6 → IsMet (opening query).base fact
  met_base fact there less =
      let (k, low, is) = base_fact fact there in
      let number = ap (λ (f : Ground). f.rel) is in
      let on : term_at query.atoms k 1 ≡ term_at query.atoms (k + 1) 0 = form.joined (joined k) (joined_there k (omega (arith, number, less))) in
      subst (IsMet (opening query).base) is
      (value (term_at query.atoms (k + 1) 1), subst (λ (v : Val). Contains (opening query).base (link (k + 1) v (value (term_at query.atoms (k + 1) 1)))) (ap value (sym on)) (base_has (k + 1) (omega (arith, number, less))))

  base_quiet : (next : ℕ) → IsQuiet world.rules (record { facts = (opening query).base; next = next })
  base_quiet next trigger rule active =
      let made = active_so (opening query).base next trigger rule active in
      let few = made.few in
      let some = made.some in
      made.open_end (met_base (link (made.k - 1) (assigned trigger 0) (assigned trigger 1)) made.there (omega (arith, few, some)))

  -- the values of the chain
  abbrev at : ℕ → Val
  at k = value (term_of query.atoms (stands_at k))

  begins_at : (k : ℕ) → k ≤ 7 → value (term_at query.atoms k 0) ≡ at k
  begins_at zero few = refl
  begins_at (suc k) few = let e : k + 1 ≡ suc k = omega arith in ap value (sym (form.joined (joined k) (joined_there k (omega (arith, few))) ∙ ap (λ n. term_at query.atoms n 0) e))

  in_line : IsLine (opening query).base at
  in_line = record {
    ours = λ fact there. let (k, few, is) = base_fact fact there in
        let e : suc k ≡ k + 1 = omega arith in
        (k, few, ap (λ n. link k (at k) (at n)) (sym e) ∙ ap (λ (v : Val). link k v (at (suc k))) (sym (begins_at k few)) ∙ is);
    apart = λ j k few low same.
        let joins = form.only (stands_at j) (stands_at k) (stands_fits j few) (stands_fits k low) (value_once (term_of query.atoms (stands_at j)) (term_of query.atoms (stands_at k)) same) in
        sym (stands_so j) ∙ joined_stand (stands_at j) (stands_at k) joins ∙ stands_so k;
  }

  opening_exposed : IsExposed (opening query).base at in_line base_quiet (opening query) 0
  opening_exposed = record {
    base_is = refl;
    copy_is = refl;
    ours = λ fact there. absurd (contains_nothing fact there);
    all = λ k low. absurd (omega (arith, low));
    most = omega arith;
  }
    where
      contains_nothing : (fact : Ground) → Contains [] fact → ⊥
      contains_nothing fact there = omega arith

  -- a run has at most 8 firings, and so at most 8 exposures
  pub runs_short : (log : List Firing) (end : Proof) → IsRun world [] 0 (opening query) log end → (length log ≤ 8) × (exposures_in log ≤ 8)
  runs_short log end run =
      let short = run_is_short (opening query).base at in_line base_quiet 0 (opening query) log end 0 run opening_exposed in
      let few = exposures_few log in
      (omega (arith, short), omega (arith, short, few))

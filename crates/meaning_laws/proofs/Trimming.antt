-- The steps of a pass back over a run that keeps what the wanted facts rest on.
use Rattle.std.proofs.Common.{◌≡◌, ◌⊎◌, ℕ, ◌≤◌, List, [], ◌∷◌, ◌++◌, refl, sym, ap, ◌∙◌, subst, inl, inr, ⊎_elim, arith, append_assoc}
use Rattle.std.specs.Prelude.{Contains, map, slice_get, Some}
use Rattle.std.proofs.lemmas.List.Elements.{Contains-append_cases, Contains-append_left, Contains-append_right, Contains-push, Contains-push_cases}
use Rattle.lists.proofs.Members.{contains_here, contains_there, contains_cases, contains_mapped, contains_map, some_injective}
use Rattle.meaning_laws.proofs.Added.{added_cases, added_left, added_right}
use Rattle.meaning_laws.proofs.Deciding.{dec_contains, Val-discrete}
use Rattle.meaning.specs.declared.types.Val.{Val}
use Rattle.meaning.specs.declared.types.Val.TheVariants.{Const}
use Rattle.meaning.specs.declared.types.Atom.{Atom}
use Rattle.meaning.specs.declared.types.Ground.{Ground}
use Rattle.meaning.specs.declared.types.Rule.{Rule}
use Rattle.meaning.specs.declared.types.SchemaParts.{SchemaParts}
use Rattle.meaning.specs.declared.types.Trigger.{Trigger}
use Rattle.meaning.specs.declared.types.Query.{Query}
use Rattle.meaning.specs.Matching.{AreFacts, GroundsOf, IsQueryAnswer}
use Rattle.meaning.specs.Triggers.{State, ground, assigned, IsTrigger, fired, IsFiringRun}
use Rattle.meaning.specs.Runs.{IsKnownValue}
use Rattle.meaning.specs.Extract.{Exposure, exposed_facts, Exposes, IsExposing, exposures_cost}
use Rattle.meaning_laws.specs.Trims.{AreIn, Serves, ServesExposing, Asks, BodiesFollow, AreClosed}

-- the facts of a trigger's body and head
pub body_facts : Trigger → Rule → List Ground
body_facts trigger rule = map (ground (assigned trigger)) rule.body

pub head_facts : Trigger → Rule → List Ground
head_facts trigger rule = map (ground (assigned trigger)) rule.head

body_in : (trigger : Trigger) (atoms : List Atom) (facts : List Ground) → AreIn (map (ground (assigned trigger)) atoms) facts → AreFacts Const (GroundsOf facts) (assigned trigger) atoms
body_in trigger atoms facts within atom c = within (ground (assigned trigger) atom) (mapped atoms c)
  where
    mapped : (atoms : List Atom) → Contains atoms atom → Contains (map (ground (assigned trigger)) atoms) (ground (assigned trigger) atom)
    mapped [] c = absurd (omega arith)
    mapped (first ∷ rest) c = ⊎_elim (λ e. subst (λ a. Contains (ground (assigned trigger) first ∷ map (ground (assigned trigger)) rest) (ground (assigned trigger) a)) e (contains_here (ground (assigned trigger) first) (map (ground (assigned trigger)) rest))) (λ h. contains_there (ground (assigned trigger) first) (map (ground (assigned trigger)) rest) (ground (assigned trigger) atom) (mapped rest h)) (contains_cases first rest atom c)

pub serves_none : (rules : List Rule) (next : ℕ) (wanted : List Ground) → Serves rules next wanted [] wanted
serves_none rules next wanted small low has = (small, refl, has)

-- a firing is left out
pub serves_skip : (rules : List Rule) (state : State) (trigger : Trigger) (rule : Rule) (needed wanted : List Ground) (kept : List Trigger) → IsTrigger rules state trigger rule → Serves rules (fired state trigger rule).next needed kept wanted → Serves rules state.next needed kept wanted
serves_skip rules state trigger rule needed wanted kept is serves small low has =
    let up : state.next ≤ trigger.fresh = is.fresh in
    serves small (omega arith) has

-- a firing is kept, so its body is needed and its head is not
pub serves_keep : (rules : List Rule) (state : State) (trigger : Trigger) (rule : Rule) (needed after wanted : List Ground) (kept : List Trigger) → IsTrigger rules state trigger rule → Serves rules (fired state trigger rule).next after kept wanted →
    ((fact : Ground) → Contains after fact → Contains needed fact ⊎ Contains (head_facts trigger rule) fact) → AreIn (body_facts trigger rule) needed → Serves rules state.next needed (trigger ∷ kept) wanted
unfolding body_facts head_facts
serves_keep rules state trigger rule needed after wanted kept is serves split body small low has =
    let up : state.next ≤ trigger.fresh = is.fresh in
    let (last, run, leaves) = serves (fired small trigger rule) (omega arith)
    (λ fact c. ⊎_elim (λ old. added_left small.facts (map (ground (assigned trigger)) rule.head) fact (has fact old)) (λ new. added_right small.facts (map (ground (assigned trigger)) rule.head) fact new) (split fact c)) in
    (last, (rule, record { numbered = is.numbered; width = is.width; fresh = omega arith; body = body_in trigger rule.body small.facts (λ fact c. has fact (body fact c)) }, run), leaves)

-- the facts of a list that stood before, where each stood before or is new
pub older : (facts old new : List Ground) → ((fact : Ground) → Contains facts fact → Contains old fact ⊎ Contains new fact) → (part : List Ground) × AreIn part old × AreIn part facts × ((fact : Ground) → Contains facts fact → Contains part fact ⊎ Contains new fact)
older [] old new either = ([], (λ f c. absurd (omega arith)), (λ f c. c), (λ f c. absurd (omega arith)))
older (first ∷ facts) old new either =
    let (part, within, inside, all) = older facts old new (λ f c. either f (contains_there first facts f c)) in
    ⊎_elim (λ here. (
      first ∷ part,
      (λ f c. ⊎_elim (λ e. subst (λ g. Contains old g) e here) (λ h. within f h) (contains_cases first part f c)),
      (λ f c. ⊎_elim (λ e. subst (λ g. Contains (first ∷ facts) g) e (contains_here first facts)) (λ h. contains_there first facts f (inside f h)) (contains_cases first part f c)),
      (λ f c. ⊎_elim (λ e. inl (subst (λ g. Contains (first ∷ part) g) e (contains_here first part))) (λ h. ⊎_elim (λ i. inl (contains_there first part f i)) (λ i. inr i) (all f h)) (contains_cases first facts f c)),
    ))
    (λ there. (part, within, (λ f c. contains_there first facts f (inside f c)), (λ f c. ⊎_elim (λ e. inr (subst (λ g. Contains new g) e there)) (λ h. all f h) (contains_cases first facts f c))))
    (either first (contains_here first facts))

-- these facts are of a kind
abbrev pub AreOf : (Ground → Type 0) → List Ground → Type 0
AreOf Needed facts = (fact : Ground) → Contains facts fact → Needed fact

-- whether all facts of a list stand in another
all_in : (facts larger : List Ground) → AreIn facts larger ⊎ ((fact : Ground) × Contains facts fact × (Contains larger fact → ⊥))
all_in [] larger = inl (λ f c. absurd (omega arith))
all_in (first ∷ facts) larger = elim (dec_contains larger first) [
  | yes is ↦ ⊎_elim (λ rest. inl (λ f c. ⊎_elim (λ e. subst (λ g. Contains larger g) e is) (λ h. rest f h) (contains_cases first facts f c))) (λ (f, c, out). inr (f, contains_there first facts f c, out)) (all_in facts larger)
  | no out ↦ inr (first, contains_here first facts, out)
]

-- a run of firings can be cut down to those that the wanted facts rest on, and these to facts of a kind
pub kinds_trim : (rules : List Rule) (next : ℕ) (Needed : Ground → Type 0) → BodiesFollow rules next Needed → (state end : State) (log : List Trigger) (wanted : List Ground) → next ≤ state.next → IsFiringRun rules state log end → AreIn wanted end.facts → AreOf Needed wanted →
    (kept : List Trigger) × (needed : List Ground) × AreIn needed state.facts × AreOf Needed needed × Serves rules state.next needed kept wanted
unfolding body_facts head_facts
kinds_trim rules next Needed follow state end [] wanted low run within of_kind = ([], wanted, subst (λ (s : State). AreIn wanted s.facts) run within, of_kind, serves_none rules state.next wanted)
kinds_trim rules next Needed follow state end (trigger ∷ log) wanted low (rule, is, more) within of_kind =
    let up : state.next ≤ trigger.fresh = is.fresh in
    let (kept, after, among, kinds, serves) = kinds_trim rules next Needed follow (fired state trigger rule) end log wanted (omega arith) more within of_kind in
    ⊎_elim (λ all. (kept, after, all, kinds, serves_skip rules state trigger rule after wanted kept is serves))
    (λ (made, there, new).
    let (part, old, inside, split) = older after state.facts (head_facts trigger rule) (λ f c. added_cases state.facts (map (ground (assigned trigger)) rule.head) f (among f c)) in
    let bodies = body_of_kind made (kinds made there) (⊎_elim (λ h. absurd (new h)) (λ h. h) (added_cases state.facts (map (ground (assigned trigger)) rule.head) made (among made there))) in (
      trigger ∷ kept,
      body_facts trigger rule ++ part,
      (λ f c. ⊎_elim (λ b. body_of f b) (λ p. old f p) (Contains-append_cases (body_facts trigger rule) part f c)),
      (λ f c. ⊎_elim (λ b. bodies f b) (λ p. kinds f (inside f p)) (Contains-append_cases (body_facts trigger rule) part f c)),
      serves_keep rules state trigger rule (body_facts trigger rule ++ part) after wanted kept is serves
          (λ f c. ⊎_elim (λ p. inl (Contains-append_right (body_facts trigger rule) part f p)) (λ n. inr n) (split f c))
          (λ f c. Contains-append_left (body_facts trigger rule) part f c),
    ))
    (all_in after state.facts)
  where
    body_of : (f : Ground) → Contains (map (ground (assigned trigger)) rule.body) f → Contains state.facts f
    body_of f c = let (atom, among, e) = contains_mapped (ground (assigned trigger)) rule.body f c in subst (λ g. Contains state.facts g) e (is.body atom among)

    -- the body of a firing that makes a fact of the kind
    body_of_kind : (made : Ground) → Needed made → Contains (map (ground (assigned trigger)) rule.head) made → AreOf Needed (map (ground (assigned trigger)) rule.body)
    body_of_kind made needs there f c =
        let up : state.next ≤ trigger.fresh = is.fresh in
        let (head, of_head, makes) = contains_mapped (ground (assigned trigger)) rule.head made there in
        let (body, of_body, reads) = contains_mapped (ground (assigned trigger)) rule.body f c in
        subst Needed reads (follow trigger rule head body (record { numbered = is.numbered; width = is.width; fresh = omega arith }) of_head of_body (subst Needed (sym makes) needs))

-- a run of firings can be cut down to those that the wanted facts rest on
pub firings_trim : (rules : List Rule) (state end : State) (log : List Trigger) (wanted : List Ground) → IsFiringRun rules state log end → AreIn wanted end.facts → (kept : List Trigger) × (needed : List Ground) × AreIn needed state.facts × Serves rules state.next needed kept wanted
firings_trim rules state end log wanted run within =
    let (kept, needed, among, kinds, serves) = kinds_trim rules 0 (λ fact. Unit {0}) (λ trigger rule head body is c d w. tt) state end log wanted (omega arith) run within (λ f c. tt) in
    (kept, needed, among, serves)

-- the same for exposures
pub exposing_none : (schema : SchemaParts) (constants : List (List ℕ)) (base before : List Ground) → ServesExposing schema constants base before [] []
exposing_none schema constants base before exposed within known = tt

pub exposing_skip : (schema : SchemaParts) (constants : List (List ℕ)) (base before : List Ground) (fact : Ground) (values : List Val) (kept : List Exposure) → ServesExposing schema constants base (before ++ fact ∷ []) values kept → ServesExposing schema constants base before values kept
exposing_skip schema constants base before fact values kept serves exposed within known = serves exposed (λ f c. Contains-append_left before (fact ∷ []) f (within f c)) known

-- an exposure is kept, so its inputs are needed and its values are not
pub exposing_keep : (schema : SchemaParts) (constants : List (List ℕ)) (base before : List Ground) (e : Exposure) (values after : List Val) (kept : List Exposure) → Exposes schema constants base before e → ServesExposing schema constants base (before ++ e.fact ∷ []) after kept →
    ((v : Val) → Contains after v → Contains values v ⊎ Contains e.fact.vals v) →
    ((p : ℕ) (v : Val) → Contains e.method.inputs p → slice_get e.fact.vals p ≡ Some v → Contains values v ⊎ ((c : List ℕ) × Contains constants c × (v ≡ Const c))) →
    ServesExposing schema constants base before values (e ∷ kept)
exposing_keep schema constants base before e values after kept is serves split inputs exposed within known = (
  record {
    of_base = is.of_base;
    new = λ c. is.new (within e.fact c);
    of_schema = is.of_schema;
    of_relation = is.of_relation;
    inputs = λ p i. let (v, at, old) = is.inputs p i in (v, at, ⊎_elim (λ h. known v h) (λ c. inl c) (inputs p v i at));
  },
  serves (exposed ++ e.fact ∷ [])
      (λ f c. ⊎_elim (λ old. Contains-append_left before (e.fact ∷ []) f (within f old)) (λ same. subst (λ g. Contains (before ++ e.fact ∷ []) g) same (Contains-push before e.fact)) (Contains-push_cases exposed e.fact f c))
      (λ v c. ⊎_elim (λ old. ⊎_elim (λ k. inl k) (λ (f, among, i). inr (f, Contains-append_left exposed (e.fact ∷ []) f among, i)) (known v old)) (λ here. inr (e.fact, Contains-push exposed e.fact, here)) (split v c)),
)

-- of the values of a list some that were known before; the others, one of which is given, are of a fact
pub record Older (constants : List (List ℕ)) (before : List Ground) (vals after : List Val) : Type 0 where
  pub part : List Val
  pub inside : (v : Val) → Contains part v → Contains after v
  pub known : (v : Val) → Contains part v → IsKnownValue constants before v
  pub split : (v : Val) → Contains after v → Contains part v ⊎ Contains vals v
  pub new : Val
  pub among : Contains after new
  pub here : Contains vals new

-- the values of a list that were known before, where each was known or is of the fact; and whether all were
values_older : (constants : List (List ℕ)) (before : List Ground) (vals after : List Val) → ((v : Val) → Contains after v → IsKnownValue constants before v ⊎ Contains vals v) →
    ((v : Val) → Contains after v → IsKnownValue constants before v) ⊎ Older constants before vals after
values_older constants before vals [] either = inl (λ v c. absurd (omega arith))
values_older constants before vals (first ∷ after) either =
    ⊎_elim (λ known. ⊎_elim
    (λ all. inl (λ v c. ⊎_elim (λ e. subst (λ u. IsKnownValue constants before u) e known) (λ h. all v h) (contains_cases first after v c)))
    (λ (rest : Older constants before vals after). inr (record {
      part = first ∷ rest.part;
      inside = λ v c. ⊎_elim (λ e. subst (λ u. Contains (first ∷ after) u) e (contains_here first after)) (λ h. contains_there first after v (rest.inside v h)) (contains_cases first rest.part v c);
      known = λ v c. ⊎_elim (λ e. subst (λ u. IsKnownValue constants before u) e known) (λ h. rest.known v h) (contains_cases first rest.part v c);
      split = λ v c. ⊎_elim (λ e. inl (subst (λ u. Contains (first ∷ rest.part) u) e (contains_here first rest.part))) (λ h. ⊎_elim (λ i. inl (contains_there first rest.part v i)) (λ i. inr i) (rest.split v h)) (contains_cases first after v c);
      new = rest.new;
      among = contains_there first after rest.new rest.among;
      here = rest.here;
    }))
    (values_older constants before vals after (λ v c. either v (contains_there first after v c))))
    (λ here. ⊎_elim
    (λ all. inr (record {
      part = after;
      inside = λ v c. contains_there first after v c;
      known = all;
      split = λ v c. ⊎_elim (λ e. inr (subst (λ u. Contains vals u) e here)) (λ h. inl h) (contains_cases first after v c);
      new = first;
      among = contains_here first after;
      here = here;
    }))
    (λ (rest : Older constants before vals after). inr (record {
      part = rest.part;
      inside = λ v c. contains_there first after v (rest.inside v c);
      known = rest.known;
      split = λ v c. ⊎_elim (λ e. inr (subst (λ u. Contains vals u) e here)) (λ h. rest.split v h) (contains_cases first after v c);
      new = first;
      among = contains_here first after;
      here = here;
    }))
    (values_older constants before vals after (λ v c. either v (contains_there first after v c))))
    (either first (contains_here first after))

-- whether a value is a constant of the list
constant_or : (constants : List (List ℕ)) (v : Val) → ((c : List ℕ) × Contains constants c × (v ≡ Const c)) ⊎ ((c : List ℕ) → Contains constants c → v ≡ Const c → ⊥)
constant_or [] v = inr (λ c among e. absurd (let none : Contains [] c = among in omega arith))
constant_or (first ∷ constants) v = elim (Val-discrete v (Const first)) [
  | yes e ↦ inl (first, contains_here first constants, e)
  | no differ ↦ ⊎_elim (λ (c, among, e). inl (c, contains_there first constants c among, e))
      (λ none. inr (λ c among e. ⊎_elim (λ (same : first ≡ c). differ (e ∙ ap Const (sym same))) (λ h. none c h e) (contains_cases first constants c among))) (constant_or constants v)
]

-- the values at the inputs that are no constants of the list
pub record InputValues (constants : List (List ℕ)) (before : List Ground) (vals : List Val) (inputs : List ℕ) : Type 0 where
  pub values : List Val
  pub known : (v : Val) → Contains values v → IsKnownValue constants before v
  pub of_inputs : (v : Val) → Contains values v → (p : ℕ) × Contains inputs p × (slice_get vals p ≡ Some v) × ((c : List ℕ) → Contains constants c → v ≡ Const c → ⊥)
  pub all : (p : ℕ) (v : Val) → Contains inputs p → slice_get vals p ≡ Some v → Contains values v ⊎ ((c : List ℕ) × Contains constants c × (v ≡ Const c))

input_values : (constants : List (List ℕ)) (before : List Ground) (vals : List Val) (inputs : List ℕ) → ((p : ℕ) → Contains inputs p → (value : Val) × (slice_get vals p ≡ Some value) × IsKnownValue constants before value) →
    InputValues constants before vals inputs
input_values constants before vals [] are = record {
  values = [];
  known = λ v c. absurd (omega arith);
  of_inputs = λ v c. absurd (omega arith);
  all = λ p v c e. absurd (omega arith);
}
input_values constants before vals (first ∷ inputs) are =
    let rest = input_values constants before vals inputs (λ p c. are p (contains_there first inputs p c)) in
    let (value, at, old) = are first (contains_here first inputs) in
    with_value rest value at old
  where
    with_value : InputValues constants before vals inputs → (value : Val) → slice_get vals first ≡ Some value → IsKnownValue constants before value → InputValues constants before vals (first ∷ inputs)
    with_value rest value at old = ⊎_elim
        (λ constant. record {
          values = rest.values;
          known = rest.known;
          of_inputs = λ v c. let (p, i, there, unknown) = rest.of_inputs v c in (p, contains_there first inputs p i, there, unknown);
          all = λ p v c e. ⊎_elim
              (λ same. let is : value ≡ v = some_injective value v (sym at ∙ (ap (λ q. slice_get vals q) same ∙ e)) in inr (subst (λ u. (k : List ℕ) × Contains constants k × (u ≡ Const k)) is constant))
              (λ h. rest.all p v h e) (contains_cases first inputs p c);
        })
        (λ unknown. record {
          values = value ∷ rest.values;
          known = λ v c. ⊎_elim (λ e. subst (λ u. IsKnownValue constants before u) e old) (λ h. rest.known v h) (contains_cases value rest.values v c);
          of_inputs = λ v c. ⊎_elim
              (λ e. (first, contains_here first inputs, at ∙ ap (λ u. Some u) e, (λ k among is. unknown k among (e ∙ is))))
              (λ h. let (p, i, there, its) = rest.of_inputs v h in (p, contains_there first inputs p i, there, its)) (contains_cases value rest.values v c);
          all = λ p v c e. ⊎_elim
              (λ same. let is : value ≡ v = some_injective value v (sym at ∙ (ap (λ q. slice_get vals q) same ∙ e)) in inl (subst (λ u. Contains (value ∷ rest.values) u) is (contains_here value rest.values)))
              (λ h. ⊎_elim (λ i. inl (contains_there value rest.values v i)) (λ k. inr k) (rest.all p v h e)) (contains_cases first inputs p c);
        })
        (constant_or constants value)

-- what a pass back over the exposures gives, if the facts that matter are these
pub record Trimmed (schema : SchemaParts) (constants : List (List ℕ)) (Relevant : Ground → Type 0) (base before : List Ground) (exposures : List Exposure) (wanted : List Ground) : Type 0 where
  pub kept : List Exposure
  pub values : List Val
  pub wanted_in : AreIn wanted (before ++ exposed_facts kept)
  pub known : (v : Val) → Contains values v → IsKnownValue constants before v
  pub serves : ServesExposing schema constants base before values kept
  pub cheap : exposures_cost kept ≤ exposures_cost exposures
  pub relevant : (e : Exposure) → Contains kept e → Relevant e.fact
  pub asked : (v : Val) → Contains values v → (fact : Ground) × Relevant fact × Asks schema constants fact v

-- a value known after one more exposure was known before, or is of its fact
pub known_or : (constants : List (List ℕ)) (before : List Ground) (fact : Ground) (v : Val) → IsKnownValue constants (before ++ fact ∷ []) v → IsKnownValue constants before v ⊎ Contains fact.vals v
known_or constants before fact v known =
    ⊎_elim (λ c. inl (inl c)) (λ (f, among, i). ⊎_elim (λ old. inl (inr (f, old, i))) (λ same. inr (subst (λ (g : Ground). Contains g.vals v) (sym same) i)) (Contains-push_cases before fact f among)) known

module _ (schema : SchemaParts) (constants : List (List ℕ)) (Relevant : Ground → Type 0) (base : List Ground) where
  trimmed_keep : (before : List Ground) (e : Exposure) (exposures : List Exposure) (wanted : List Ground) → Exposes schema constants base before e → Relevant e.fact →
      (r : Trimmed schema constants Relevant base (before ++ e.fact ∷ []) exposures wanted) → (part : List Val) → ((v : Val) → Contains part v → Contains r.values v) → ((v : Val) → Contains part v → IsKnownValue constants before v) →
      ((v : Val) → Contains r.values v → Contains part v ⊎ Contains e.fact.vals v) → Trimmed schema constants Relevant base before (e ∷ exposures) wanted
  trimmed_keep before e exposures wanted is matters r part inside known split =
      let rests : exposures_cost r.kept ≤ exposures_cost exposures = r.cheap in
      let inputs = input_values constants before e.fact.vals e.method.inputs is.inputs in
      record {
        kept = e ∷ r.kept;
        values = inputs.values ++ part;
        wanted_in = λ f c. subst (λ gs. Contains gs f) (append_assoc before (e.fact ∷ []) (exposed_facts r.kept)) (r.wanted_in f c);
        known = λ v c. ⊎_elim (λ h. inputs.known v h) (λ h. known v h) (Contains-append_cases inputs.values part v c);
        serves = exposing_keep schema constants base before e (inputs.values ++ part) r.values r.kept is r.serves
            (λ v c. ⊎_elim (λ h. inl (Contains-append_right inputs.values part v h)) (λ h. inr h) (split v c))
            (λ p v i at. ⊎_elim (λ h. inl (Contains-append_left inputs.values part v h)) (λ k. inr k) (inputs.all p v i at));
        cheap = omega arith;
        relevant = λ one c. ⊎_elim (λ same. subst (λ (x : Exposure). Relevant x.fact) same matters) (λ h. r.relevant one h) (contains_cases e r.kept one c);
        asked = λ v c. ⊎_elim
            (λ h. let (p, i, at, unknown) = inputs.of_inputs v h in (e.fact, matters, record { method = e.method; place = p; of_schema = is.of_schema; of_relation = is.of_relation; input = i; at = at; unknown = unknown }))
            (λ h. r.asked v (inside v h)) (Contains-append_cases inputs.values part v c);
      }

  trimmed_skip : (before : List Ground) (e : Exposure) (exposures : List Exposure) (wanted : List Ground) → (r : Trimmed schema constants Relevant base (before ++ e.fact ∷ []) exposures wanted) →
      ((v : Val) → Contains r.values v → IsKnownValue constants before v) → (Contains wanted e.fact → ⊥) → Trimmed schema constants Relevant base before (e ∷ exposures) wanted
  trimmed_skip before e exposures wanted r known out =
      let rests : exposures_cost r.kept ≤ exposures_cost exposures = r.cheap in
      record {
        kept = r.kept;
        values = r.values;
        wanted_in = λ f c. ⊎_elim (λ b. ⊎_elim (λ h. Contains-append_left before (exposed_facts r.kept) f h) (λ same. absurd (out (subst (λ g. Contains wanted g) (sym same) c))) (Contains-push_cases before e.fact f b)) (λ h. Contains-append_right before (exposed_facts r.kept) f h) (Contains-append_cases (before ++ e.fact ∷ []) (exposed_facts r.kept) f (r.wanted_in f c));
        known = known;
        serves = exposing_skip schema constants base before e.fact r.values r.kept r.serves;
        cheap = omega arith;
        relevant = r.relevant;
        asked = r.asked;
      }

  -- exposures can be cut down to those that the wanted facts rest on, which are relevant
  pub exposures_trim : ((fact other : Ground) (v : Val) → Relevant fact → Asks schema constants fact v → Contains base other → Contains other.vals v → Relevant other) →
      (before : List Ground) (exposures : List Exposure) (wanted : List Ground) → ((fact : Ground) → Contains wanted fact → Contains base fact → Relevant fact) →
      IsExposing schema constants base before exposures → AreIn wanted (before ++ exposed_facts exposures) → Trimmed schema constants Relevant base before exposures wanted
  exposures_trim follow before [] wanted matter is within = record {
    kept = [];
    values = [];
    wanted_in = within;
    known = λ v c. absurd (omega arith);
    serves = exposing_none schema constants base before;
    cheap = omega arith;
    relevant = λ e c. absurd (omega arith);
    asked = λ v c. absurd (omega arith);
  }
  exposures_trim follow before (e ∷ exposures) wanted matter (first, rest) within =
      let r = exposures_trim follow (before ++ e.fact ∷ []) exposures wanted matter rest (subst (λ gs. AreIn wanted gs) (sym (append_assoc before (e.fact ∷ []) (exposed_facts exposures))) within) in
      choose r
    where
      choose : Trimmed schema constants Relevant base (before ++ e.fact ∷ []) exposures wanted → Trimmed schema constants Relevant base before (e ∷ exposures) wanted
      choose r =
          ⊎_elim
          (λ known. elim (dec_contains wanted e.fact) [
            | yes is ↦ trimmed_keep before e exposures wanted first (matter e.fact is first.of_base) r r.values (λ v c. c) known (λ v c. inl c)
            | no out ↦ trimmed_skip before e exposures wanted r known out
          ])
          (λ (old : Older constants before e.fact.vals r.values).
          let (asker, matters, asks) = r.asked old.new old.among in
          trimmed_keep before e exposures wanted first (follow asker e.fact old.new matters asks first.of_base old.here) r old.part old.inside old.known old.split)
          (values_older constants before e.fact.vals r.values (λ v c. known_or constants before e.fact v (r.known v c)))

-- exposures and copy firings can be cut down to those that a match rests on, at no greater cost, and these are relevant
pub relevant_trim : (schema : SchemaParts) (constants : List (List ℕ)) (base : List Ground) (next : ℕ) (queries : List Query) (head : List Val) (Needed Relevant : Ground → Type 0) → AreClosed schema constants base next queries head Needed Relevant →
    (exposures : List Exposure) (copy : List Trigger) (end : State) (goal : Query) →
    IsExposing schema constants base [] exposures → IsFiringRun schema.rules (record { facts = exposed_facts exposures; next = next }) copy end → Contains queries goal → IsQueryAnswer Const (GroundsOf end.facts) goal head →
    (kept : List Exposure) × (less : List Trigger) × (last : State) × IsExposing schema constants base [] kept × IsFiringRun schema.rules (record { facts = exposed_facts kept; next = next }) less last × IsQueryAnswer Const (GroundsOf last.facts) goal head
    × (exposures_cost kept ≤ exposures_cost exposures) × ((e : Exposure) → Contains kept e → Relevant e.fact)
relevant_trim schema constants base next queries head Needed Relevant closed exposures copy end goal is run matched (a, are, e) =
    let (less, needed, from, kinds, serves) = kinds_trim schema.rules next Needed closed.bodies (record { facts = exposed_facts exposures; next = next }) end copy (map (ground a) goal.atoms) (omega arith) run
    (λ f c. let (atom, among, same) = contains_mapped (ground a) goal.atoms f c in subst (λ g. Contains end.facts g) same (are atom among))
    (λ f c. let (atom, among, same) = contains_mapped (ground a) goal.atoms f c in closed.images goal atom f matched among (record { assignment = a; heads = e; makes = same })) in
    let r = exposures_trim schema constants Relevant base closed.inputs [] exposures needed (λ f c of_base. closed.facts f of_base (kinds f c)) is from in
    let (last, its, leaves) = serves (record { facts = exposed_facts r.kept; next = next }) (omega arith) r.wanted_in in
    (r.kept, less, last, r.serves [] (λ f c. c) r.known, its, (a, (λ atom c. leaves (ground a atom) (contains_map (ground a) goal.atoms atom c)), e), r.cheap, r.relevant)

-- exposures and copy firings can be cut down to those that a match rests on, at no greater cost
pub match_trim : (schema : SchemaParts) (constants : List (List ℕ)) (base : List Ground) (next : ℕ) (exposures : List Exposure) (copy : List Trigger) (end : State) (goal : Query) (head : List Val) →
    IsExposing schema constants base [] exposures → IsFiringRun schema.rules (record { facts = exposed_facts exposures; next = next }) copy end → IsQueryAnswer Const (GroundsOf end.facts) goal head →
    (kept : List Exposure) × (less : List Trigger) × (last : State) × IsExposing schema constants base [] kept × IsFiringRun schema.rules (record { facts = exposed_facts kept; next = next }) less last × IsQueryAnswer Const (GroundsOf last.facts) goal head × (exposures_cost kept ≤ exposures_cost exposures)
match_trim schema constants base next exposures copy end goal head is run answer =
    let all : AreClosed schema constants base next (goal ∷ []) head (λ fact. Unit {0}) (λ fact. Unit {0}) =
    record { images = λ query atom fact c d i. tt; bodies = λ trigger rule head body is c d w. tt; facts = λ fact c w. tt; inputs = λ fact other v r asks c d. tt } in
    let (kept, less, last, exposing, its, matches, cheap, relevant) = relevant_trim schema constants base next (goal ∷ []) head (λ fact. Unit {0}) (λ fact. Unit {0}) all exposures copy end goal is run (contains_here goal []) answer in
    (kept, less, last, exposing, its, matches, cheap)

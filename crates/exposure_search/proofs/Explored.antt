-- Spaces of proofs, and what a search over them shows.
use Rattle.std.proofs.Common.{◌≡◌, ℕ, suc, ◌+◌, ◌≤◌, List, [], ◌∷◌, ◌++◌, length, map, Bool, refl, sym, ap, ◌∙◌, subst, ⊎_elim, arith}
use Rattle.std.specs.Prelude.{Contains, false}
use Rattle.std.proofs.lemmas.List.{append-nil, length-append, length-map}
use Rattle.std.proofs.lemmas.List.Elements.{Contains-append_cases, Contains-append_left, Contains-append_right}
use Rattle.lists.proofs.Members.{contains_got}
use Rattle.meaning_laws.proofs.SameSets.{run_alike}
use Rattle.meaning_laws.proofs.Running.{plain_push}
use Rattle.meaning_laws.proofs.Everywhere.{goal_everywhere}
use Rattle.meaning_laws.proofs.Deciding.{quiet_meets}
use Rattle.meaning_laws.proofs.Keeping.{named_more}
use Rattle.meaning_laws.proofs.Resting.{goal_stays, goal_lies}
use Rattle.meaning_laws.specs.Trims.{AreIn, AreClosed}
use Rattle.meaning_laws.specs.Rests.{HasGoalOver, new_labels, MakersAreMet}
use Rattle.meaning.specs.declared.types.SchemaParts.{SchemaParts}
use Rattle.meaning.specs.declared.types.Atom.{Atom}
use Rattle.meaning.specs.declared.types.Ground.{Ground}
use Rattle.meaning.specs.declared.types.Trigger.{Trigger}
use Rattle.meaning.specs.declared.types.Firing.{Firing}
use Rattle.meaning.specs.declared.types.Firing.TheVariants.{Base}
use Rattle.meaning.specs.declared.types.Query.{Query}
use Rattle.meaning.specs.declared.types.Val.{Val}
use Rattle.meaning.specs.declared.types.Val.TheVariants.{Const}
use Rattle.meaning.specs.Matching.{GroundsOf, IsQueryAnswer}
use Rattle.meaning.specs.Triggers.{State, IsFiringRun, IsQuiet, fired, ground, assigned}
use Rattle.meaning.specs.Runs.{Proof, base_state, last_part, IsRun}
use Rattle.meaning.specs.RuleOrder.{IsFed}
use Rattle.meaning.specs.Naming.{IsNamed, AreNamed}
use Rattle.meaning.specs.Fitting.{QueryHasConstants, Fit, RulesFit}
use Rattle.meaning.specs.Extract.{Exposure, exposed_facts, exposures_cost, IsExposing}
use Rattle.accessible_copy.specs.declared.entry.Entry.{Entry}
use Rattle.accessible_copy.specs.Known.{facts_of}
use Rattle.accessible_copy.specs.Rounds.{exposure_of}
use Rattle.accessible_copy.specs.Written.{firing_of}
use Rattle.accessible_copy.specs.Settling.{Settles}
use Rattle.accessible_copy.specs.Proving.{Proving, IsProofOf, log_of, firings_of}
use Rattle.accessible_copy.proofs.Writing.{written_run}
use Rattle.rule_pass.specs.States.{SomeActive}
use Rattle.rule_pass.specs.Levels.{AreShort}
use Rattle.accessible_copy.proofs.Listed.{proof_once}
use Rattle.least_search.specs.declared.node.Node.{Node}
use Rattle.least_search.specs.declared.space.Move.{Move}
use Rattle.least_search.specs.Walks.{CanGain, GoalsGrow, IsNode, no_facts}
use Rattle.least_search.specs.Costs.{IsLeastCost, AreRunsWithin}
use Rattle.exposure_search.specs.declared.marks.Marks.{Marks}
use Rattle.exposure_search.specs.Tries.{picked, exposures_in}
use Rattle.exposure_search.specs.Making.{bases_of, IsBaseProof, OnlyExposes}
use Rattle.exposure_search.specs.Ahead.{facts_along}
use Rattle.exposure_search.specs.Exploring.{Exploring, exploring_of, space_size, most_labels, CanExpose, GainsAt, HasGoalAt, HasMatchAt, HasTry, IsRunBeyond, IsFounded}
use Rattle.exposure_search.specs.Relevance.{IsWanted, AreRelevant}
use Rattle.exposure_search.specs.Spaces.{open_walk}
use Rattle.exposure_search.specs.Sets.{none_same, picked_at, picked_back, within_got}
use Rattle.exposure_search.proofs.Gaining.{AreGains, thinned}
use Rattle.exposure_search.proofs.Sparing.{spared}
use Rattle.exposure_search.proofs.Bridging.{least_exposing, exposed_base}
use Rattle.exposure_search.proofs.Trying.{try_run}
use Rattle.exposure_search.proofs.Logs.{laid, lies}
use Rattle.exposure_search.proofs.Steps.{walked}

-- a match at a node's set, as exposures at the node's cost
pub node_exposes : (space : Exploring) (node : Node) → IsNode (space_size space) (CanExpose space) node → HasMatchAt space node.set.items →
    (made : List Exposure) × (copy : List Trigger) × (end : State) × (goal : Query) × IsExposing space.schema space.constants space.base.facts [] made
    × IsFiringRun space.schema.rules (record { facts = exposed_facts made; next = space.base.next }) copy end
    × Contains space.queries goal × IsQueryAnswer Const (GroundsOf end.facts) goal space.head × (exposures_cost made ≡ node.cost)
node_exposes space node is has =
    let w = walked space.schema space.constants space.base.facts node.path.items (no_facts (length space.base.facts)) node.set.items [] (none_same space.base.facts) (open_walk space node.path.items (no_facts (length space.base.facts)) node.set.items is.walk) in
    let same = w.same in
    let (end, run, alike) = run_alike space.schema.rules has.copy (record { facts = picked space.base.facts node.set.items; next = space.base.next }) has.end (record { facts = exposed_facts w.made; next = space.base.next }) (record { to = same.to; from = same.from; next = refl }) has.run in
    let (a, are, e) = has.answer in
    (w.made, has.copy, end, has.goal, w.exposing, run, has.among, (a, (λ atom c. alike.to (ground a atom) (are atom c)), e), w.cost ∙ sym is.cost)

-- ---- least costs

-- beside a quiet state there are more facts, whose needed ones are among its own
module _ (schema : SchemaParts) (constants : List (List ℕ)) (base : State) (queries : List Query) (head : List Val)
    (Needed Relevant : Ground → Type 0)
    (closed : AreClosed schema constants base.facts base.next queries head Needed Relevant)
    (rules : RulesFit schema constants) (end : State) (facts : List Ground) (quiet : IsQuiet schema.rules end)
    (low : base.next ≤ end.next) (holds : (f : Ground) → Needed f → Contains facts f → Contains end.facts f) where
  needed_held : (f : Ground) → Needed f → Contains (end.facts ++ facts) f → Contains end.facts f
  needed_held f needs c =
      ⊎_elim (λ old. old) (λ more. holds f needs more) (Contains-append_cases end.facts facts f c)

  -- so the makers of needed facts are met in both
  makers_held : MakersAreMet schema.rules base.next Needed (end.facts ++ facts)
  makers_held trigger rule head is of_head wants body =
      let among = contains_got schema.rules trigger.rule rule is.numbered in
      let wanted : (atom : Atom) → Contains rule.body atom → Needed (ground (assigned trigger) atom) =
      λ atom c. closed.bodies trigger rule head atom is of_head c wants in
      let (b, ext) = quiet_meets schema.rules end rules.numbered quiet rule among (assigned trigger)
      (λ atom c. needed_held (ground (assigned trigger) atom) (wanted atom c) (body atom c)) in (
        b,
        record {
          agrees = ext.agrees;
          head = λ atom c. Contains-append_left end.facts facts (ground b atom) (ext.head atom c);
        },
      )

  -- and a goal of the facts is a match of the quiet state
  held_match : (limit most : ℕ) → ((rel n : ℕ) → IsFed schema.rules rel n → n ≤ limit) →
      AreNamed constants end.next end.facts → Fit schema end.facts → AreNamed constants base.next facts →
      Fit schema facts → end.next + new_labels schema.rules ≤ most →
      HasGoalOver schema constants queries head base.next most facts →
      (goal : Query) × Contains queries goal × IsQueryAnswer Const (GroundsOf end.facts) goal head
  held_match limit most short named fits more_named more_fits few has =
      let both : State = record { facts = end.facts ++ facts; next = end.next } in
      let both_named : AreNamed constants end.next (end.facts ++ facts) =
      λ f v c i. ⊎_elim (λ old. named f v old i)
      (λ new. named_more constants base.next end.next v low (more_named f v new i))
      (Contains-append_cases end.facts facts f c) in
      let both_fit : Fit schema (end.facts ++ facts) =
      λ f c. ⊎_elim (λ old. fits f old) (λ new. more_fits f new) (Contains-append_cases end.facts facts f c) in
      let (goal, among, (a, are, e)) =
      goal_lies schema constants queries head base.next most limit Needed facts both rules short closed.bodies
      makers_held both_named both_fit low few (λ f c. Contains-append_right end.facts facts f c) closed.images has in
      let makes : (atom : Atom) → Contains goal.atoms atom → Needed (ground a atom) =
      λ atom c.
      closed.images goal atom (ground a atom) among c (record { assignment = a; heads = e; makes = refl }) in
      (goal, among, (a, (λ atom c. needed_held (ground a atom) (makes atom c) (are atom c)), e))

-- the facts on which a match can rest stand among those of some exposures that gain something, and cost no more
pub record Enough (space : Exploring) (relevant : AreRelevant space.schema space.constants space.base.facts space.base.next
    space.queries space.head space.marks) (exposures : List Exposure) : Type 0 where
  pub kept : List Exposure
  pub exposing : IsExposing space.schema space.constants space.base.facts [] kept
  pub matter : (e : Exposure) → Contains kept e → Contains (picked space.base.facts space.marks.relevant.items) e.fact
  pub gains : AreGains space.constants (picked space.base.facts space.marks.needed.items) [] kept
  pub cheap : exposures_cost kept ≤ exposures_cost exposures
  pub holds : (f : Ground) → IsWanted space.queries space.head relevant.wanted f →
      Contains (exposed_facts exposures) f → Contains (exposed_facts kept) f

-- without those that are not relevant, and then without those that gain nothing
enough : (space : Exploring)
    (relevant : AreRelevant space.schema space.constants space.base.facts space.base.next space.queries space.head
    space.marks)
    (exposures : List Exposure) → IsExposing space.schema space.constants space.base.facts [] exposures →
    Enough space relevant exposures
enough space relevant exposures exposing =
    let base : List Ground = space.base.facts in
    let some = spared space.schema space.constants base (picked base space.marks.relevant.items)
    (λ fact other v c asks of has. relevant.closed.inputs fact other v c asks of has) [] [] exposures (λ f c. c)
    (λ f c. absurd (none f c)) (λ f n c. c) exposing in
    let thin = thinned space.schema space.constants base (picked base space.marks.needed.items) [] [] some.kept
    (λ f c. c) (λ v k. k) (λ f n c. c) some.exposing in
    let less : exposures_cost thin.kept ≤ exposures_cost some.kept = thin.cheap in
    let cheaper : exposures_cost some.kept ≤ exposures_cost exposures = some.cheap in
    record {
      kept = thin.kept;
      exposing = thin.exposing;
      matter = λ e c. some.matter e (thin.within e c);
      gains = thin.gains;
      cheap = omega arith;
      holds = λ f wants c.
          let of_base = exposed_base space.schema space.constants base exposures [] exposing f c in
          thin.holds f (relevant.needed f of_base wants) (some.holds f (relevant.closed.facts f of_base wants) c);
    }
  where
    none : (f : Ground) → Contains [] f → ⊥
    none f c = omega arith

-- a cost that is least over walks is least over exposures: those that are enough have a goal too
pub least_found : (space : Exploring) (best : ℕ) → IsFounded space → AreShort space.schema.rules →
    RulesFit space.schema space.constants → AreNamed space.constants space.base.next space.base.facts →
    Fit space.schema space.base.facts →
    IsLeastCost (space_size space) (CanGain (CanExpose space) (GainsAt space)) (HasGoalAt space) best →
    (exposures : List Exposure) → IsExposing space.schema space.constants space.base.facts [] exposures →
    HasGoalOver space.schema space.constants space.queries space.head space.base.next
    (most_labels space.schema.rules + new_labels space.schema.rules) (exposed_facts exposures) →
    best ≤ exposures_cost exposures
least_found space best founded short rules named fit least exposures exposing goal =
    let relevant = founded.relevant in
    let its : Enough space relevant exposures = enough space relevant exposures exposing in
    let of_base : AreIn (exposed_facts exposures) space.base.facts =
    λ f c. exposed_base space.schema space.constants space.base.facts exposures [] exposing f c in
    let has : HasGoalOver space.schema space.constants space.queries space.head space.base.next
    (most_labels space.schema.rules) (exposed_facts its.kept) =
    λ end rest.
    let top : end.next ≤ most_labels space.schema.rules = rest.few in
    held_match space.schema space.constants space.base space.queries space.head
    (IsWanted space.queries space.head relevant.wanted)
    (Contains (picked space.base.facts space.marks.relevant.items)) relevant.closed rules end
    (exposed_facts exposures) rest.quiet rest.low (λ f wants c. rest.grows f (its.holds f wants c))
    (length space.schema.rules) (most_labels space.schema.rules + new_labels space.schema.rules) short rest.named
    rest.fits (λ f v c i. named f v (of_base f c) i) (λ f c. fit f (of_base f c)) (omega arith) goal in
    let low : best ≤ exposures_cost its.kept =
    least_exposing space.schema space.constants space.base.facts space.marks space.queries space.head space.base.next
    (most_labels space.schema.rules) best founded.once least its.kept its.matter its.gains its.exposing has in
    let cheap : exposures_cost its.kept ≤ exposures_cost exposures = its.cheap in
    omega arith

-- a goal of a set is one of each larger set
pub goals_grown : (space : Exploring) → GoalsGrow (HasGoalAt space)
goals_grown space set larger has within =
    goal_stays space.schema space.constants space.queries space.head space.base.next
    (most_labels space.schema.rules) (most_labels space.schema.rules) (picked space.base.facts set)
    (picked space.base.facts larger) (omega arith) all_picked has
  where
    all_picked : AreIn (picked space.base.facts set) (picked space.base.facts larger)
    all_picked fact c =
        let (k, at, marked) = picked_back space.base.facts set fact c in
        picked_at space.base.facts larger k fact at (within_got set larger k within marked)

-- what bounds runs bounds tries
pub tries_within : (space : Exploring) (m n : ℕ) → IsFounded space → ((log : List Firing) (end : Proof) → IsRun space.schema space.constants 0 space.start log end → (length log ≤ m) × (exposures_in log ≤ n)) → AreRunsWithin (HasTry space) m n
tries_within space m n founded bounds path firings tried =
    let (log, end, run, long, shown) = try_run space.schema space.constants space.start space.log space.base tried.trial
    founded.none_exposed founded.none_copied founded.run founded.quiet tried.is in
    let (few, low) = bounds log end run in
    let many : firings ≡ length tried.trial.copy = tried.many in
    let moves : length tried.trial.exposures ≡ length path =
    sym (length-map tried.trial.exposures (λ (e : Exposure). e.fact)) ∙ ap length tried.along ∙ length_along space.base.facts path in
    (omega arith, omega arith)
  where
    length_along : (base : List Ground) (moves : List Move) → length (facts_along base moves) ≡ length moves
    length_along base [] = refl
    length_along base (move ∷ moves) = ap suc (length_along base moves)

-- a match is a goal
pub match_goal : (space : Exploring) (set : List Bool) → RulesFit space.schema space.constants → ((query : Query) → Contains space.queries query → QueryHasConstants space.constants query) → AreNamed space.constants space.base.next space.base.facts →
    ((v : Val) → Contains space.head v → IsNamed space.constants space.base.next v) → HasMatchAt space set → HasGoalAt space set
match_goal space set rules have named head_named has =
    goal_everywhere space.schema space.constants space.queries (record { facts = picked space.base.facts set; next = space.base.next }) space.head has.copy has.end has.goal (most_labels space.schema.rules) rules have
    (λ fact v among there. named fact v (of_base fact among) there) head_named has.run has.among has.answer
  where
    of_base : (fact : Ground) → Contains (picked space.base.facts set) fact → Contains space.base.facts fact
    of_base fact among = let (k, at, marked) = picked_back space.base.facts set fact among in contains_got space.base.facts k fact at

-- ---- the beginning

pub begins_only : (schema : SchemaParts) (proof : Proving) → IsBaseProof schema proof → OnlyExposes schema proof
begins_only schema proof is =
    let bases : List Trigger = is.bases in
    let its = laid schema proof is.run bases [] (is.log ∙ sym (append-nil (map Base bases))) in
    record {
      run = is.run;
      log = is.log ∙ sym (append-nil (map Base bases)) ∙ ap (λ b. map Base b ++ []) (sym its.bases_are) ∙ ap (λ m. map Base (bases_of (log_of proof)) ++ map exposure_of m) (sym its.made_are);
      quiet = is.quiet;
    }

-- nothing is exposed yet
pub begins_bare : (schema : SchemaParts) (proof : Proving) → IsBaseProof schema proof → proof.end.exposed ≡ []
begins_bare schema proof is =
    let bases : List Trigger = is.bases in
    let its = laid schema proof is.run bases [] (is.log ∙ sym (append-nil (map Base bases))) in
    (lies schema proof (begins_only schema proof is)).exposed ∙ ap facts_of its.made_are

pub founded : (schema : SchemaParts) (proof : Proving) (queries : List Query) (head : List Val) (budget : ℕ) (marks : Marks) → OnlyExposes schema proof → AreRelevant schema proof.constants proof.end.base proof.end.next queries head marks → IsFounded (exploring_of schema proof queries head budget marks)
founded schema proof queries head budget marks is relevant = record {
  none_exposed = is.run.none_exposed;
  none_copied = is.run.none_copied;
  run = (lies schema proof is).base;
  quiet = is.quiet;
  once = proof_once schema proof is.run;
  relevant = relevant;
}

-- as many firings as base firings
pub begins_long : (schema : SchemaParts) (proof : Proving) → IsBaseProof schema proof → length proof.entries ≡ length (bases_of (log_of proof))
begins_long schema proof is =
    let bases : List Trigger = is.bases in
    let log : log_of proof ≡ map Base bases = is.log in
    let one : length (log_of proof) ≡ length proof.entries = length-map proof.entries (λ (entry : Entry). entry.firing) in
    let two : length (map Base bases) ≡ length bases = length-map bases Base in
    let three : bases_of (log_of proof) ≡ bases = ap bases_of log ∙ based bases in
    sym one ∙ ap length log ∙ two ∙ ap length (sym three)
  where
    based : (bases : List Trigger) → bases_of (map Base bases) ≡ bases
    based [] = refl
    based (trigger ∷ bases) = ap (λ z. trigger ∷ z) (based bases)

-- ---- the base firings of a query

module _ (schema : SchemaParts) (old new : Proving) (none : old.entries ≡ []) (is : IsProofOf schema new) (its : Settles schema false old new) where
  log_is : log_of new ≡ map Base its.more
  log_is = its.log ∙ ap (λ (entries : List Entry). firings_of entries ++ map (firing_of false) its.more) none

  pub base_settled : IsQuiet schema.rules (base_state new.end) → IsBaseProof schema new
  base_settled quiet = record { run = is; bases = its.more; log = log_is; quiet = quiet }

  part_none : (bases : List Trigger) → last_part 0 (map Base bases) ≡ 0
  part_none [] = refl
  part_none (trigger ∷ bases) = part_none bases

  -- where a base trigger is active, the run goes on
  pub base_beyond : (known : List (List ℕ)) (start : Proof) (budget : ℕ) → old.constants ≡ known → old.start ≡ start → (budget ≤ length new.entries) × SomeActive schema.rules (base_state new.end) → IsRunBeyond schema known start budget
  base_beyond known start budget constants begun (low, (trigger, (rule, first))) =
      let run : IsRun schema known 0 start (log_of new) new.end =
      subst (λ p. IsRun schema known 0 p (log_of new) new.end) (its.start ∙ begun)
      (subst (λ c. IsRun schema c 0 new.start (log_of new) new.end) (its.constants ∙ constants) (written_run schema new.constants 0 new.start new.entries new.end is.written)) in
      let next : Proof = record new.end { base = (fired (base_state new.end) trigger rule).facts; next = (fired (base_state new.end) trigger rule).next } in
      let early : last_part 0 (log_of new) ≡ 0 = ap (last_part 0) log_is ∙ part_none its.more in
      let long : length (log_of new) ≡ length new.entries = length-map new.entries (λ (entry : Entry). entry.firing) in
      let both : length (log_of new ++ Base trigger ∷ []) ≡ length (log_of new) + length (Base trigger ∷ []) = length-append (log_of new) (Base trigger ∷ []) in
      record {
        log = log_of new ++ Base trigger ∷ [];
        end = next;
        run = plain_push schema known 0 start (log_of new) new.end (Base trigger) next run (omega arith) (rule, first, refl);
        beyond = omega arith;
      }

-- What settling the copy of exposures shows.
use Rattle.std.proofs.Common.{◌≡◌, ◌⊎◌, ℕ, ◌+◌, ◌^◌, ◌<◌, ◌≤◌, List, [], ◌∷◌, ◌++◌, length, map, Bool, true, false, Option, Some, None, refl, sym, ap, ◌∙◌, subst, inl, inr, ⊎_elim, arith}
use Rattle.std.specs.Prelude.{Contains, is_some, option_map, IfSome, IfNone}
use Rattle.std.specs.Bool.{then_some}
use Rattle.std.specs.List.{AllZip}
use Rattle.std.proofs.lemmas.List.{append-nil, length-map, length_push}
use Rattle.lists.proofs.Members.{contains_got}
use Rattle.meaning_laws.proofs.SameSets.{run_alike}
use Rattle.meaning_laws.specs.Trims.{AreIn}
use Rattle.meaning_laws.specs.Rests.{MakersAreMet}
use Rattle.meaning_laws.proofs.Keeping.{Keeps, run_keeps}
use Rattle.meaning_laws.proofs.Resting.{goal_lies}
use Rattle.meaning_laws.proofs.Carrying.{run_fires}
use Rattle.meaning.specs.declared.types.SchemaParts.{SchemaParts}
use Rattle.meaning.specs.declared.types.Ground.{Ground}
use Rattle.meaning.specs.declared.types.Query.{Query}
use Rattle.meaning.specs.declared.types.Rule.{Rule}
use Rattle.meaning.specs.declared.types.Trigger.{Trigger}
use Rattle.meaning.specs.declared.types.Val.{Val}
use Rattle.meaning.specs.declared.types.Firing.TheVariants.{Base}
use Rattle.meaning.specs.Triggers.{State, IsQuiet, IsFiringRun, ground, fired}
use Rattle.meaning.specs.Runs.{Proof, base_state, copy_state, HasGoal, IsBaseRun, IsFirstActive, IsRun}
use Rattle.meaning.specs.Extract.{exposed_facts}
use Rattle.homomorphism.specs.Bindings.{at}
use Rattle.rule_pass.specs.Levels.{AreShort}
use Rattle.rule_pass.specs.States.{SomeActive}
use Rattle.accessible_copy.specs.declared.entry.Entry.{Entry}
use Rattle.accessible_copy.proofs.Writing.{written_run}
use Rattle.accessible_copy.specs.declared.goals.Match.{Match}
use Rattle.accessible_copy.specs.declared.settling.Round.{Round}
use Rattle.accessible_copy.specs.declared.settling.Round.TheVariants.{Quiet, Done, Spent}
use Rattle.accessible_copy.specs.Known.{facts_of, known_values}
use Rattle.accessible_copy.specs.Written.{firing_of}
use Rattle.accessible_copy.specs.Rounds.{exposure_of}
use Rattle.accessible_copy.specs.Goals.{IsGoal}
use Rattle.accessible_copy.specs.Proving.{Proving, IsProofOf, log_of}
use Rattle.accessible_copy.specs.Settling.{Settles}
use Rattle.least_search.specs.declared.space.Move.{Move}
use Rattle.least_search.specs.declared.space.End.{End}
use Rattle.least_search.specs.declared.space.End.TheVariants as end
use Rattle.least_search.specs.Walks.{IsWalk, no_facts}
use Rattle.least_search.specs.Ends.{GoesOn}
use Rattle.exposure_search.specs.declared.marks.Marks.{Marks}
use Rattle.exposure_search.specs.Tries.{picked, IsOpen, IsMarked, Adds, HasMatchFrom}
use Rattle.exposure_search.specs.Making.{bases_of, GoesBeyond, OnlyExposes, SameBase, all_made, IsExposedBy, IsActiveMove, IsServed, IsStill}
use Rattle.exposure_search.specs.Relevance.{AreRelevant, IsWanted}
use Rattle.exposure_search.specs.Trials.{IsTrialAlong}
use Rattle.exposure_search.specs.Exploring.{exploring_of, most_labels, HasGoalAt, HasRunBeyond}
use Rattle.exposure_search.specs.Aims.{AreNamedFor}
use Rattle.exposure_search.specs.Visiting.{IsVisitEnd, AreMovesAt, IsReached}
use Rattle.exposure_search.specs.Sets.{AreSame, none_same}
use Rattle.exposure_search.proofs.Still.{makers_still}
use Rattle.exposure_search.proofs.Bridging.{exposed_base}
use Rattle.exposure_search.proofs.Logs.{lies, settled_run, settled_long, settled_on}
use Rattle.exposure_search.proofs.Steps.{IsWalked, walked}
use Rattle.exposure_search.proofs.Serving.{active_open, open_active, adds_same}

-- a match that was found
pub found_goal : (queries : List Query) (proof : Proof) (head : List Val) (found : Option Match) → is_some found ≡ true → IfSome found (λ (m : Match). IsGoal queries proof.copy head m.select m.assignment.vals) → HasGoal queries proof head
found_goal queries proof head None e is = absurd (cc)
found_goal queries proof head (Some m) e (query, named, its) = (query, contains_got queries m.select query named, (at m.assignment.vals, its.facts_are, its.head_is))

pub none_found : (queries : List Query) (proof : Proof) (head : List Val) (found : Option Match) → is_some found ≡ false → IfSome found (λ (m : Match). IsGoal queries proof.copy head m.select m.assignment.vals) → found ≡ None
none_found queries proof head None e is = refl
none_found queries proof head (Some m) e is = absurd (cc)

pub none_then : {X : Type 0} (P Q : Type 0) (found : Option X) → (P → Q) → IfNone found P → IfNone found Q
none_then P Q None f p = f p
none_then P Q (Some x) f p = tt

pub mapped_some : {X Y : Type 0} (f : X → Y) (found : Option X) (P : Y → Type 0) → IfSome found (λ x. P (f x)) → IfSome (option_map f found) P
mapped_some f None P is = tt
mapped_some f (Some x) P is = is

pub mapped_none : {X Y : Type 0} (f : X → Y) (found : Option X) (P : Type 0) → IfNone found P → IfNone (option_map f found) P
mapped_none f None P is = is
mapped_none f (Some x) P is = tt

-- a value that is kept where a test passed
pub kept_some : {X : Type 0} (b : Bool) (x : X) (P : X → Type 0) → (b ≡ true → P x) → IfSome (then_some b x) P
kept_some true x P is = is refl
kept_some false x P is = tt

pub kept_none : {X : Type 0} (b : Bool) (x : X) (P : Type 0) → (b ≡ false → P) → IfNone (then_some b x) P
kept_none true x P is = tt
kept_none false x P is = is refl

pub some_always : {X : Type 0} {P : Type 0} (found : Option X) → P → IfSome found (λ x. P)
some_always None p = tt
some_always (Some x) p = p

-- one more firing of the first active trigger
base_push : (rules : List Rule) (log : List Trigger) (state end : State) (trigger : Trigger) (rule : Rule) → IsBaseRun rules state log end → IsFirstActive rules end trigger rule → IsBaseRun rules state (log ++ trigger ∷ []) (fired end trigger rule)
base_push rules [] state end trigger rule run first = (rule, subst (λ s. IsFirstActive rules s trigger rule) run first, ap (λ s. fired s trigger rule) run)
base_push rules (one ∷ log) state end trigger rule (its, active, run) first = (its, active, base_push rules log (fired state one its) end trigger rule run first)

-- the same beginning gives the same space
pub same_space : (schema : SchemaParts) (queries : List Query) (head : List Val) (budget : ℕ) (marks : Marks) (old new : Proving) → SameBase old new → exploring_of schema new queries head budget marks ≡ exploring_of schema old queries head budget marks
same_space schema queries head budget marks old new same =
    let constants = same.constants in
    let start = same.start in
    let bases = same.bases in
    let base = same.base in
    (λ i. record { schema = schema; constants = constants i; start = start i; log = bases i; base = base i; queries = queries; head = head; budget = budget; marks = marks })

-- the same exposures
pub made_same : (old new : Proving) (path : List Move) → SameBase old new → new.exposed ≡ all_made old.end.base path → new.exposed ≡ all_made new.end.base path
made_same old new path same made = made ∙ ap (λ (s : State). all_made s.facts path) (sym same.base)

-- ---- the exposures of a path

module _ (schema : SchemaParts) (proof : Proving) (path : List Move) (set : List Bool) (is : OnlyExposes schema proof) (made : proof.exposed ≡ all_made proof.end.base path)
    (walk : IsWalk (IsOpen schema proof.constants proof.end.base) (no_facts (length proof.end.base)) path set) where
  pub path_walked : IsWalked schema proof.constants proof.end.base path (no_facts (length proof.end.base)) set []
  path_walked = walked schema proof.constants proof.end.base path (no_facts (length proof.end.base)) set [] (none_same proof.end.base) walk

  shown : proof.end.exposed ≡ exposed_facts path_walked.made
  shown = (lies schema proof is).exposed ∙ ap facts_of made ∙ path_walked.facts

  pub copied : proof.end.copy ≡ exposed_facts path_walked.made
  copied = (lies schema proof is).copy ∙ ap facts_of made ∙ path_walked.facts

  -- the facts of the set are exposed
  pub set_exposed : AreSame (picked proof.end.base set) proof.end.exposed
  set_exposed = subst (λ gs. AreSame (picked proof.end.base set) gs) (sym shown) path_walked.same

  -- the moves from the set
  pub moves_here : (queries : List Query) (head : List Val) (budget : ℕ) (marks : Marks) (ended : End) (below : ℕ) (moves : List Move) → ((move : Move) → Contains moves move → IsActiveMove schema proof move × IsMarked marks.relevant.items move.fact) →
      (GoesOn ended → (move : Move) → IsActiveMove schema proof move → IsMarked marks.relevant.items move.fact → Adds (known_values proof.constants proof.end.exposed) proof.end.base marks.needed.items move.fact → move.cost < below → IsServed moves move) → AreMovesAt (exploring_of schema proof queries head budget marks) set ended below moves
  moves_here queries head budget marks ended below moves active all = record {
    possible = λ move among. (active_open schema proof is.run path set walk set_exposed move (active move among).0, (active move among).1);
    complete = λ goes move can gains low. all goes move (open_active schema proof is.run path set walk set_exposed move can.0) can.1 (adds_same schema proof is.run (picked proof.end.base set) proof.end.exposed marks.needed.items move.fact set_exposed.from gains) low;
  }

-- ---- the settled copy

module _ (schema : SchemaParts) (queries : List Query) (head : List Val) (budget : ℕ) (marks : Marks) (proof settled : Proving) (path : List Move) (set : List Bool)
    (is : OnlyExposes schema proof) (its : IsProofOf schema settled) (settles : Settles schema true proof settled)
    (made : proof.exposed ≡ all_made proof.end.base path)
    (walk : IsWalk (IsOpen schema proof.constants proof.end.base) (no_facts (length proof.end.base)) path set) where
  abbrev pub trail : IsWalked schema proof.constants proof.end.base path (no_facts (length proof.end.base)) set []
  trail = path_walked schema proof path set is made walk

  -- the copy firings are a run from the exposed facts
  pub copy_base_run : IsBaseRun schema.rules (record { facts = exposed_facts trail.made; next = proof.end.next }) settles.more (copy_state settled.end)
  copy_base_run = subst (λ gs. IsBaseRun schema.rules (record { facts = gs; next = proof.end.next }) settles.more (copy_state settled.end)) (copied schema proof path set is made walk) (settled_run schema proof settled is.run its settles)

  pub copy_run : IsFiringRun schema.rules (record { facts = exposed_facts trail.made; next = proof.end.next }) settles.more (copy_state settled.end)
  copy_run = run_fires schema.rules settles.more (record { facts = exposed_facts trail.made; next = proof.end.next }) (copy_state settled.end) copy_base_run

  pub goal_matches : HasGoal queries settled.end head → HasMatchFrom schema queries head proof.end.next (picked proof.end.base set)
  goal_matches (goal, among, (a, are, e)) =
      let same = trail.same in
      let (other, run, alike) = run_alike schema.rules settles.more (record { facts = exposed_facts trail.made; next = proof.end.next }) (copy_state settled.end) (record { facts = picked proof.end.base set; next = proof.end.next })
      (record { to = same.from; from = same.to; next = refl }) copy_run in
      record { copy = settles.more; end = other; goal = goal; run = run; among = among; answer = (a, (λ atom c. alike.to (ground a atom) (are atom c)), e) }

  -- where names and arities are those that a search needs, and a proof can number the labels of the copy
  module _ (named : AreNamedFor schema proof.constants proof.end.base proof.end.next queries head)
      (few : settled.end.next ≤ 2 ^ 32) where
    -- what is exposed are base facts
    made_base : AreIn (exposed_facts trail.made) proof.end.base
    made_base f c = exposed_base schema proof.constants proof.end.base trail.made [] trail.exposing f c

    copy_keeps : Keeps schema proof.constants (record { facts = exposed_facts trail.made; next = proof.end.next })
        (copy_state settled.end)
    copy_keeps =
        run_keeps schema proof.constants settles.more
        (record { facts = exposed_facts trail.made; next = proof.end.next }) (copy_state settled.end) named.rules
        (λ f v c i. named.facts f v (made_base f c) i) (λ f c. named.fits f (made_base f c)) copy_run

    -- the copy has the facts of the set
    set_copied : AreIn (picked proof.end.base set) settled.end.copy
    set_copied f c = copy_keeps.grows f (trail.same.to f c)

    -- a settled copy without a match
    none_goal : IsQuiet schema.rules (copy_state settled.end) → (HasGoal queries settled.end head → ⊥) →
        HasGoalAt (exploring_of schema proof queries head budget marks) set → ⊥
    none_goal quiet none has =
        none (has (copy_state settled.end) (record {
          grows = set_copied;
          low = copy_keeps.next;
          few = omega arith;
          named = copy_keeps.named;
          fits = copy_keeps.fit;
          quiet = quiet;
        }))

    -- a copy without a match in which nothing is active, or no rule that can make what a match rests on can fire
    none_still : AreShort schema.rules →
        AreRelevant schema proof.constants proof.end.base proof.end.next queries head marks →
        IsStill schema.rules marks.makers.items (copy_state settled.end) → (HasGoal queries settled.end head → ⊥) →
        HasGoalAt (exploring_of schema proof queries head budget marks) set → ⊥
    none_still short relevant still none has = ⊎_elim (λ quiet. none_goal quiet none has)
        (λ cannot.
        let Wants : Ground → Type 0 = IsWanted queries head relevant.wanted in
        let met : MakersAreMet schema.rules proof.end.next Wants settled.end.copy =
        makers_still schema.rules proof.end.next Wants marks.makers.items relevant.makers settled.end.copy cannot in
        none (goal_lies schema proof.constants queries head proof.end.next (most_labels schema.rules)
        (length schema.rules) Wants (picked proof.end.base set) (copy_state settled.end) named.rules short
        relevant.closed.bodies met copy_keeps.named copy_keeps.fit copy_keeps.next (omega arith) set_copied
        relevant.closed.images has)) still

  -- what was tried
  tried : (count : ℕ) → count ≡ length settles.more → IsTrialAlong schema proof.constants (base_state proof.end) path count
  tried count many = record {
    trial = record { exposures = trail.made; copy = settles.more };
    is = record { end = copy_state settled.end; exposing = trail.exposing; copies = copy_base_run };
    along = sym trail.facts;
    cost = trail.cost;
    many = many;
  }

  -- where a copy trigger is active, one more firing can be tried
  tried_on : SomeActive schema.rules (copy_state settled.end) → (count : ℕ) → count ≡ length settles.more →
      IsTrialAlong schema proof.constants (base_state proof.end) path (count + 1)
  tried_on (trigger, (rule, first)) count many =
      let longer : length (settles.more ++ trigger ∷ []) ≡ length settles.more + 1 = length_push settles.more trigger in
      let run : IsBaseRun schema.rules (record { facts = exposed_facts trail.made; next = proof.end.next }) (settles.more ++ trigger ∷ [])
      (fired (copy_state settled.end) trigger rule) =
      base_push schema.rules settles.more (record { facts = exposed_facts trail.made; next = proof.end.next }) (copy_state settled.end)
      trigger rule copy_base_run first in
      record {
        trial = record { exposures = trail.made; copy = settles.more ++ trigger ∷ [] };
        is = record { end = fired (copy_state settled.end) trigger rule; exposing = trail.exposing; copies = run };
        along = sym trail.facts;
        cost = trail.cost;
        many = omega arith;
      }

  -- where the firings are spent, some run is longer
  pub runs_beyond : GoesBeyond schema budget settled → HasRunBeyond (exploring_of schema proof queries head budget marks)
  runs_beyond far = ⊎_elim
      (λ more.
      let long : length (log_of settled) ≡ length settled.entries = length-map settled.entries (λ (entry : Entry). entry.firing) in
      record {
        log = log_of settled;
        end = settled.end;
        run = subst (λ p. IsRun schema proof.constants 0 p (log_of settled) settled.end) settles.start
            (subst (λ k. IsRun schema k 0 settled.start (log_of settled) settled.end) settles.constants (written_run schema settled.constants 0 settled.start settled.entries settled.end its.written));
        beyond = omega arith;
      })
      (λ (low, some).
      let (log, last, run, long) = settled_on schema proof settled is its settles some in
      record { log = log; end = last; run = run; beyond = omega arith }) far

  pub visit_end : AreNamedFor schema proof.constants proof.end.base proof.end.next queries head → AreShort schema.rules → AreRelevant schema proof.constants proof.end.base proof.end.next queries head marks → (ended : End) (fired : ℕ) → (ended ≡ end.Goal → HasGoal queries settled.end head) → (ended ≡ end.NoGoal → IsStill schema.rules marks.makers.items (copy_state settled.end)) → (ended ≡ end.NoGoal → HasGoal queries settled.end head → ⊥) → (ended ≡ end.NoGoal → settled.end.next ≤ 2 ^ 32) →
      (ended ≡ end.FiringsSpent → GoesBeyond schema budget settled) → (ended ≡ end.UnitsSpent → SomeActive schema.rules (copy_state settled.end)) → length proof.entries + fired ≡ length settled.entries →
      IsVisitEnd (exploring_of schema proof queries head budget marks) path set ended fired
  visit_end named short relevant ended fired goal still none few long due counted =
      let added = settled_long schema proof settled settles in
      record {
        goal = λ e. goal_matches (goal e);
        none = λ e. none_still named (few e) short relevant (still e) (none e);
        long = λ e. runs_beyond (long e);
        due = λ e. tried_on (due e) fired (omega arith);
        run = tried fired (omega arith);
      }

  -- the proof that was reached
  pub reached_here : length settled.entries ≤ budget → IsReached (exploring_of schema proof queries head budget marks) path settled
  reached_here few = record {
    run = its;
    constants = settles.constants;
    start = settles.start;
    few = few;
    made = trail.made;
    copy = settles.more;
    log = settles.log ∙ ap (λ l. l ++ map (firing_of true) settles.more) is.log ∙ ap (λ m. map Base (bases_of (log_of proof)) ++ map exposure_of m ++ map (firing_of true) settles.more) (sym settles.exposed);
    shown = subst (λ l. AllZip (IsExposedBy schema) l trail.made) (sym made ∙ sym settles.exposed) trail.shown;
    exposing = trail.exposing;
    cost = trail.cost;
    copies = copy_run;
  }

  -- where there is no match, some run is longer or there is no goal
  pub none_reached : (ended : Round) → (ended ≡ Done → ⊥) → (ended ≡ Quiet → IsQuiet schema.rules (copy_state settled.end)) → (ended ≡ Spent → (budget ≤ length settled.entries) × SomeActive schema.rules (copy_state settled.end)) → (HasGoal queries settled.end head → ⊥) →
      AreNamedFor schema proof.constants proof.end.base proof.end.next queries head → settled.end.next ≤ 2 ^ 32 →
      HasRunBeyond (exploring_of schema proof queries head budget marks) ⊎ (HasGoalAt (exploring_of schema proof queries head budget marks) set → ⊥)
  none_reached Quiet going quiet spent none named few = inr (none_goal named few (quiet refl) none)
  none_reached Done going quiet spent none named few = absurd (going refl)
  none_reached Spent going quiet spent none named few = inl (runs_beyond (inr (spent refl)))

-- a proof without copy firings, as one that was settled by none
pub unsettled : (schema : SchemaParts) (proof : Proving) → Settles schema true proof proof
unsettled schema proof = record {
  more = [];
  log = sym (append-nil (log_of proof));
  constants = refl;
  start = refl;
  exposed = refl;
  stays = refl;
  ordered = λ can run. run;
}

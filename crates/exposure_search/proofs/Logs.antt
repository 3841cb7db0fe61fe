-- Logs of base firings, exposures and copy firings, and the proofs that they lead to.
use Rattle.std.proofs.Common.{◌≡◌, ℕ, zero, suc, ◌+◌, ◌≤◌, List, [], ◌∷◌, ◌++◌, ◌-◌, length, take, map, refl, sym, ap, ◌∙◌, subst, arith, append_assoc}
use Rattle.std.specs.Prelude.{true}
use Rattle.std.proofs.lemmas.List.{append-nil, length-append, map-append, length-map, take-map}
use Rattle.std.proofs.Math.Seq.{take-append-add, take-append_seam}
use Rattle.lists.proofs.Members.{some_injective}
use Rattle.meaning_laws.proofs.Running.{run_once, plain_split, plain_push}
use Rattle.meaning.specs.declared.types.SchemaParts.{SchemaParts}
use Rattle.meaning.specs.declared.types.Ground.{Ground}
use Rattle.meaning.specs.declared.types.Trigger.{Trigger}
use Rattle.meaning.specs.declared.types.Firing.{Firing}
use Rattle.meaning.specs.declared.types.Firing.TheVariants.{Base, Copy, Expose}
use Rattle.meaning.specs.Triggers.{State, fired, IsQuiet}
use Rattle.meaning.specs.Runs.{Proof, base_state, copy_state, last_part, IsBaseRun, IsRun, IsBaseQuiet}
use Rattle.rule_pass.specs.States.{SomeActive}
use Rattle.accessible_copy.specs.declared.entry.Entry.{Entry}
use Rattle.accessible_copy.specs.declared.entry.Exposed.{Exposed}
use Rattle.accessible_copy.specs.Known.{facts_of}
use Rattle.accessible_copy.specs.Written.{firing_of}
use Rattle.accessible_copy.specs.Proving.{Proving, IsProofOf, log_of, firings_of, sizes_of}
use Rattle.accessible_copy.specs.Rounds.{exposure_of}
use Rattle.accessible_copy.specs.Settling.{Settles}
use Rattle.accessible_copy.specs.Exposing.{with_exposure}
use Rattle.accessible_copy.proofs.Writing.{written_run, firings_on}
use Rattle.accessible_copy.proofs.PassEntries.{part_low}
use Rattle.exposure_search.specs.Making.{bases_of, OnlyExposes, SameBase}
use Rattle.exposure_search.proofs.Trying.{quiet_later}
use Rattle.accessible_copy.proofs.Shown.{shown_in, shown_of}

-- ---- what a log has

-- the exposed facts of a log
shown_made : (bases : List Trigger) (made : List Exposed) → shown_of (map Base bases ++ map exposure_of made) ≡ made
shown_made [] [] = refl
shown_made [] (one ∷ made) = ap (λ z. one ∷ z) (shown_made [] made)
shown_made (trigger ∷ bases) made = shown_made bases made

bases_made : (bases : List Trigger) (made : List Exposed) → bases_of (map Base bases ++ map exposure_of made) ≡ bases
bases_made [] [] = refl
bases_made [] (one ∷ made) = bases_made [] made
bases_made (trigger ∷ bases) made = ap (λ z. trigger ∷ z) (bases_made bases made)

-- ---- what runs of one kind of firings change

module _ (schema : SchemaParts) (constants : List (List ℕ)) where
  -- base firings at the front of a run
  pub bases_run : (proof : Proof) (bases : List Trigger) (more : List Firing) (end : Proof) → IsRun schema constants 0 proof (map Base bases ++ more) end →
      (middle : Proof) × IsBaseRun schema.rules (base_state proof) bases (base_state middle) × (middle.exposed ≡ proof.exposed) × (middle.copy ≡ proof.copy) × IsRun schema constants 0 middle more end
  bases_run proof [] more end run = (proof, refl, refl, refl, run)
  bases_run proof (trigger ∷ bases) more end (order, (next, (rule, is, e), rest)) =
      let (middle, bases_go, exposed, copy, tail) = bases_run next bases more end rest in
      let at : base_state next ≡ fired (base_state proof) trigger rule = ap base_state e in (
        middle,
        (rule, is, subst (λ s. IsBaseRun schema.rules s bases (base_state middle)) at bases_go),
        exposed ∙ ap (λ (p : Proof). p.exposed) e,
        copy ∙ ap (λ (p : Proof). p.copy) e,
        tail,
      )

  pub record IsShownRun (proof : Proof) (made : List Exposed) (end : Proof) : Type 0 where
    pub base : base_state end ≡ base_state proof
    pub exposed : end.exposed ≡ proof.exposed ++ facts_of made
    pub copy : end.copy ≡ proof.copy ++ facts_of made

  -- exposures
  pub shows_run : (part : ℕ) (proof : Proof) (made : List Exposed) (end : Proof) → IsRun schema constants part proof (map exposure_of made) end → IsShownRun proof made end
  shows_run part proof [] end e = record {
    base = ap base_state e;
    exposed = ap (λ (p : Proof). p.exposed) e ∙ sym (append-nil proof.exposed);
    copy = ap (λ (p : Proof). p.copy) e ∙ sym (append-nil proof.copy);
  }
  shows_run part proof (one ∷ made) end (order, (next, (method, is, quiet, e), rest)) =
      let its = shows_run 1 next made end rest in
      record {
        base = its.base ∙ ap base_state e;
        exposed = its.exposed ∙ ap (λ (p : Proof). p.exposed ++ facts_of made) e ∙ append_assoc proof.exposed (one.fact ∷ []) (facts_of made);
        copy = its.copy ∙ ap (λ (p : Proof). p.copy ++ facts_of made) e ∙ append_assoc proof.copy (one.fact ∷ []) (facts_of made);
      }

  -- copy firings
  pub copies_run : (part : ℕ) (proof : Proof) (copy : List Trigger) (end : Proof) → IsRun schema constants part proof (map (firing_of true) copy) end → IsBaseRun schema.rules (copy_state proof) copy (copy_state end)
  copies_run part proof [] end e = ap copy_state e
  copies_run part proof (trigger ∷ copy) end (order, (next, (rule, is, quiet, e), rest)) =
      let at : copy_state next ≡ fired (copy_state proof) trigger rule = ap copy_state e in
      (rule, is, subst (λ s. IsBaseRun schema.rules s copy (copy_state end)) at (copies_run 2 next copy end rest))

base_once : (schema : SchemaParts) (state : State) (log : List Trigger) (first second : State) → IsBaseRun schema.rules state log first → IsBaseRun schema.rules state log second → first ≡ second
base_once schema state [] first second e e' = e ∙ sym e'
base_once schema state (trigger ∷ log) first second (rule, is, run) (other, its, run') =
    let same : rule ≡ other = some_injective rule other (sym is.active.trigger_is.numbered ∙ its.active.trigger_is.numbered) in
    base_once schema (fired state trigger rule) log first second run (subst (λ r. IsBaseRun schema.rules (fired state trigger r) log second) (sym same) run')

-- ---- proofs by their logs

module _ (schema : SchemaParts) where
  run_of : (proof : Proving) → IsProofOf schema proof → IsRun schema proof.constants 0 proof.start (log_of proof) proof.end
  run_of proof is = written_run schema proof.constants 0 proof.start proof.entries proof.end is.written

  shown : (proof : Proving) → IsProofOf schema proof → proof.exposed ≡ shown_of (log_of proof)
  shown proof is = is.exposed ∙ shown_in proof.entries

  -- a proof whose log is base firings and exposures
  pub record IsLaid (proof : Proving) (bases : List Trigger) (made : List Exposed) : Type 0 where
    pub bases_are : bases_of (log_of proof) ≡ bases
    pub made_are : proof.exposed ≡ made
    pub base : IsBaseRun schema.rules (base_state proof.start) bases (base_state proof.end)
    pub exposed : proof.end.exposed ≡ facts_of made
    pub copy : proof.end.copy ≡ facts_of made

  pub laid : (proof : Proving) → IsProofOf schema proof → (bases : List Trigger) (made : List Exposed) → log_of proof ≡ map Base bases ++ map exposure_of made → IsLaid proof bases made
  laid proof is bases made log =
      let run : IsRun schema proof.constants 0 proof.start (map Base bases ++ map exposure_of made) proof.end = subst (λ l. IsRun schema proof.constants 0 proof.start l proof.end) log (run_of proof is) in
      let (middle, base, exposed, copy, tail) = bases_run schema proof.constants proof.start bases (map exposure_of made) proof.end run in
      let its = shows_run schema proof.constants 0 middle made proof.end tail in
      record {
        bases_are = ap bases_of log ∙ bases_made bases made;
        made_are = shown proof is ∙ ap shown_of log ∙ shown_made bases made;
        base = subst (λ s. IsBaseRun schema.rules (base_state proof.start) bases s) (sym its.base) base;
        exposed = its.exposed ∙ ap (λ front. front ++ facts_of made) (exposed ∙ is.none_exposed);
        copy = its.copy ∙ ap (λ front. front ++ facts_of made) (copy ∙ is.none_copied);
      }

  pub lies : (proof : Proving) → OnlyExposes schema proof → IsLaid proof (bases_of (log_of proof)) proof.exposed
  lies proof is = laid proof is.run (bases_of (log_of proof)) proof.exposed is.log

  -- another proof with the same base firings
  pub goes_alike : (old new : Proving) (made : List Exposed) → OnlyExposes schema old → IsProofOf schema new → new.constants ≡ old.constants → new.start ≡ old.start → log_of new ≡ map Base (bases_of (log_of old)) ++ map exposure_of made →
      OnlyExposes schema new × SameBase old new × (new.exposed ≡ made)
  goes_alike old new made is its constants start log =
      let first = lies old is in
      let second = laid new its (bases_of (log_of old)) made log in
      let base : base_state new.end ≡ base_state old.end = base_once schema (base_state old.start) (bases_of (log_of old)) (base_state new.end) (base_state old.end) (subst (λ p. IsBaseRun schema.rules (base_state p) (bases_of (log_of old)) (base_state new.end)) start second.base) first.base in (
        record {
          run = its;
          log = log ∙ ap (λ b. map Base b ++ map exposure_of made) (sym second.bases_are) ∙ ap (λ m. map Base (bases_of (log_of new)) ++ map exposure_of m) (sym second.made_are);
          quiet = subst (λ s. IsQuiet schema.rules s) (sym base) is.quiet;
        },
        record { constants = constants; start = start; bases = second.bases_are; base = base },
        second.made_are,
      )

  -- after one more exposure
  pub goes_exposed : (old new : Proving) (number : ℕ) (fact : Ground) → OnlyExposes schema old → IsProofOf schema new → new ≡ with_exposure old number fact →
      OnlyExposes schema new × SameBase old new × (new.exposed ≡ old.exposed ++ record { method = number; fact = fact } ∷ [])
  goes_exposed old new number fact is its e =
      let one : Exposed = record { method = number; fact = fact } in
      let entry : Entry = record { firing = Expose number fact; before = sizes_of old.constants old.end } in
      goes_alike old new (old.exposed ++ one ∷ []) is its (ap (λ (p : Proving). p.constants) e) (ap (λ (p : Proving). p.start) e)
      (ap (λ (p : Proving). log_of p) e ∙ firings_on old.entries (entry ∷ []) ∙ ap (λ l. l ++ Expose number fact ∷ []) is.log
      ∙ append_assoc (map Base (bases_of (log_of old))) (map exposure_of old.exposed) (Expose number fact ∷ [])
      ∙ ap (λ l. map Base (bases_of (log_of old)) ++ l) (sym (map-append exposure_of old.exposed (one ∷ []))))

  -- after the last exposures were undone
  pub goes_cut : (old new : Proving) (count : ℕ) → OnlyExposes schema old → IsProofOf schema new → new.constants ≡ old.constants → new.start ≡ old.start → new.entries ≡ take (length (bases_of (log_of old)) + count) old.entries →
      OnlyExposes schema new × SameBase old new × (new.exposed ≡ take count old.exposed)
  goes_cut old new count is its constants start entries =
      let bases : List Trigger = bases_of (log_of old) in
      let long : length (map Base bases) ≡ length bases = length-map bases Base in
      goes_alike old new (take count old.exposed) is its constants start
      (ap firings_of entries ∙ sym (take-map (λ (entry : Entry). entry.firing) (length bases + count) old.entries) ∙ ap (take (length bases + count)) is.log
      ∙ ap (λ n. take (n + count) (map Base bases ++ map exposure_of old.exposed)) (sym long)
      ∙ take-append-add (map Base bases) (map exposure_of old.exposed) count
      ∙ ap (λ l. map Base bases ++ l) (take-map exposure_of count old.exposed))

  -- how long the log is
  pub lies_long : (proof : Proving) → OnlyExposes schema proof → length proof.entries ≡ length (bases_of (log_of proof)) + length proof.exposed
  lies_long proof is =
      let bases : List Trigger = bases_of (log_of proof) in
      let all : length (log_of proof) ≡ length (map Base bases ++ map exposure_of proof.exposed) = ap length is.log in
      let both : length (map Base bases ++ map exposure_of proof.exposed) ≡ length (map Base bases) + length (map exposure_of proof.exposed) = length-append (map Base bases) (map exposure_of proof.exposed) in
      let one : length (log_of proof) ≡ length proof.entries = length-map proof.entries (λ (entry : Entry). entry.firing) in
      let two : length (map Base bases) ≡ length bases = length-map bases Base in
      let three : length (map exposure_of proof.exposed) ≡ length proof.exposed = length-map proof.exposed exposure_of in
      omega arith

  pub goes_cut_to : (old new : Proving) (firings bases count : ℕ) → OnlyExposes schema old → IsProofOf schema new → new.constants ≡ old.constants → new.start ≡ old.start → firings ≡ length old.entries → bases ≡ length (bases_of (log_of old)) → count ≤ length old.exposed →
      new.entries ≡ take (firings - (firings - bases - count)) old.entries → OnlyExposes schema new × SameBase old new × (new.exposed ≡ take count old.exposed)
  goes_cut_to old new firings bases count is its constants start all few low entries =
      let long : length old.entries ≡ length (bases_of (log_of old)) + length old.exposed = lies_long old is in
      let kept : firings - (firings - bases - count) ≡ length (bases_of (log_of old)) + count = omega arith in
      goes_cut old new count is its constants start (entries ∙ ap (λ n. take n old.entries) kept)

  -- the part that the log has reached
  pub lies_early : (proof : Proving) → OnlyExposes schema proof → last_part 0 (log_of proof) ≤ 1
  lies_early proof is = subst (λ l. last_part 0 l ≤ 1) (sym is.log) (early 0 (bases_of (log_of proof)) proof.exposed (omega arith))
    where
      early : (part : ℕ) (bases : List Trigger) (made : List Exposed) → part ≤ 1 → last_part part (map Base bases ++ map exposure_of made) ≤ 1
      early part [] [] low = low
      early part [] (one ∷ made) low = early 1 [] made (omega arith)
      early part (trigger ∷ bases) made low = early 0 bases made (omega arith)

  -- after copy firings were undone
  pub goes_back : (old settled new : Proving) → OnlyExposes schema old → Settles schema true old settled → IsProofOf schema new → new.constants ≡ settled.constants → new.start ≡ settled.start → new.entries ≡ take (length old.entries) settled.entries →
      OnlyExposes schema new × SameBase old new × (new.exposed ≡ old.exposed)
  goes_back old settled new is its of constants start entries =
      let long : length (log_of old) ≡ length old.entries = length-map old.entries (λ (entry : Entry). entry.firing) in
      goes_alike old new old.exposed is of (constants ∙ its.constants) (start ∙ its.start)
      (ap firings_of entries ∙ sym (take-map (λ (entry : Entry). entry.firing) (length old.entries) settled.entries) ∙ ap (take (length old.entries)) its.log
      ∙ ap (λ n. take n (log_of old ++ map (firing_of true) its.more)) (sym long)
      ∙ take-append_seam (log_of old) (map (firing_of true) its.more) ∙ is.log)

  -- ---- settled copies

  -- the copy firings are a base run from the exposed facts
  pub settled_run : (old settled : Proving) → IsProofOf schema old → IsProofOf schema settled → (its : Settles schema true old settled) → IsBaseRun schema.rules (copy_state old.end) its.more (copy_state settled.end)
  settled_run old settled is of its =
      let run : IsRun schema old.constants 0 old.start (log_of old ++ map (firing_of true) its.more) settled.end =
      subst (λ l. IsRun schema old.constants 0 old.start l settled.end) its.log
      (subst (λ p. IsRun schema old.constants 0 p (log_of settled) settled.end) its.start
      (subst (λ c. IsRun schema c 0 settled.start (log_of settled) settled.end) its.constants (run_of settled of))) in
      let (middle, front, rest) = plain_split schema old.constants 0 old.start (log_of old) (map (firing_of true) its.more) settled.end run in
      let same : middle ≡ old.end = run_once schema old.constants 0 0 old.start (log_of old) middle old.end front (run_of old is) in
      copies_run schema old.constants (last_part 0 (log_of old)) old.end its.more settled.end (subst (λ p. IsRun schema old.constants (last_part 0 (log_of old)) p (map (firing_of true) its.more) settled.end) same rest)

  pub settled_long : (old settled : Proving) → (its : Settles schema true old settled) → length settled.entries ≡ length old.entries + length its.more
  settled_long old settled its =
      let all : length (log_of settled) ≡ length (log_of old ++ map (firing_of true) its.more) = ap length its.log in
      let both : length (log_of old ++ map (firing_of true) its.more) ≡ length (log_of old) + length (map (firing_of true) its.more) = length-append (log_of old) (map (firing_of true) its.more) in
      let one : length (log_of settled) ≡ length settled.entries = length-map settled.entries (λ (entry : Entry). entry.firing) in
      let two : length (log_of old) ≡ length old.entries = length-map old.entries (λ (entry : Entry). entry.firing) in
      let three : length (map (firing_of true) its.more) ≡ length its.more = length-map its.more (firing_of true) in
      omega arith

  -- where a copy trigger is active at the end, the run goes on
  pub settled_on : (old settled : Proving) → OnlyExposes schema old → IsProofOf schema settled → Settles schema true old settled → SomeActive schema.rules (copy_state settled.end) →
      (log : List Firing) × (end : Proof) × IsRun schema old.constants 0 old.start log end × (length log ≡ length settled.entries + 1)
  settled_on old settled is of its (trigger, (rule, first)) =
      let run : IsRun schema old.constants 0 old.start (log_of settled) settled.end =
      subst (λ p. IsRun schema old.constants 0 p (log_of settled) settled.end) its.start
      (subst (λ c. IsRun schema c 0 settled.start (log_of settled) settled.end) its.constants (run_of settled of)) in
      let quiet : IsBaseQuiet schema settled.end = subst (λ facts. IsQuiet schema.rules (record { facts = facts; next = settled.end.next })) (sym its.stays) (quiet_later schema.rules old.end.base old.end.next settled.end.next is.quiet) in
      let next : Proof = record settled.end { copy = (fired (copy_state settled.end) trigger rule).facts; next = (fired (copy_state settled.end) trigger rule).next } in
      let long : length (log_of settled) ≡ length settled.entries = length-map settled.entries (λ (entry : Entry). entry.firing) in
      let both : length (log_of settled ++ Copy trigger ∷ []) ≡ length (log_of settled) + length (Copy trigger ∷ []) = length-append (log_of settled) (Copy trigger ∷ []) in
      (log_of settled ++ Copy trigger ∷ [], next, plain_push schema old.constants 0 old.start (log_of settled) settled.end (Copy trigger) next run (part_low 0 (log_of settled) (omega arith)) (rule, first, quiet, refl), omega arith)

-- the same beginning, twice
pub same_on : (first second third : Proving) → SameBase first second → SameBase second third → SameBase first third
same_on first second third one two = record {
  constants = two.constants ∙ one.constants;
  start = two.start ∙ one.start;
  bases = two.bases ∙ one.bases;
  base = two.base ∙ one.base;
}

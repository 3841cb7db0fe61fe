-- Passes of one kind as entries of a log.
use Rattle.std.proofs.Common.{◌≡◌, ℕ, ◌+◌, ◌*◌, ◌≤◌, List, [], ◌∷◌, ◌++◌, length, map, refl, sym, ap, ◌∙◌, subst, arith, append_assoc, Bool, true, false}
use Rattle.std.proofs.lemmas.List.{append-nil}
use Rattle.lists.proofs.Members.{contains_got}
use Rattle.meaning.specs.declared.types.SchemaParts.{SchemaParts}
use Rattle.meaning.specs.declared.types.Rule.{Rule}
use Rattle.meaning.specs.declared.types.Trigger.{Trigger}
use Rattle.meaning.specs.declared.types.Firing.{Firing}
use Rattle.meaning.specs.declared.types.Firing.TheVariants.{Base, Copy, Expose}
use Rattle.meaning.specs.declared.types.Val.TheVariants.{Const}
use Rattle.meaning.specs.Matching.{MeetsAll, GroundsOf}
use Rattle.meaning.specs.Triggers.{State, fired}
use Rattle.meaning.specs.Runs.{Proof, base_state, copy_state, Fires, part_of, last_part, IsFirstActive, IsBaseRun, IsOrderedRun}
use Rattle.access_schema.specs.declared.limits.TheConstants.{MOST_VARIABLES}
use Rattle.rule_pass.specs.Orderly.{AreOrderly}
use Rattle.rule_pass.specs.States.{IsPass, Goes}
use Rattle.rule_pass.proofs.OnePass.{met_quiet}
use Rattle.rule_pass.proofs.Parts.{base_run, copy_run}
use Rattle.accessible_copy.specs.declared.entry.Sizes.{Sizes}
use Rattle.accessible_copy.specs.declared.entry.Entry.{Entry}
use Rattle.accessible_copy.specs.Known.{known_values}
use Rattle.accessible_copy.specs.Written.{Written, logged, firing_of}
use Rattle.accessible_copy.specs.Proving.{Proving, firings_of, log_of, exposed_in, sizes_of, IsWritten, IsProofOf}
use Rattle.accessible_copy.specs.Settling.{Settles}
use Rattle.accessible_copy.proofs.Writing.{exposed_on, firings_on, written_on}

-- a pass is a base run, whatever its log
pub pass_runs : {L : Type 0} (logged : L → Trigger → ℕ → L) (schema : SchemaParts) (first now : State) (before log : L) (more : List Trigger) → IsPass logged schema.rules first before more now log → IsBaseRun schema.rules first more now
pass_runs logged schema first now before log [] (e, e') = e
pass_runs logged schema first now before log (trigger ∷ more) (rule, is, pass) = (rule, is, pass_runs logged schema (fired first trigger rule) now (logged before trigger (length first.facts)) log more pass)

pub ordered_on : (schema : SchemaParts) (constants : List (List ℕ)) (part : ℕ) (proof : Proof) (log : List Firing) (middle : Proof) (more : List Firing) (end : Proof) → IsOrderedRun schema constants part proof log middle
    → IsOrderedRun schema constants (last_part part log) middle more end → IsOrderedRun schema constants part proof (log ++ more) end
ordered_on schema constants part proof [] middle more end e rest = subst (λ p. IsOrderedRun schema constants part p more end) e rest
ordered_on schema constants part proof (firing ∷ log) middle more end (order, waits, (next, fires, before)) rest =
    (order, waits, (next, fires, ordered_on schema constants (part_of firing) next log middle more end before rest))

pub part_low : (part : ℕ) (log : List Firing) → part ≤ 2 → last_part part log ≤ 2
part_low part [] l = l
part_low part (Base trigger ∷ log) l = part_low 0 log (omega arith)
part_low part (Expose number fact ∷ log) l = part_low 1 log (omega arith)
part_low part (Copy trigger ∷ log) l = part_low 2 log (omega arith)

module _ (schema : SchemaParts) (constants : List (List ℕ)) where
  -- how far the next label goes
  pub written_labels : (part : ℕ) (proof : Proof) (entries : List Entry) (end : Proof) → AreOrderly schema.rules → IsWritten schema constants part proof entries end → end.next ≤ proof.next + length entries * MOST_VARIABLES
  written_labels part proof [] end orderly e = let same : end.next ≡ proof.next = ap (λ (p : Proof). p.next) e in omega arith
  written_labels part proof (entry ∷ entries) end orderly (order, sizes, (next, fires, more)) =
      let rest = written_labels (part_of entry.firing) next entries end orderly more in let one = by entry.firing fires in omega arith
    where
      by : (firing : Firing) → Fires schema constants proof firing next → next.next ≤ proof.next + MOST_VARIABLES
      by (Base trigger) (rule, is, e) =
          let same : next.next ≡ (fired (base_state proof) trigger rule).next = ap (λ (p : Proof). p.next) e in
          let fresh = is.active.next in
          let few = orderly.variables rule (contains_got schema.rules trigger.rule rule is.active.trigger_is.numbered) in omega arith
      by (Copy trigger) (rule, is, quiet, e) =
          let same : next.next ≡ (fired (copy_state proof) trigger rule).next = ap (λ (p : Proof). p.next) e in
          let fresh = is.active.next in
          let few = orderly.variables rule (contains_got schema.rules trigger.rule rule is.active.trigger_is.numbered) in omega arith
      by (Expose number fact) (method, is, quiet, e) = let same : next.next ≡ proof.next = ap (λ (p : Proof). p.next) e in omega arith

  -- the entries that a pass added
  pub record Passed (copies : Bool) (part : ℕ) (proof : Proof) (before : List Entry) (more : List Trigger) (end : Proof) (after : List Entry) : Type 0 where
    pub added : List Entry
    pub after_is : after ≡ before ++ added
    pub firings : firings_of added ≡ map (firing_of copies) more
    pub written : IsWritten schema constants part proof added end
    pub shown : exposed_in added ≡ []
    pub later : proof.next ≤ end.next

  pub base_pass : (part : ℕ) (proof : Proof) (more : List Trigger) (entries : List Entry) (held : Sizes) (now : State) (log : Written) → ((trigger : Trigger) (rule : Rule) → IsFirstActive schema.rules (base_state proof) trigger rule → part ≡ 0) → held.exposed ≡ length proof.exposed → held.copy ≡ length proof.copy → held.known ≡ length (known_values constants proof.exposed)
      → IsPass logged schema.rules (base_state proof) (record { entries = entries; copies = false; held = held }) more now log → Passed false part proof entries more (record proof { base = now.facts; next = now.next }) log.entries
  base_pass part proof [] entries held now log low ex cp kn (e, e') = record {
    added = [];
    after_is = ap (λ (w : Written). w.entries) e' ∙ sym (append-nil entries);
    firings = refl;
    written = ap (λ (s : State). record proof { base = s.facts; next = s.next }) e;
    shown = refl;
    later = let same : now.next ≡ proof.next = ap (λ (s : State). s.next) e in omega arith;
  }
  base_pass part proof (trigger ∷ more) entries held now log low ex cp kn (rule, is, pass) =
      let next : Proof = record proof { base = (fired (base_state proof) trigger rule).facts; next = (fired (base_state proof) trigger rule).next } in
      let entry : Entry = record { firing = Base trigger; before = record held { base = length proof.base; next = trigger.fresh } } in
      let p = base_pass 0 next more (entries ++ entry ∷ []) held now log (λ other its active. refl) ex cp kn pass in
      let here : part ≡ 0 = low trigger rule is in
      let fresh = is.active.next in
      record {
        added = entry ∷ p.added;
        after_is = p.after_is ∙ append_assoc entries (entry ∷ []) p.added;
        firings = ap (λ z. Base trigger ∷ z) p.firings;
        written = (
          (omega arith),
          (λ i. record { base = length proof.base; exposed = ex i; copy = cp i; known = kn i; next = fresh i }),
          (next, (rule, is, refl), p.written),
        );
        shown = p.shown;
        later = let l = p.later in omega arith;
      }

  pub copy_pass : (part : ℕ) (proof : Proof) (more : List Trigger) (entries : List Entry) (held : Sizes) (now : State) (log : Written) → part ≤ 2 → held.exposed ≡ length proof.exposed → held.base ≡ length proof.base → held.known ≡ length (known_values constants proof.exposed)
      → MeetsAll Const (GroundsOf proof.base) schema.rules
      → IsPass logged schema.rules (copy_state proof) (record { entries = entries; copies = true; held = held }) more now log → Passed true part proof entries more (record proof { copy = now.facts; next = now.next }) log.entries
  copy_pass part proof [] entries held now log low ex bs kn meets (e, e') = record {
    added = [];
    after_is = ap (λ (w : Written). w.entries) e' ∙ sym (append-nil entries);
    firings = refl;
    written = ap (λ (s : State). record proof { copy = s.facts; next = s.next }) e;
    shown = refl;
    later = let same : now.next ≡ proof.next = ap (λ (s : State). s.next) e in omega arith;
  }
  copy_pass part proof (trigger ∷ more) entries held now log low ex bs kn meets (rule, is, pass) =
      let next : Proof = record proof { copy = (fired (copy_state proof) trigger rule).facts; next = (fired (copy_state proof) trigger rule).next } in
      let entry : Entry = record { firing = Copy trigger; before = record held { copy = length proof.copy; next = trigger.fresh } } in
      let p = copy_pass 2 next more (entries ++ entry ∷ []) held now log (omega arith) ex bs kn meets pass in
      let fresh = is.active.next in
      record {
        added = entry ∷ p.added;
        after_is = p.after_is ∙ append_assoc entries (entry ∷ []) p.added;
        firings = ap (λ z. Copy trigger ∷ z) p.firings;
        written = (
          low,
          (λ i. record { base = bs i; exposed = ex i; copy = length proof.copy; known = kn i; next = fresh i }),
          (next, (rule, is, met_quiet schema.rules (base_state proof) meets, refl), p.written),
        );
        shown = p.shown;
        later = let l = p.later in omega arith;
      }

-- a base run as a part of an ordered run, where it is empty or begins it
base_part : (schema : SchemaParts) (constants : List (List ℕ)) (part : ℕ) (proof : Proof) (more : List Trigger) (now : State) → ((trigger : Trigger) (rule : Rule) → IsFirstActive schema.rules (base_state proof) trigger rule → part ≡ 0) → IsBaseRun schema.rules (base_state proof) more now
    → IsOrderedRun schema constants part proof (map Base more) (record proof { base = now.facts; next = now.next })
base_part schema constants part proof [] now low run = base_run schema constants proof [] now run
base_part schema constants part proof (trigger ∷ more) now low (rule, is, run) =
    subst (λ n. IsOrderedRun schema constants n proof (Base trigger ∷ map Base more) (record proof { base = now.facts; next = now.next })) (sym (low trigger rule is)) (base_run schema constants proof (trigger ∷ more) now (rule, is, run))

-- a proof whose log goes on by a pass
abbrev pub base_after : Proving → List Entry → State → Proving
base_after proof entries now = record {
  constants = proof.constants;
  start = proof.start;
  exposed = proof.exposed;
  entries = entries;
  end = record { base = now.facts; exposed = proof.end.exposed; copy = proof.end.copy; next = now.next };
}

abbrev pub copy_after : Proving → List Entry → State → Proving
copy_after proof entries now = record {
  constants = proof.constants;
  start = proof.start;
  exposed = proof.exposed;
  entries = entries;
  end = record { base = proof.end.base; exposed = proof.end.exposed; copy = now.facts; next = now.next };
}

pub record IsSettled (schema : SchemaParts) (copies : Bool) (old new : Proving) : Type 0 where
  pub is : IsProofOf schema new
  pub settles : Settles schema copies old new
  pub later : old.end.next ≤ new.end.next

pub base_settled : (schema : SchemaParts) (proof : Proving) (held : Sizes) (log : Written) (now : State) → IsProofOf schema proof → ((trigger : Trigger) (rule : Rule) → IsFirstActive schema.rules (base_state proof.end) trigger rule → last_part 0 (log_of proof) ≡ 0) → held ≡ sizes_of proof.constants proof.end
    → Goes logged schema.rules (base_state proof.end) (record { entries = proof.entries; copies = false; held = held }) now log → IsSettled schema false proof (base_after proof log.entries now)
base_settled schema proof held log now is part sizes (more, pass) =
    let p = base_pass schema proof.constants (last_part 0 (log_of proof)) proof.end more proof.entries held now log part (ap (λ (s : Sizes). s.exposed) sizes) (ap (λ (s : Sizes). s.copy) sizes) (ap (λ (s : Sizes). s.known) sizes) pass in
    let logs : firings_of log.entries ≡ log_of proof ++ map Base more = ap firings_of p.after_is ∙ firings_on proof.entries p.added ∙ ap (λ l. log_of proof ++ l) p.firings in
    record {
      is = record {
        low = is.low;
        labels = is.labels;
        once = is.once;
        none_exposed = is.none_exposed;
        none_copied = is.none_copied;
        numbered = is.numbered;
        written = subst (λ es. IsWritten schema proof.constants 0 proof.start es (base_after proof log.entries now).end) (sym p.after_is) (written_on schema proof.constants 0 proof.start proof.entries proof.end p.added (base_after proof log.entries now).end is.written p.written);
        exposed = is.exposed ∙ sym (ap exposed_in p.after_is ∙ exposed_on proof.entries p.added ∙ ap (λ l. exposed_in proof.entries ++ l) p.shown ∙ append-nil (exposed_in proof.entries));
      };
      settles = record {
        more = more;
        log = logs;
        constants = refl;
        start = refl;
        exposed = refl;
        stays = refl;
        ordered = λ follow run. subst (λ l. IsOrderedRun schema proof.constants 0 proof.start l (base_after proof log.entries now).end) (sym logs)
            (ordered_on schema proof.constants 0 proof.start (log_of proof) proof.end (map Base more) (base_after proof log.entries now).end run
            (base_part schema proof.constants (last_part 0 (log_of proof)) proof.end more now part (pass_runs logged schema (base_state proof.end) now (record { entries = proof.entries; copies = false; held = held }) log more pass)));
      };
      later = p.later;
    }

pub copy_settled : (schema : SchemaParts) (proof : Proving) (held : Sizes) (log : Written) (now : State) → IsProofOf schema proof → MeetsAll Const (GroundsOf proof.end.base) schema.rules → held ≡ sizes_of proof.constants proof.end
    → Goes logged schema.rules (copy_state proof.end) (record { entries = proof.entries; copies = true; held = held }) now log → IsSettled schema true proof (copy_after proof log.entries now)
copy_settled schema proof held log now is meets sizes (more, pass) =
    let low = part_low 0 (log_of proof) (omega arith) in
    let p = copy_pass schema proof.constants (last_part 0 (log_of proof)) proof.end more proof.entries held now log low (ap (λ (s : Sizes). s.exposed) sizes) (ap (λ (s : Sizes). s.base) sizes) (ap (λ (s : Sizes). s.known) sizes) meets pass in
    let logs : firings_of log.entries ≡ log_of proof ++ map Copy more = ap firings_of p.after_is ∙ firings_on proof.entries p.added ∙ ap (λ l. log_of proof ++ l) p.firings in
    record {
      is = record {
        low = is.low;
        labels = is.labels;
        once = is.once;
        none_exposed = is.none_exposed;
        none_copied = is.none_copied;
        numbered = is.numbered;
        written = subst (λ es. IsWritten schema proof.constants 0 proof.start es (copy_after proof log.entries now).end) (sym p.after_is) (written_on schema proof.constants 0 proof.start proof.entries proof.end p.added (copy_after proof log.entries now).end is.written p.written);
        exposed = is.exposed ∙ sym (ap exposed_in p.after_is ∙ exposed_on proof.entries p.added ∙ ap (λ l. exposed_in proof.entries ++ l) p.shown ∙ append-nil (exposed_in proof.entries));
      };
      settles = record {
        more = more;
        log = logs;
        constants = refl;
        start = refl;
        exposed = refl;
        stays = refl;
        ordered = λ follow run. subst (λ l. IsOrderedRun schema proof.constants 0 proof.start l (copy_after proof log.entries now).end) (sym logs)
            (ordered_on schema proof.constants 0 proof.start (log_of proof) proof.end (map Copy more) (copy_after proof log.entries now).end run
            (copy_run schema proof.constants (last_part 0 (log_of proof)) proof.end more now low meets follow (pass_runs logged schema (copy_state proof.end) now (record { entries = proof.entries; copies = true; held = held }) log more pass)));
      };
      later = p.later;
    }

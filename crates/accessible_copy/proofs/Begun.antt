-- What a pass of one kind says of the proof before it: it fired nothing and left that as it was, or something was active there.
use Rattle.std.proofs.Common.{◌≡◌, ℕ, List, [], ◌∷◌, ◌++◌, length, map, refl, sym, ap, ◌∙◌, subst, inl, inr, ⊎_elim, arith, length-append, Bool, true, false}
use Rattle.std.specs.Prelude.{◌⊎◌}
use Rattle.std.proofs.lemmas.List.{append-nil, length-map}
use Rattle.meaning.specs.declared.types.SchemaParts.{SchemaParts}
use Rattle.meaning.specs.declared.types.Trigger.{Trigger}
use Rattle.meaning.specs.declared.types.Firing.{Firing}
use Rattle.meaning.specs.Runs.{Proof, last_part, IsRun}
use Rattle.meaning_laws.proofs.Running.{plain_split, run_once}
use Rattle.rule_pass.specs.States.{SomeActive}
use Rattle.accessible_copy.specs.declared.entry.Entry.{Entry}
use Rattle.accessible_copy.specs.Written.{firing_of}
use Rattle.accessible_copy.specs.Proving.{Proving, IsProofOf, IsWritten, log_of}
use Rattle.accessible_copy.specs.Settling.{Settles, Stays, kind_state}
use Rattle.accessible_copy.proofs.Writing.{written_run, written_once, same_log}

-- the first firing of a run was active
first_active : (schema : SchemaParts) (constants : List (List ℕ)) (copies : Bool) (part : ℕ) (proof : Proof) (trigger : Trigger) (log : List Firing) (end : Proof) → IsRun schema constants part proof (firing_of copies trigger ∷ log) end
    → SomeActive schema.rules (kind_state copies proof)
first_active schema constants true part proof trigger log end (order, (next, (rule, first, quiet, e), more)) = (trigger, (rule, first))
first_active schema constants false part proof trigger log end (order, (next, (rule, first, e), more)) = (trigger, (rule, first))

-- no firing at all
pub settled_none : (schema : SchemaParts) (copies : Bool) (proof : Proving) → Settles schema copies proof proof
settled_none schema copies proof = record {
  more = [];
  log = sym (append-nil (log_of proof));
  constants = refl;
  start = refl;
  exposed = refl;
  stays = stays copies;
  ordered = λ follow run. run;
}
  where
    stays : (kind : Bool) → Stays kind proof.end proof.end
    stays true = refl
    stays false = refl

module _ (schema : SchemaParts) (copies : Bool) (old new : Proving) (was : IsProofOf schema old) (is : IsProofOf schema new) (settles : Settles schema copies old new) where
  -- the new log, from where the old one began
  from_start : IsWritten schema old.constants 0 old.start new.entries new.end
  from_start = subst (λ start. IsWritten schema old.constants 0 start new.entries new.end) settles.start (subst (λ constants. IsWritten schema constants 0 new.start new.entries new.end) settles.constants is.written)

  without : settles.more ≡ [] → new ≡ old
  without none =
      let logs : log_of new ≡ log_of old = settles.log ∙ ap (λ (more : List Trigger). log_of old ++ map (firing_of copies) more) none ∙ append-nil (log_of old) in
      same_log schema new old is was settles.constants settles.start (written_once schema old.constants 0 0 old.start new.entries old.entries new.end old.end from_start was.written logs)

  with_one : (trigger : Trigger) (more : List Trigger) → settles.more ≡ trigger ∷ more → SomeActive schema.rules (kind_state copies old.end)
  with_one trigger more some =
      let log : List Firing = map (firing_of copies) more in
      let logs : log_of new ≡ log_of old ++ (firing_of copies trigger ∷ log) = settles.log ∙ ap (λ (all : List Trigger). log_of old ++ map (firing_of copies) all) some in
      let run : IsRun schema old.constants 0 old.start (log_of old ++ (firing_of copies trigger ∷ log)) new.end = subst (λ l. IsRun schema old.constants 0 old.start l new.end) logs (written_run schema old.constants 0 old.start new.entries new.end from_start) in
      let (middle, before, after) = plain_split schema old.constants 0 old.start (log_of old) (firing_of copies trigger ∷ log) new.end run in
      let same : middle ≡ old.end = run_once schema old.constants 0 0 old.start (log_of old) middle old.end before (written_run schema old.constants 0 old.start old.entries old.end was.written) in
      subst (λ p. SomeActive schema.rules (kind_state copies p)) same (first_active schema old.constants copies (last_part 0 (log_of old)) middle trigger log new.end after)

  -- nothing changed, or something of that kind was active
  pub settled_began : (new ≡ old) ⊎ SomeActive schema.rules (kind_state copies old.end)
  settled_began = by settles.more refl
    where
      by : (more : List Trigger) → settles.more ≡ more → (new ≡ old) ⊎ SomeActive schema.rules (kind_state copies old.end)
      by [] e = inl (without e)
      by (trigger ∷ more) e = inr (with_one trigger more e)

  -- a log that is as long is the same
  pub settled_still : length new.entries ≡ length old.entries → new ≡ old
  settled_still even = by settles.more refl
    where
      by : (more : List Trigger) → settles.more ≡ more → new ≡ old
      by [] e = without e
      by (trigger ∷ more) e =
          let logs : length (log_of new) ≡ length (log_of old ++ map (firing_of copies) (trigger ∷ more)) = ap length (settles.log ∙ ap (λ (all : List Trigger). log_of old ++ map (firing_of copies) all) e) in
          let joined = length-append (log_of old) (map (firing_of copies) (trigger ∷ more)) in
          let here = length-map new.entries (λ (entry : Entry). entry.firing) in
          let before = length-map old.entries (λ (entry : Entry). entry.firing) in
          absurd (omega arith)

  pub settled_grew : (length new.entries ≡ length old.entries → ⊥) → SomeActive schema.rules (kind_state copies old.end)
  settled_grew not = ⊎_elim (λ same. absurd (not (ap (λ (p : Proving). length p.entries) same))) (λ some. some) settled_began

  -- what is active at the end was so before, or something else was
  pub settled_spent : SomeActive schema.rules (kind_state copies new.end) → SomeActive schema.rules (kind_state copies old.end)
  settled_spent some = ⊎_elim (λ same. subst (λ (p : Proving). SomeActive schema.rules (kind_state copies p.end)) same some) (λ before. before) settled_began

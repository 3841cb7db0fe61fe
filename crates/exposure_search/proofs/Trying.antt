-- Base firings, exposures and copy firings make a run from the opening.
use Rattle.std.proofs.Common.{◌≡◌, ℕ, suc, ◌+◌, ◌<◌, ◌≤◌, List, [], ◌∷◌, ◌++◌, length, refl, sym, ap, ◌∙◌, subst, arith, append_assoc}
use Rattle.std.specs.Prelude.{Contains, slice_index_or, map}
use Rattle.std.proofs.lemmas.List.{append-nil}
use Rattle.meaning_laws.proofs.Joined.{joined_below}
use Rattle.meaning_laws.proofs.Carrying.{occurs_below}
use Rattle.meaning_laws.proofs.Deciding.{same_values}
use Rattle.exposure_search.specs.Sets.{got_contained}
use Rattle.meaning.specs.declared.types.Val.TheVariants.{Const, Label}
use Rattle.meaning.specs.declared.types.Rule.{Rule}
use Rattle.meaning.specs.declared.types.Ground.{Ground}
use Rattle.meaning.specs.declared.types.SchemaParts.{SchemaParts}
use Rattle.meaning.specs.declared.types.Trigger.{Trigger}
use Rattle.meaning.specs.declared.types.Firing.{Firing}
use Rattle.meaning.specs.declared.types.Firing.TheVariants.{Base, Copy, Expose}
use Rattle.meaning.specs.Matching.{OccursIn}
use Rattle.meaning.specs.Runs.{Proof, base_state, copy_state, IsRun, IsBaseRun, IsBaseQuiet}
use Rattle.meaning.specs.Triggers.{State, bound, assigned, fired, IsActive}
use Rattle.meaning.specs.Extract.{Exposure, exposed_facts, IsExposing}
use Rattle.exposure_search.specs.Tries.{exposures_in}
use Rattle.exposure_search.specs.Trials.{Trial, IsTrial}

module _ (rules : List Rule) (facts : List Ground) where
  -- the body's values don't depend on the new labels
  same_below : (trigger other : Trigger) (x : ℕ) → other.values ≡ trigger.values → x < length trigger.values → assigned other x ≡ assigned trigger x
  same_below trigger other x e l =
      joined_below (length other.values) (λ i. slice_index_or other.values i (Label 0)) (λ i. Label (other.fresh + i)) x (subst (λ vs. x < length vs) (sym e) l)
      ∙ ap (λ vs. slice_index_or vs x (Label 0)) e
      ∙ sym (joined_below (length trigger.values) (λ i. slice_index_or trigger.values i (Label 0)) (λ i. Label (trigger.fresh + i)) x l)

  -- a state that is quiet is so at any next label
  pub quiet_later : (m n : ℕ) → ((trigger : Trigger) (rule : Rule) → IsActive rules (record { facts = facts; next = m }) trigger rule → ⊥) → (trigger : Trigger) (rule : Rule) → IsActive rules (record { facts = facts; next = n }) trigger rule → ⊥
  quiet_later m n quiet trigger rule active = quiet other rule (record {
    trigger_is = record {
      numbered = active.trigger_is.numbered;
      width = active.trigger_is.width;
      fresh = omega arith;
      body = λ atom among. subst (λ vals. Contains facts (record { rel = atom.rel; vals = vals }))
          (same_values Const (assigned trigger) (assigned other) atom.terms (λ x c. sym (at x (atom, among, c)))) (active.trigger_is.body atom among);
    };
    next = refl;
    unmet = λ b ext. active.unmet b (record { agrees = λ x occurs. ext.agrees x occurs ∙ at x occurs; head = ext.head });
  })
    where
      other : Trigger
      other = record { rule = trigger.rule; values = trigger.values; fresh = m }

      at : (x : ℕ) → OccursIn rule.body x → assigned (record { rule = trigger.rule; values = trigger.values; fresh = m }) x ≡ assigned trigger x
      at x occurs = same_below trigger (record { rule = trigger.rule; values = trigger.values; fresh = m }) x refl (let l : x < bound rule.body = occurs_below rule.body x occurs in let w : length trigger.values ≡ bound rule.body = active.trigger_is.width in omega arith)

module _ (schema : SchemaParts) (constants : List (List ℕ)) where
  base_part : (proof : Proof) (log : List Trigger) (end : State) → IsBaseRun schema.rules (base_state proof) log end → IsRun schema constants 0 proof (map Base log) (record proof { base = end.facts; next = end.next })
  base_part proof [] end e = ap (λ (s : State). record proof { base = s.facts; next = s.next }) e
  base_part proof (trigger ∷ log) end (rule, first, more) =
      (omega arith, (record proof { base = (fired (base_state proof) trigger rule).facts; next = (fired (base_state proof) trigger rule).next }, (rule, first, refl), base_part (record proof { base = (fired (base_state proof) trigger rule).facts; next = (fired (base_state proof) trigger rule).next }) log end more))

  copy_part : (part : ℕ) → part ≤ 2 → (proof : Proof) (log : List Trigger) (end : State) → IsBaseQuiet schema proof → IsBaseRun schema.rules (copy_state proof) log end → IsRun schema constants part proof (map Copy log) (record proof { copy = end.facts; next = end.next })
  copy_part part low proof [] end quiet e = ap (λ (s : State). record proof { copy = s.facts; next = s.next }) e
  copy_part part low proof (trigger ∷ log) end quiet (rule, first, more) =
      let next : Proof = record proof { copy = (fired (copy_state proof) trigger rule).facts; next = (fired (copy_state proof) trigger rule).next } in
      (low, (next, (rule, first, quiet, refl), copy_part 2 (omega arith) next log end (quiet_later schema.rules proof.base proof.next (fired (copy_state proof) trigger rule).next quiet) more))

  -- exposures in order, and then whatever goes on from there
  expose_part : (part : ℕ) → part ≤ 1 → (proof : Proof) (exposures : List Exposure) (more : List Firing) (end : Proof) → IsBaseQuiet schema proof → IsExposing schema constants proof.base proof.exposed exposures →
      ((p : ℕ) → p ≤ 1 → IsRun schema constants p (record proof { exposed = proof.exposed ++ exposed_facts exposures; copy = proof.copy ++ exposed_facts exposures }) more end) →
      (log : List Firing) × IsRun schema constants part proof (log ++ more) end × (length log ≡ length exposures) × (exposures_in log ≡ length exposures)
  expose_part part low proof [] more end quiet is goes = ([], subst (λ p. IsRun schema constants part p more end) (proof_same (append-nil proof.exposed) (append-nil proof.copy)) (goes part low), refl, refl)
    where
      proof_same : {a b c d : List Ground} → a ≡ b → c ≡ d → ◌≡◌ {A = Proof} (record proof { exposed = a; copy = c }) (record proof { exposed = b; copy = d })
      proof_same e f = cc
  expose_part part low proof (e ∷ exposures) more end quiet (first, rest) goes =
      let next : Proof = record proof { exposed = proof.exposed ++ e.fact ∷ []; copy = proof.copy ++ e.fact ∷ [] } in
      let (number, named) = got_contained schema.methods e.method first.of_schema in
      let (log, run, many, counted) = expose_part 1 (omega arith) next exposures more end quiet rest
      (λ p l. subst (λ q. IsRun schema constants p q more end) (proof_same (sym (append_assoc proof.exposed (e.fact ∷ []) (exposed_facts exposures))) (sym (append_assoc proof.copy (e.fact ∷ []) (exposed_facts exposures)))) (goes p l)) in (
        Expose number e.fact ∷ log,
        (low, (next, (e.method, record { of_base = first.of_base; new = first.new; named = named; of_relation = first.of_relation; inputs = first.inputs }, quiet, refl), run)),
        (let h : length log ≡ length exposures = many in omega arith),
        (let h : exposures_in log ≡ length exposures = counted in omega arith),
      )
    where
      proof_same : {a b c d : List Ground} → a ≡ b → c ≡ d → ◌≡◌ {A = Proof} (record proof { exposed = a; copy = c }) (record proof { exposed = b; copy = d })
      proof_same e f = cc

  base_then : (proof : Proof) (log : List Trigger) (middle : State) (more : List Firing) (end : Proof) → IsBaseRun schema.rules (base_state proof) log middle → IsRun schema constants 0 (record proof { base = middle.facts; next = middle.next }) more end → IsRun schema constants 0 proof (map Base log ++ more) end
  base_then proof [] middle more end e goes = subst (λ (s : State). IsRun schema constants 0 (record proof { base = s.facts; next = s.next }) more end) e goes
  base_then proof (trigger ∷ log) middle more end (rule, first, rest) goes =
      let next : Proof = record proof { base = (fired (base_state proof) trigger rule).facts; next = (fired (base_state proof) trigger rule).next } in
      (omega arith, (next, (rule, first, refl), base_then next log middle more end rest goes))

  base_counts : (log : List Trigger) (more : List Firing) → (length (map Base log ++ more) ≡ length log + length more) × (exposures_in (map Base log ++ more) ≡ exposures_in more)
  base_counts [] more = (omega arith, refl)
  base_counts (trigger ∷ log) more = let (a, b) = base_counts log more in ((let h : length (map Base log ++ more) ≡ length log + length more = a in omega arith), b)

  copy_counts : (log : List Trigger) → (length (map Copy log) ≡ length log) × (exposures_in (map Copy log) ≡ 0)
  copy_counts [] = (refl, refl)
  copy_counts (trigger ∷ log) = let (a, b) = copy_counts log in (ap suc a, b)

  both_counts : (log more : List Firing) → (length (log ++ more) ≡ length log + length more) × (exposures_in (log ++ more) ≡ exposures_in log + exposures_in more)
  both_counts [] more = (omega arith, omega arith)
  both_counts (Base trigger ∷ log) more = let (a, b) = both_counts log more in ((let h : length (log ++ more) ≡ length log + length more = a in omega arith), b)
  both_counts (Copy trigger ∷ log) more = let (a, b) = both_counts log more in ((let h : length (log ++ more) ≡ length log + length more = a in omega arith), b)
  both_counts (Expose number fact ∷ log) more = let (a, b) = both_counts log more in ((let h : length (log ++ more) ≡ length log + length more = a in omega arith), (let h : exposures_in (log ++ more) ≡ exposures_in log + exposures_in more = b in omega arith))

  -- a trial is a run from the start, with as many firings and exposures
  pub try_run : (start : Proof) (log : List Trigger) (base : State) (trial : Trial) → start.exposed ≡ [] → start.copy ≡ [] → IsBaseRun schema.rules (base_state start) log base → ((trigger : Trigger) (rule : Rule) → IsActive schema.rules base trigger rule → ⊥) →
      IsTrial schema constants base trial →
      (whole : List Firing) × (end : Proof) × IsRun schema constants 0 start whole end
      × (length whole ≡ length log + length trial.exposures + length trial.copy) × (exposures_in whole ≡ length trial.exposures)
  try_run start log base trial none_exposed none_copied run quiet try =
      let es : List Exposure = trial.exposures in
      let copy : List Trigger = trial.copy in
      let last : State = try.end in
      let begun : ◌≡◌ {A = Proof} (record { base = base.facts; exposed = []; copy = []; next = base.next }) (record start { base = base.facts; next = base.next }) =
      (λ i. record { base = base.facts; exposed = (sym none_exposed) i; copy = (sym none_copied) i; next = base.next }) in
      let settled : Proof = record { base = base.facts; exposed = []; copy = []; next = base.next } in
      let exposed : Proof = record { base = base.facts; exposed = exposed_facts es; copy = exposed_facts es; next = base.next } in
      let end : Proof = record { base = base.facts; exposed = exposed_facts es; copy = last.facts; next = last.next } in
      let (middle, goes, long, counted) = expose_part 0 (omega arith) settled es (map Copy copy) end quiet try.exposing (λ p l. copy_part p (omega arith) exposed copy last quiet try.copies) in
      let (a, b) = base_counts log (middle ++ map Copy copy) in
      let (c, d) = both_counts middle (map Copy copy) in
      let (e, f) = copy_counts copy in (
        map Base log ++ (middle ++ map Copy copy),
        end,
        base_then start log base (middle ++ map Copy copy) end run (subst (λ p. IsRun schema constants 0 p (middle ++ map Copy copy) end) begun goes),
        (let a' : length (map Base log ++ (middle ++ map Copy copy)) ≡ length log + length (middle ++ map Copy copy) = a in let c' : length (middle ++ map Copy copy) ≡ length middle + length (map Copy copy) = c in let e' : length (map Copy copy) ≡ length copy = e in let l' : length middle ≡ length es = long in omega arith),
        (let b' : exposures_in (map Base log ++ (middle ++ map Copy copy)) ≡ exposures_in (middle ++ map Copy copy) = b in let d' : exposures_in (middle ++ map Copy copy) ≡ exposures_in middle + exposures_in (map Copy copy) = d in let f' : exposures_in (map Copy copy) ≡ 0 = f in let n' : exposures_in middle ≡ length es = counted in omega arith),
      )

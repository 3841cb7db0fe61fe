-- Logs with the sizes before each firing: they are runs, go on, and are cut at any entry.
use Rattle.std.proofs.Common.{◌≡◌, ℕ, zero, suc, ◌≤◌, List, [], ◌∷◌, ◌++◌, take, refl, sym, ap, ◌∙◌, subst, ⊎_elim, arith, append_assoc}
use Rattle.std.specs.Prelude.{Contains, Some, slice_get}
use Rattle.std.proofs.lemmas.List.{append-nil, map-append}
use Rattle.std.proofs.lemmas.List.Elements.{Contains-push_cases}
use Rattle.lists.proofs.Members.{some_injective}
use Rattle.meaning.specs.declared.types.Val.TheVariants.{Label}
use Rattle.meaning.specs.declared.types.Ground.{Ground}
use Rattle.meaning.specs.declared.types.SchemaParts.{SchemaParts}
use Rattle.meaning.specs.declared.types.Firing.{Firing}
use Rattle.meaning.specs.declared.types.Firing.TheVariants.{Base, Copy, Expose}
use Rattle.meaning.specs.Triggers.{LabelsBelow, AreNumbered, fired}
use Rattle.meaning.specs.Runs.{Proof, base_state, copy_state, Fires, part_of, last_part, IsRun}
use Rattle.meaning_laws.proofs.Carrying.{run_below}
use Rattle.meaning_laws.proofs.Running.{fires_once, run_once}
use Rattle.rule_pass.proofs.Parts.{AllBegin, run_begins}
use Rattle.accessible_copy.specs.declared.entry.Entry.{Entry}
use Rattle.accessible_copy.specs.declared.entry.Exposed.{Exposed}
use Rattle.accessible_copy.specs.Known.{facts_of}
use Rattle.accessible_copy.specs.Proving.{Proving, firings_of, exposed_by, exposed_in, sizes_of, IsWritten, IsProofOf}

-- the exposed facts of the first entries
pub exposed_front : (entries : List Entry) (count : ℕ) → (rest : List Exposed) × (exposed_in entries ≡ exposed_in (take count entries) ++ rest)
exposed_front entries zero = (exposed_in entries, refl)
exposed_front [] (suc count) = ([], refl)
exposed_front (entry ∷ entries) (suc count) =
    let (rest, e) = exposed_front entries count in
    (rest, ap (λ z. exposed_by entry.firing ++ z) e ∙ sym (append_assoc (exposed_by entry.firing) (exposed_in (take count entries)) rest))

pub exposed_on : (entries more : List Entry) → exposed_in (entries ++ more) ≡ exposed_in entries ++ exposed_in more
exposed_on [] more = refl
exposed_on (entry ∷ entries) more = ap (λ z. exposed_by entry.firing ++ z) (exposed_on entries more) ∙ sym (append_assoc (exposed_by entry.firing) (exposed_in entries) (exposed_in more))

pub firings_on : (entries more : List Entry) → firings_of (entries ++ more) ≡ firings_of entries ++ firings_of more
firings_on entries more = map-append (λ (entry : Entry). entry.firing) entries more

module _ (schema : SchemaParts) (constants : List (List ℕ)) where
  pub written_run : (part : ℕ) (proof : Proof) (entries : List Entry) (end : Proof) → IsWritten schema constants part proof entries end → IsRun schema constants part proof (firings_of entries) end
  written_run part proof [] end e = e
  written_run part proof (entry ∷ entries) end (order, sizes, (next, fires, more)) = (order, (next, fires, written_run (part_of entry.firing) next entries end more))

  -- the firings fix the sizes before them
  pub written_once : (part other : ℕ) (proof : Proof) (entries others : List Entry) (end after : Proof) → IsWritten schema constants part proof entries end → IsWritten schema constants other proof others after → firings_of entries ≡ firings_of others → entries ≡ others
  written_once part other proof [] [] end after is its e = refl
  written_once part other proof [] (one ∷ others) end after is its e = absurd (cc)
  written_once part other proof (entry ∷ entries) [] end after is its e = absurd (cc)
  written_once part other proof (entry ∷ entries) (one ∷ others) end after (order, sizes, (next, fires, more)) (order', sizes', (next', fires', more')) e =
      let head : entry.firing ≡ one.firing = cc in
      let tail : firings_of entries ≡ firings_of others = cc in
      let same : entry ≡ one = (λ i. record { firing = head i; before = (sizes ∙ sym sizes') i }) in
      let there : next ≡ next' = fires_once schema constants proof entry.firing next next' fires (subst (λ f. Fires schema constants proof f next') (sym head) fires') in
      let rest : entries ≡ others = written_once (part_of entry.firing) (part_of one.firing) next entries others end after more (subst (λ p. IsWritten schema constants (part_of one.firing) p others after) (sym there) more') tail in
      cc

  -- one log after another
  pub written_on : (part : ℕ) (proof : Proof) (entries : List Entry) (middle : Proof) (more : List Entry) (end : Proof) → IsWritten schema constants part proof entries middle
      → IsWritten schema constants (last_part part (firings_of entries)) middle more end → IsWritten schema constants part proof (entries ++ more) end
  written_on part proof [] middle more end e rest = subst (λ p. IsWritten schema constants part p more end) e rest
  written_on part proof (entry ∷ entries) middle more end (order, sizes, (next, fires, before)) rest =
      (order, sizes, (next, fires, written_on (part_of entry.firing) next entries middle more end before rest))

  -- the state before an entry
  pub record IsCut (part : ℕ) (proof : Proof) (entries : List Entry) (end : Proof) (count : ℕ) (entry : Entry) (middle : Proof) : Type 0 where
    pub front : IsWritten schema constants part proof (take count entries) middle
    pub sizes : entry.before ≡ sizes_of constants middle
    pub begins : AllBegin middle end

  pub written_cut : (part : ℕ) (proof : Proof) (entries : List Entry) (end : Proof) (count : ℕ) (entry : Entry) → IsWritten schema constants part proof entries end → slice_get entries count ≡ Some entry
      → (middle : Proof) × IsCut part proof entries end count entry middle
  written_cut part proof [] end count entry e got = absurd (cc)
  written_cut part proof (first ∷ entries) end zero entry (order, sizes, (next, fires, more)) got = (
    proof,
    record {
      front = refl;
      sizes = subst (λ (x : Entry). x.before ≡ sizes_of constants proof) (some_injective first entry got) sizes;
      begins = run_begins schema constants part proof (firings_of (first ∷ entries)) end (written_run part proof (first ∷ entries) end (order, sizes, (next, fires, more)));
    },
  )
  written_cut part proof (first ∷ entries) end (suc count) entry (order, sizes, (next, fires, more)) got =
      let (middle, cut) = written_cut (part_of first.firing) next entries end count entry more got in
      (middle, record { front = (order, sizes, (next, fires, cut.front)); sizes = cut.sizes; begins = cut.begins })

  -- the exposed facts are those of the log
  pub written_exposed : (part : ℕ) (proof : Proof) (entries : List Entry) (end : Proof) → IsWritten schema constants part proof entries end → end.exposed ≡ proof.exposed ++ facts_of (exposed_in entries)
  written_exposed part proof [] end e = ap (λ (p : Proof). p.exposed) e ∙ sym (append-nil proof.exposed)
  written_exposed part proof (entry ∷ entries) end (order, sizes, (next, fires, more)) =
      written_exposed (part_of entry.firing) next entries end more ∙ by entry.firing fires
    where
      by : (firing : Firing) → Fires schema constants proof firing next → next.exposed ++ facts_of (exposed_in entries) ≡ proof.exposed ++ facts_of (exposed_by firing ++ exposed_in entries)
      by (Base trigger) (rule, is, e) = ap (λ (p : Proof). p.exposed ++ facts_of (exposed_in entries)) e
      by (Copy trigger) (rule, is, quiet, e) = ap (λ (p : Proof). p.exposed ++ facts_of (exposed_in entries)) e
      by (Expose number fact) (method, is, quiet, e) = ap (λ (p : Proof). p.exposed ++ facts_of (exposed_in entries)) e ∙ append_assoc proof.exposed (fact ∷ []) (facts_of (exposed_in entries))

  -- labels stay below the next one
  pub record AllBelow (proof : Proof) : Type 0 where
    pub base : LabelsBelow proof.base proof.next
    pub copy : LabelsBelow proof.copy proof.next

  higher : (facts : List Ground) (next later : ℕ) → LabelsBelow facts next → next ≤ later → LabelsBelow facts later
  higher facts next later below l fact k among has = let m = below fact k among has in omega arith

  one_below : (proof : Proof) (firing : Firing) (next : Proof) → AreNumbered schema.rules → AllBelow proof → Fires schema constants proof firing next → AllBelow next
  one_below proof (Base trigger) next numbered below (rule, is, e) =
      let (made, later) = run_below schema.rules (trigger ∷ []) (base_state proof) (fired (base_state proof) trigger rule) numbered below.base (rule, is.active.trigger_is, refl) in
      subst AllBelow (sym e) (record { base = made; copy = higher proof.copy proof.next (fired (base_state proof) trigger rule).next below.copy later })
  one_below proof (Copy trigger) next numbered below (rule, is, quiet, e) =
      let (made, later) = run_below schema.rules (trigger ∷ []) (copy_state proof) (fired (copy_state proof) trigger rule) numbered below.copy (rule, is.active.trigger_is, refl) in
      subst AllBelow (sym e) (record { base = higher proof.base proof.next (fired (copy_state proof) trigger rule).next below.base later; copy = made })
  one_below proof (Expose number fact) next numbered below (method, is, quiet, e) =
      subst AllBelow (sym e) (record {
        base = below.base;
        copy = λ other k among has. ⊎_elim (λ h. below.copy other k h has) (λ same. below.base fact k is.of_base (subst (λ (f : Ground). Contains f.vals (Label k)) (sym same) has)) (Contains-push_cases proof.copy fact other among);
      })

  pub written_below : (part : ℕ) (proof : Proof) (entries : List Entry) (end : Proof) → AreNumbered schema.rules → AllBelow proof → IsWritten schema constants part proof entries end → AllBelow end
  written_below part proof [] end numbered below e = subst AllBelow (sym e) below
  written_below part proof (entry ∷ entries) end numbered below (order, sizes, (next, fires, more)) =
      written_below (part_of entry.firing) next entries end numbered (one_below proof entry.firing next numbered below fires) more

-- a proof is fixed by its log
pub same_log : (schema : SchemaParts) (first second : Proving) → IsProofOf schema first → IsProofOf schema second → first.constants ≡ second.constants → first.start ≡ second.start → first.entries ≡ second.entries → first ≡ second
same_log schema first second is is' c s e =
    let exposed : first.exposed ≡ second.exposed = is.exposed ∙ ap exposed_in e ∙ sym is'.exposed in
    let run' : IsRun schema first.constants 0 first.start (firings_of first.entries) second.end
    = rw c (rw s (rw e (written_run schema second.constants 0 second.start second.entries second.end is'.written))) in
    let ends : first.end ≡ second.end = run_once schema first.constants 0 0 first.start (firings_of first.entries) first.end second.end (written_run schema first.constants 0 first.start first.entries first.end is.written) run' in
    (λ i. record { constants = c i; start = s i; exposed = exposed i; entries = e i; end = ends i })

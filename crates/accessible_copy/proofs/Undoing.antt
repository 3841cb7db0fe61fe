-- Why cutting the lists back to the sizes of an entry gives the proof of the entries before it.
use Rattle.std.proofs.Common.{◌≡◌, ℕ, List, ◌++◌, length, take, drop, sym, ap, ◌∙◌, subst, arith}
use Rattle.std.specs.Prelude.{Some, slice_get}
use Rattle.std.proofs.lemmas.List.{length-map, take-append-drop}
use Rattle.meaning.specs.declared.types.SchemaParts.{SchemaParts}
use Rattle.meaning.specs.declared.types.Ground.{Ground}
use Rattle.meaning.specs.declared.types.Firing.{Firing}
use Rattle.meaning.specs.Triggers.{LabelsBelow}
use Rattle.meaning.specs.Runs.{Proof, IsOrderedRun}
use Rattle.meaning_laws.proofs.Kept.{ordered_is_run}
use Rattle.meaning_laws.proofs.Running.{run_split, run_once}
use Rattle.rule_pass.proofs.Parts.{begins_take}
use Rattle.accessible_copy.specs.declared.entry.Sizes.{Sizes}
use Rattle.accessible_copy.specs.declared.entry.Entry.{Entry}
use Rattle.accessible_copy.specs.declared.entry.Exposed.{Exposed}
use Rattle.accessible_copy.specs.Known.{known_values, facts_of}
use Rattle.accessible_copy.specs.Proving.{Proving, firings_of, log_of, exposed_in, IsWritten, IsProofOf, IsOrdered}
use Rattle.accessible_copy.proofs.Lists.{take_front}
use Rattle.accessible_copy.proofs.Writing.{exposed_front, firings_on, written_run, written_cut, IsCut, written_exposed, AllBelow, written_below}

-- the lists cut back
abbrev pub cut_to : Proving → ℕ → Sizes → Proving
cut_to proof count before = record {
  constants = proof.constants;
  start = proof.start;
  exposed = take before.exposed proof.exposed;
  entries = take count proof.entries;
  end = record { base = take before.base proof.end.base; exposed = facts_of (take before.exposed proof.exposed); copy = take before.copy proof.end.copy; next = before.next };
}

pub record Undoes (schema : SchemaParts) (proof : Proving) (count : ℕ) (before : Sizes) : Type 0 where
  pub base : LabelsBelow (take before.base proof.end.base) before.next
  pub copy : LabelsBelow (take before.copy proof.end.copy) before.next
  pub known : before.known ≡ length (known_values proof.constants (facts_of (take before.exposed proof.exposed)))
  pub is : IsProofOf schema (cut_to proof count before)

start_below : (schema : SchemaParts) (proof : Proving) → IsProofOf schema proof → AllBelow schema proof.constants proof.start
start_below schema proof is = record { base = is.labels; copy = subst (λ facts. LabelsBelow facts proof.start.next) (sym is.none_copied) (λ fact k among has. absurd (omega arith)) }

pub undoes : (schema : SchemaParts) (proof : Proving) (count : ℕ) (entry : Entry) → IsProofOf schema proof → slice_get proof.entries count ≡ Some entry → Undoes schema proof count entry.before
undoes schema proof count entry is got =
    let (middle, cut) = written_cut schema proof.constants 0 proof.start proof.entries proof.end count entry is.written got in by middle cut
  where
    by : (middle : Proof) → IsCut schema proof.constants 0 proof.start proof.entries proof.end count entry middle → Undoes schema proof count entry.before
    by middle cut =
        let below = written_below schema proof.constants 0 proof.start (take count proof.entries) middle is.numbered (start_below schema proof is) cut.front in
        let base : take entry.before.base proof.end.base ≡ middle.base = ap (λ (s : Sizes). take s.base proof.end.base) cut.sizes ∙ begins_take middle.base proof.end.base cut.begins.base in
        let copy : take entry.before.copy proof.end.copy ≡ middle.copy = ap (λ (s : Sizes). take s.copy proof.end.copy) cut.sizes ∙ begins_take middle.copy proof.end.copy cut.begins.copy in
        let next : entry.before.next ≡ middle.next = ap (λ (s : Sizes). s.next) cut.sizes in
        let facts : middle.exposed ≡ facts_of (exposed_in (take count proof.entries)) =
        written_exposed schema proof.constants 0 proof.start (take count proof.entries) middle cut.front ∙ ap (λ (l : List Ground). l ++ facts_of (exposed_in (take count proof.entries))) is.none_exposed in
        let wide : entry.before.exposed ≡ length (exposed_in (take count proof.entries)) =
        ap (λ (s : Sizes). s.exposed) cut.sizes ∙ ap length facts ∙ length-map (exposed_in (take count proof.entries)) (λ (one : Exposed). one.fact) in
        let (rest, whole) = exposed_front proof.entries count in
        let exposed : take entry.before.exposed proof.exposed ≡ exposed_in (take count proof.entries) =
        ap (λ n. take n proof.exposed) wide ∙ ap (take (length (exposed_in (take count proof.entries)))) (is.exposed ∙ whole) ∙ take_front (exposed_in (take count proof.entries)) rest in
        let shown : facts_of (take entry.before.exposed proof.exposed) ≡ middle.exposed = ap facts_of exposed ∙ sym facts in
        let end : middle ≡ (cut_to proof count entry.before).end = sym (λ i. record { base = base i; exposed = shown i; copy = copy i; next = next i }) in
        record {
          base = rw (base, next) below.base;
          copy = rw (copy, next) below.copy;
          known = ap (λ (s : Sizes). s.known) cut.sizes ∙ ap (λ l. length (known_values proof.constants l)) (sym shown);
          is = record {
            low = is.low;
            labels = is.labels;
            once = is.once;
            none_exposed = is.none_exposed;
            none_copied = is.none_copied;
            numbered = is.numbered;
            written = subst (λ p. IsWritten schema proof.constants 0 proof.start (take count proof.entries) p) end cut.front;
            exposed = exposed;
          };
        }

-- the front of an ordered run is one
pub cut_ordered : (schema : SchemaParts) (proof : Proving) (count : ℕ) (before : Sizes) → IsProofOf schema (cut_to proof count before) → IsOrdered schema proof → IsOrdered schema (cut_to proof count before)
cut_ordered schema proof count before is ordered =
    let front : List Firing = firings_of (take count proof.entries) in
    let logs : front ++ firings_of (drop count proof.entries) ≡ log_of proof = sym (firings_on (take count proof.entries) (drop count proof.entries)) ∙ ap firings_of (take-append-drop count proof.entries) in
    let (middle, first, rest) = run_split schema proof.constants 0 proof.start front (firings_of (drop count proof.entries)) proof.end (subst (λ l. IsOrderedRun schema proof.constants 0 proof.start l proof.end) (sym logs) ordered) in
    let same : middle ≡ (cut_to proof count before).end = run_once schema proof.constants 0 0 proof.start front middle (cut_to proof count before).end
    (ordered_is_run schema proof.constants 0 proof.start front middle first) (written_run schema proof.constants 0 proof.start (take count proof.entries) (cut_to proof count before).end is.written) in
    subst (λ p. IsOrderedRun schema proof.constants 0 proof.start front p) same first

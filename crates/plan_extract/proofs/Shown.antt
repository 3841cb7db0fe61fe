-- What the log of a proof says of its exposed facts.
use Rattle.std.proofs.Common.{◌≡◌, ℕ, ◌+◌, ◌≤◌, List, [], ◌∷◌, ◌++◌, length, take, refl, sym, ap, ◌∙◌, subst, ⊎_elim, arith, append_assoc}
use Rattle.std.specs.Prelude.{Contains, Some, None, slice_get}
use Rattle.std.specs.List.{AllZip}
use Rattle.std.proofs.lemmas.List.{append-nil, length-append, map-append, take_all}
use Rattle.std.proofs.lemmas.List.Elements.{Contains-push_cases}
use Rattle.lists.proofs.Members.{contains_got, contains_map, some_injective}
use Rattle.lists.proofs.Places.{take_got, got_none}
use Rattle.meaning.specs.declared.types.SchemaParts.{SchemaParts}
use Rattle.meaning.specs.declared.types.Ground.{Ground}
use Rattle.meaning.specs.declared.types.Firing.{Firing}
use Rattle.meaning.specs.declared.types.Firing.TheVariants.{Base, Copy, Expose}
use Rattle.meaning.specs.Values.{Value}
use Rattle.meaning.specs.Runs.{Proof, Fires, part_of}
use Rattle.meaning.specs.Extract.{Exposure}
use Rattle.accessible_copy.specs.declared.entry.Entry.{Entry}
use Rattle.accessible_copy.specs.declared.entry.Exposed.{Exposed}
use Rattle.accessible_copy.specs.Known.{facts_of}
use Rattle.accessible_copy.specs.Proving.{Proving, exposed_by, exposed_in, IsWritten, IsProofOf}
use Rattle.plan_extract.proofs.Zips.{zip_push}
use Rattle.plan_extract.specs.Trimmed.{IsShown}

-- the exposed facts of a log
one_shown : (firing : Firing) → length (exposed_by firing) ≤ 1
one_shown (Base trigger) = omega arith
one_shown (Copy trigger) = omega arith
one_shown (Expose number fact) = omega arith

pub few_shown : (entries : List Entry) → length (exposed_in entries) ≤ length entries
few_shown [] = omega arith
few_shown (entry ∷ entries) =
    let one = one_shown entry.firing in
    let rest = few_shown entries in
    let both = length-append (exposed_by entry.firing) (exposed_in entries) in
    omega arith

module _ (schema : SchemaParts) (constants : List Value) where
  step_exposed : (proof : Proof) (firing : Firing) (next : Proof) → Fires schema constants proof firing next → next.exposed ≡ proof.exposed ++ facts_of (exposed_by firing)
  step_exposed proof (Base trigger) next (rule, first, e) = ap (λ (p : Proof). p.exposed) e ∙ sym (append-nil proof.exposed)
  step_exposed proof (Copy trigger) next (rule, first, quiet, e) = ap (λ (p : Proof). p.exposed) e ∙ sym (append-nil proof.exposed)
  step_exposed proof (Expose number fact) next (method, active, quiet, e) = ap (λ (p : Proof). p.exposed) e

  pub written_exposed : (part : ℕ) (proof : Proof) (entries : List Entry) (end : Proof) → IsWritten schema constants part proof entries end → end.exposed ≡ proof.exposed ++ facts_of (exposed_in entries)
  written_exposed part proof [] end e = ap (λ (p : Proof). p.exposed) e ∙ sym (append-nil proof.exposed)
  written_exposed part proof (entry ∷ entries) end (order, sizes, (next, fires, more)) =
      written_exposed (part_of entry.firing) next entries end more
      ∙ ap (λ front. front ++ facts_of (exposed_in entries)) (step_exposed proof entry.firing next fires)
      ∙ append_assoc proof.exposed (facts_of (exposed_by entry.firing)) (facts_of (exposed_in entries))
      ∙ ap (λ rest. proof.exposed ++ rest) (sym (map-append (λ (one : Exposed). one.fact) (exposed_by entry.firing) (exposed_in entries)))

module _ (schema : SchemaParts) (proof : Proving) (is : IsProofOf schema proof) where
  -- the exposed facts of the state are those of the list
  pub end_exposed : proof.end.exposed ≡ facts_of proof.exposed
  end_exposed =
      written_exposed schema proof.constants 0 proof.start proof.entries proof.end is.written
      ∙ ap (λ front. front ++ facts_of (exposed_in proof.entries)) is.none_exposed
      ∙ ap facts_of (sym is.exposed)

  pub few_exposed : length proof.exposed ≤ length proof.entries
  few_exposed = let few = few_shown proof.entries in let same = ap length is.exposed in omega arith

-- exposures of the same list are the same
pub same_shown : (schema : SchemaParts) (exposed : List Exposed) (first second : List Exposure) → AllZip (IsShown schema) exposed first → AllZip (IsShown schema) exposed second → first ≡ second
same_shown schema [] [] [] one other = refl
same_shown schema [] (e ∷ first) second one other = absurd one
same_shown schema [] [] (e ∷ second) one other = absurd other
same_shown schema (x ∷ exposed) [] second one other = absurd one
same_shown schema (x ∷ exposed) (e ∷ first) [] one other = absurd other
same_shown schema (x ∷ exposed) (e ∷ first) (g ∷ second) one other =
    let method : e.method ≡ g.method = some_injective e.method g.method (sym one.0.0 ∙ other.0.0) in
    let fact : e.fact ≡ g.fact = sym one.0.1 ∙ other.0.1 in
    let same : e ≡ g = λ i. record { method = method i; fact = fact i } in
    ap (λ h. h ∷ first) same ∙ ap (λ rest. g ∷ rest) (same_shown schema exposed first second one.1 other.1)

-- ---- one turn of a loop over the exposed facts

module _ (schema : SchemaParts) (proof : Proving) (is : IsProofOf schema proof) where
  pub is_shown : (k : ℕ) (x : Exposed) → slice_get proof.exposed k ≡ Some x → Contains proof.end.exposed x.fact
  is_shown k x got = subst (λ list. Contains list x.fact) (sym (end_exposed schema proof is)) (contains_map (λ (one : Exposed). one.fact) proof.exposed x (contains_got proof.exposed k x got))

  -- behind the last one
  pub all_taken : (n : ℕ) → length proof.entries ≤ n → take n proof.exposed ≡ proof.exposed
  all_taken n low = take_all n proof.exposed (let few = few_exposed schema proof is in omega arith)

pub none_more : (exposed : List Exposed) (n : ℕ) (x : Exposed) (fact : Ground) → slice_get exposed n ≡ Some x → (x.fact ≡ fact → ⊥) →
    (Contains (facts_of (take n exposed)) fact → ⊥) → Contains (facts_of (take (n + 1) exposed)) fact → ⊥
none_more exposed n x fact got other none among =
    let turn : facts_of (take (n + 1) exposed) ≡ facts_of (take n exposed) ++ x.fact ∷ [] = ap facts_of (take_got exposed n x got) ∙ map-append (λ (one : Exposed). one.fact) (take n exposed) (x ∷ []) in
    ⊎_elim none other (Contains-push_cases (facts_of (take n exposed)) x.fact fact (subst (λ list. Contains list fact) turn among))

pub none_past : (exposed : List Exposed) (n : ℕ) → slice_get exposed n ≡ None → take (n + 1) exposed ≡ take n exposed
none_past exposed n none = let low = got_none exposed n none in take_all (n + 1) exposed (omega arith) ∙ sym (take_all n exposed low)

pub zip_more : (schema : SchemaParts) (exposed : List Exposed) (n : ℕ) (x : Exposed) (so_far : List Exposure) (e : Exposure) → slice_get exposed n ≡ Some x → IsShown schema x e →
    AllZip (IsShown schema) (take n exposed) so_far → AllZip (IsShown schema) (take (n + 1) exposed) (so_far ++ e ∷ [])
zip_more schema exposed n x so_far e got one all = subst (λ list. AllZip (IsShown schema) list (so_far ++ e ∷ [])) (sym (take_got exposed n x got)) (zip_push (IsShown schema) (take n exposed) so_far x e all one)

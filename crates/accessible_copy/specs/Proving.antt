-- Proofs that are those of their logs.
use Rattle.std.specs.Prelude.{◌≡◌, ◌≤◌, ℕ, List, [], ◌∷◌, ◌++◌, length, map}
use Rattle.meaning.specs.declared.types.SchemaParts.{SchemaParts}
use Rattle.meaning.specs.declared.types.Firing.{Firing}
use Rattle.meaning.specs.declared.types.Firing.TheVariants.{Base, Copy, Expose}
use Rattle.meaning.specs.Values.{Value}
use Rattle.meaning.specs.Triggers.{LabelsBelow, AreNumbered}
use Rattle.meaning.specs.Search.{AreDistinct}
use Rattle.meaning.specs.Runs.{Proof, Fires, part_of, IsOrderedRun}
use Rattle.rule_pass.specs.declared.pass.TheConstants.{HIGHEST_FIRST_LABEL}
use Rattle.accessible_copy.specs.declared.entry.Sizes.{Sizes}
use Rattle.accessible_copy.specs.declared.entry.Entry.{Entry}
use Rattle.accessible_copy.specs.declared.entry.Exposed.{Exposed}
use Rattle.accessible_copy.specs.Known.{known_values}

-- What contracts see of a proof: the constants that are known from the start, the state that it began with, the exposed
-- facts with their methods, the log with the sizes before each firing, and the state that it is in.
pub record Proving : Type 0 where
  pub constants : List Value
  pub start : Proof
  pub exposed : List Exposed
  pub entries : List Entry
  pub end : Proof

-- The firings of a log.
abbrev pub firings_of : List Entry → List Firing
firings_of entries = map (λ (entry : Entry). entry.firing) entries

-- The log of a proof.
abbrev pub log_of : Proving → List Firing
log_of proof = firings_of proof.entries

-- The exposed facts of a log, with their methods.
abbrev pub exposed_by : Firing → List Exposed
exposed_by (Base trigger) = []
exposed_by (Copy trigger) = []
exposed_by (Expose number fact) = record { method = number; fact = fact } ∷ []

abbrev pub exposed_in : List Entry → List Exposed
exposed_in [] = []
exposed_in (entry ∷ entries) = exposed_by entry.firing ++ exposed_in entries

-- The sizes of a state.
abbrev pub sizes_of : List Value → Proof → Sizes
sizes_of constants proof = record {
  base = length proof.base;
  exposed = length proof.exposed;
  copy = length proof.copy;
  known = length (known_values constants proof.exposed);
  next = proof.next;
}

-- Entries lead from a state to another where their firings are a run, and each has the sizes before it.
abbrev pub IsWritten : SchemaParts → List Value → ℕ → Proof → List Entry → Proof → Type 0
IsWritten schema constants part proof [] end = end ≡ proof
IsWritten schema constants part proof (entry ∷ entries) end =
    (part ≤ part_of entry.firing) × (entry.before ≡ sizes_of constants proof)
    × ((next : Proof) × Fires schema constants proof entry.firing next
    × IsWritten schema constants (part_of entry.firing) next entries end)

-- A proof is that of its log.
pub record IsProofOf (schema : SchemaParts) (proof : Proving) : Type 0 where
  pub low : proof.start.next ≤ HIGHEST_FIRST_LABEL
  pub labels : LabelsBelow proof.start.base proof.start.next
  pub once : AreDistinct proof.start.base
  pub none_exposed : proof.start.exposed ≡ []
  pub none_copied : proof.start.copy ≡ []
  pub numbered : AreNumbered schema.rules
  pub written : IsWritten schema proof.constants 0 proof.start proof.entries proof.end
  pub exposed : proof.exposed ≡ exposed_in proof.entries

-- The log is an ordered run from the start to the end.
abbrev pub IsOrdered : SchemaParts → Proving → Type 0
IsOrdered schema proof = IsOrderedRun schema proof.constants 0 proof.start (log_of proof) proof.end

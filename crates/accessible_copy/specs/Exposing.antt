-- One more exposure.
use Rattle.std.specs.Prelude.{ℕ, [], ◌∷◌, ◌++◌}
use Rattle.meaning.specs.declared.types.Ground.{Ground}
use Rattle.meaning.specs.declared.types.Firing.TheVariants.{Expose}
use Rattle.accessible_copy.specs.Proving.{Proving, sizes_of}

-- The proof after an exposure: the fact is the last exposed one and the last copy fact, and the log is longer by it.
abbrev pub with_exposure : Proving → ℕ → Ground → Proving
with_exposure proof method fact = record {
  constants = proof.constants;
  start = proof.start;
  exposed = proof.exposed ++ record { method = method; fact = fact } ∷ [];
  entries = proof.entries ++ record { firing = Expose method fact; before = sizes_of proof.constants proof.end } ∷ [];
  end = record {
    base = proof.end.base;
    exposed = proof.end.exposed ++ fact ∷ [];
    copy = proof.end.copy ++ fact ∷ [];
    next = proof.end.next;
  };
}

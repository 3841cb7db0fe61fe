use Rattle.std.proofs.Common.{◌≡◌, ◌<◌, ◌≤◌, length}
use Rattle.access_schema.specs.Meaning.{meaning_of}
use Rattle.proof_search.specs.Searches.{Exposes}
use Rattle.proof_search.proofs.exposing.expose_each.Given as goal

-- exposures alone so far, of which the first firing is one
abbrev pub invariant-loop-firing : goal.invariant-loop-firing
invariant-loop-firing l = record {
  exposes : Exposes (meaning_of l.schema) l.firings l.fn.proof l.proof;
  first : l.firing-index ≡ 0 → l.proof ≡ l.fn.proof;
  longer : 1 ≤ l.firing-index → length l.fn.proof.entries < length l.proof.entries;
}

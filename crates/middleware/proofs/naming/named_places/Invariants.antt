use Rattle.std.proofs.Common.{◌≡◌, ◌++◌, List, ℕ, drop}
use Rattle.meaning.specs.declared.types.Place.{Place}
use Rattle.meaning.specs.Plans.{made}
use Rattle.middleware.specs.Naming.{IsLocal}
use Rattle.middleware.proofs.naming.named_places.Given as goal

-- what is left of the places goes on from what there is
abbrev pub invariant-loop-place : goal.invariant-loop-place
invariant-loop-place l = record {
  goes_on : (locals : List Place) (after : List ℕ) → IsLocal l.named.columns l.named.count (drop l.place-index l.places) locals after
      → IsLocal l.fn.columns l.fn.count l.places (l.named.places ++ locals) after;
  count : made l.fn.count l.places ≡ made l.named.count (drop l.place-index l.places);
}

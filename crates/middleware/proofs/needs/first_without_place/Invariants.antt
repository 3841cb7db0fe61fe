use Rattle.std.proofs.Common.{◌≡◌, ◌<◌, ℕ, Some}
use Rattle.std.specs.Prelude.{slice_get}
use Rattle.middleware.specs.Sources.{HavePlace}
use Rattle.middleware.specs.Needs.{needed}
use Rattle.middleware.proofs.needs.first_without_place.Given as goal

abbrev pub invariant-loop-rel : goal.invariant-loop-rel
invariant-loop-rel g l = (k other : ℕ) → k < l.rel-index → slice_get l.first k ≡ Some other
    → HavePlace l.lanes l.lines other (λ place. needed l.first l.others place other)

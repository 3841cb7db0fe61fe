-- A walk that costs less than the sums of all that waits leads to a set that was looked at.
use Rattle.std.proofs.Common.{◌≡◌, ℕ, ◌+◌, ◌<◌, ◌≤◌, List, [], ◌∷◌, Bool, true, false, sym, ap, ◌∙◌, subst, ⊎_elim, arith}
use Rattle.std.specs.Prelude.{Contains, slice_set}
use Rattle.std.proofs.lemmas.Bool.{cases_lt}
use Rattle.least_search.specs.declared.space.Move.{Move}
use Rattle.least_search.specs.declared.cuts.Cut.{Cut}
use Rattle.least_search.specs.Ways.{Way}
use Rattle.least_search.specs.Walks.{IsWalk, walk_cost, no_facts, with_fact}
use Rattle.least_search.specs.Cuts.{rest, sum_of}
use Rattle.least_search.specs.Costs.{IsLeastCost}
use Rattle.least_search.proofs.Searched.{IsGuide, IsSearched}

module _ (n : ℕ) (CanMove CanGo : List Bool → Move → Type 0) (HasGoal : List Bool → Type 0) (cuts : List Cut) (guide : IsGuide CanGo HasGoal cuts)
    (bound : ℕ) (long : Bool) (looked waiting : List Way) (is : IsSearched n CanMove CanGo HasGoal cuts bound long looked waiting) where
  -- a walk to a goal costs what is to be paid
  bounded : (moves : List Move) (set end : List Bool) → IsWalk CanGo set moves end → HasGoal end → rest cuts set ≤ walk_cost moves
  bounded [] set end e goal = let none : rest cuts end ≡ 0 = guide.ends end goal in let same : rest cuts end ≡ rest cuts set = ap (rest cuts) e in omega arith
  bounded (move ∷ moves) set end (can, walk) goal =
      let first : rest cuts set ≤ move.cost + rest cuts (with_fact set move) = guide.falls set move can in
      let later : rest cuts (with_fact set move) ≤ walk_cost moves = bounded moves (with_fact set move) end walk goal in
      omega arith

  reach : (t : ℕ) → t ≤ bound → ((w : Way) → Contains waiting w → t ≤ sum_of cuts w) → (node : Way) → Contains looked node → (set : List Bool) → node.set ≡ set → (moves : List Move) (end : List Bool) → IsWalk CanGo set moves end → HasGoal end → node.cost + walk_cost moves < t → (last : Way) × Contains looked last × (last.set ≡ end)
  reach t low after node among set same [] end e goal less = (node, among, same ∙ sym e)
  reach t low after node among set same (move ∷ moves) end (can, walk) goal less =
      let due : rest cuts (with_fact set move) ≤ walk_cost moves = bounded moves (with_fact set move) end walk goal in
      let here : rest cuts (with_fact node.set move) ≡ rest cuts (with_fact set move) = ap (λ s. rest cuts (slice_set s move.fact true)) same in
      let (next, held, its, cheap) = is.closed node move among (subst (λ s. CanGo s move) (sym same) can) (omega arith) in
      let child : next.set ≡ with_fact set move = its ∙ ap (λ s. slice_set s move.fact true) same in
      ⊎_elim (λ there. reach t low after next there (slice_set set move.fact true) child moves end walk goal (omega arith))
      (λ waits.
      let late : t ≤ next.cost + rest cuts next.set = after next waits in
      let paid : rest cuts next.set ≡ rest cuts (with_fact set move) = ap (rest cuts) child in
      absurd (omega arith)) held

  pub least : long ≡ false → (t : ℕ) → t ≤ bound → ((w : Way) → Contains waiting w → t ≤ sum_of cuts w) → IsLeastCost n CanGo HasGoal t
  least whole t low after moves end walk goal =
      ⊎_elim (λ less.
      let due : rest cuts (no_facts n) ≤ walk_cost moves = bounded moves (no_facts n) end walk goal in
      let (node, held, its, cheap) = is.start (omega arith) in
      ⊎_elim (λ there.
      let (last, among, same) = reach t low after node there (no_facts n) its moves end walk goal (omega arith) in
      absurd (is.none whole last among (subst (λ s. HasGoal s) (sym same) goal)))
      (λ waits.
      let late : t ≤ node.cost + rest cuts node.set = after node waits in
      let paid : rest cuts node.set ≡ rest cuts (no_facts n) = ap (rest cuts) its in
      omega arith) held)
      (λ more. more) (cases_lt (walk_cost moves) t)

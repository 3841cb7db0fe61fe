-- A lane skips requests behind a refused one alone.
use Rattle.std.proofs.Common.{◌≡◌, ◌≢◌, ◌<◌, ℕ, suc, true, false, List, [], ◌∷◌, length, map, get_or, Some, refl, sym, ◌∙◌, ap, subst, arith}
use Rattle.std.specs.Prelude.{Contains, slice_get}
use Rattle.std.specs.List.Sorted.{IsStrictlyIncreasing}
use Rattle.std.proofs.lemmas.List.Kept.{AllPairs-from_increasing}
use Rattle.std.proofs.lemmas.Option.{slice_get_within}
use native.Mathlib.Decide.{ℕ_discrete, dec_le}
use mathlib.Core.Logic.{dite}
use Rattle.lists.proofs.Members.{contains_here, contains_there, some_injective}
use Rattle.lane_pool.specs.Numbers.{total, times, AllAscend}
use Rattle.lane_pool.specs.Work.{WorkedBy, AllWorked, FansOut}
use Rattle.lane_pool.proofs.OneWorker.{tail_up}
use Rattle.lane_pool.proofs.Totals.{hit-other}
use Rattle.source_trait.specs.Asking.{Seen}
use Rattle.source_trait.specs.Works.{Works}
use Rattle.source_trait.specs.declared.lanes.Lane.{Lane}
use Rattle.source_trait.specs.declared.work.Ask.{Ask}
use Rattle.source_trait.specs.declared.work.Asked.{Asked}
use Rattle.source_trait.specs.declared.work.Asked.TheVariants as asked
use Rattle.middleware.specs.LaneRounds.{started, RowsBelow, SkipsBehind}

-- a number that stands in a list
stands : (k : ℕ) (ks : List ℕ) → 0 < times k ks → Contains ks k
stands k [] some = absurd (omega arith)
stands k (j ∷ ks) some = dite (ℕ_discrete j k)
    (λ (same : j ≡ k). subst (λ n. Contains (j ∷ ks) n) same (contains_here j ks))
    (λ (apart : j ≢ k). contains_there j ks k (stands k ks (let z = hit-other k j apart in omega arith)))

-- behind the first number of an ascending list are greater ones, which ascend
behind : (j k : ℕ) (ks : List ℕ) → IsStrictlyIncreasing (j ∷ ks) → Contains ks k → j < k
behind j k ks up (i, within, is) =
    let less : j < get_or ks i k = AllPairs-from_increasing (j ∷ ks) up 0 (suc i) k (omega arith) (omega arith) in
    omega (arith, less, is)

module _ {S : Type 0} (seen : S → Seen) (asks : List Ask) (answers : List Asked) (k : ℕ) (below : RowsBelow answers k) (skipped : slice_get answers k ≡ Some asked.Skipped) where
  clash : false ≡ true → ⊥
  clash e = cc

  -- a lane that is not stopped does not skip the request behind rows alone
  not_by : (ks : List ℕ) (w u : Lane S) → IsStrictlyIncreasing ks → 0 < times k ks → w.stopped ≡ false → WorkedBy (Works seen) asks answers ks w u → ⊥
  not_by [] w u up some going worked = absurd (omega arith)
  not_by (j ∷ ks) w u up some going (item, answer, next, item_at, answer_at, works, rest) = dite (ℕ_discrete j k)
      (λ (same : j ≡ k).
      let is : answer ≡ asked.Skipped = some_injective answer asked.Skipped (sym answer_at ∙ ap (slice_get answers) same ∙ skipped) in
      let here : Works seen w item asked.Skipped next = subst (λ (a : Asked). Works seen w item a next) is works in
      clash (sym going ∙ here.0))
      (λ (apart : j ≢ k).
      let later : 0 < times k ks = let z = hit-other k j apart in omega arith in
      let (rows, at) = below j (behind j k ks up (stands k ks later)) in
      let is : answer ≡ asked.Rows rows = some_injective answer (asked.Rows rows) (sym answer_at ∙ at) in
      let here : Works seen w item (asked.Rows rows) next = subst (λ (a : Asked). Works seen w item a next) is works in
      not_by ks next u (tail_up j ks up) later here.1 rest)

  not_by_any : (lists : List (List ℕ)) (ws us : List (Lane S)) → AllAscend lists → 0 < total (times k) lists → AllWorked (Works seen) asks answers lists (map started ws) us → ⊥
  not_by_any [] ws us up some all = absurd (omega arith)
  not_by_any (l ∷ ls) [] us up some all = absurd all
  not_by_any (l ∷ ls) (w ∷ ws) [] up some all = absurd all
  not_by_any (l ∷ ls) (w ∷ ws) (u ∷ us) up some all = elim (dec_le 1 (times k l)) [
    | yes here ↦ not_by l (started w) u up.0 (omega arith) refl all.0
    | no gone ↦ not_by_any ls ws us up.1 (omega arith) all.1
  ]

-- of the answers of a round, the first that is no rows is not skipped
pub skips_behind : {S : Type 0} (seen : S → Seen) (asks : List Ask) (answers : List Asked) (ws us : List (Lane S)) → FansOut (Works seen) asks answers (map started ws) us → SkipsBehind answers
skips_behind seen asks answers ws us fanned = λ k below skipped.
    let less : k < length asks = subst (λ n. k < n) fanned.len (slice_get_within answers k asked.Skipped skipped) in
    not_by_any seen asks answers k below skipped fanned.lists ws us fanned.ascend (let o = fanned.once.1 k less in omega arith) fanned.worked

-- The first refused answer of a round.
use Rattle.std.proofs.Common.{◌≡◌, ◌<◌, ℕ, List, ◌∷◌, ◌++◌, length, map, sym, ◌∙◌, ap, subst, arith}
use Rattle.std.specs.Prelude.{slice_get}
use Rattle.std.proofs.lemmas.List.{length-append, length-map}
use Rattle.lists.proofs.Members.{got_before, got_below, map_got}
use Rattle.lists.proofs.Places.{got_seam}
use Rattle.source_trait.specs.Asking.{RowList}
use Rattle.source_trait.specs.declared.work.Asked.{Asked}
use Rattle.source_trait.specs.declared.work.Asked.TheVariants as asked
use Rattle.middleware.specs.LaneRounds.{RowsBelow, FirstRefused, SkipsBehind}
use Rattle.middleware.specs.declared.lane_round.AskFault.TheVariants as fault

module _ (rows : List RowList) (before left answers : List Asked) (parts : before ++ left ≡ answers) (are : map asked.Rows rows ≡ before)
  where
    pub rows_below : RowsBelow answers (length before)
    rows_below k less =
        let short : k < length rows = (let e = ap length are in let m = length-map rows asked.Rows in omega arith) in
        let (found, at) = got_below rows k short in (
          found,
          ap (λ (l : List Asked). slice_get l k) (sym parts) ∙ got_before before left k less
              ∙ ap (λ (l : List Asked). slice_get l k) (sym are) ∙ map_got asked.Rows rows k found at,
        )

    -- the answer behind the rows is a failed call
    pub first_failed : (number : ℕ) (rest : List Asked) → left ≡ asked.Failed ∷ rest → number ≡ length before
        → FirstRefused (fault.CallFailed number) answers
    first_failed number rest is counted =
        subst (λ n. FirstRefused (fault.CallFailed n) answers) (sym counted) (
          ap (λ (l : List Asked). slice_get l (length before)) (sym parts ∙ ap (λ (l : List Asked). before ++ l) is)
              ∙ got_seam before asked.Failed rest,
          rows_below,
        )

    -- the answer behind the rows is not that of a stopped lane
    pub none_skipped : (rest : List Asked) → left ≡ asked.Skipped ∷ rest → SkipsBehind answers → ⊥
    none_skipped rest is skips = skips (length before) rows_below
        (ap (λ (l : List Asked). slice_get l (length before)) (sym parts ∙ ap (λ (l : List Asked). before ++ l) is)
        ∙ got_seam before asked.Skipped rest)

    -- there is one more answer than those before
    pub one_more : (answer : Asked) (rest : List Asked) → left ≡ answer ∷ rest → length before < length answers
    one_more answer rest is = let e = ap length parts in let a = length-append before left in let l = ap length is in omega arith

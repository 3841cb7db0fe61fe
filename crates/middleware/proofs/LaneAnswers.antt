-- Numbers of requests whose answers tell that they were asked.
use Rattle.std.proofs.Common.{◌≡◌, ℕ, suc, ◌≤◌, ◌<◌, ◌+◌, Bool, true, false, cond, List, [], ◌∷◌, map, Option, None, Some, refl, sym, ◌∙◌, ap, arith}
use Rattle.std.specs.Prelude.{slice_get}
use native.Mathlib.Decide.{dec_le}
use Rattle.lists.proofs.Members.{got_mapped}
use Rattle.source_trait.specs.Asking.{RowList}
use Rattle.source_trait.specs.declared.work.Asked.{Asked}
use Rattle.source_trait.specs.declared.work.Asked.TheVariants as asked
use Rattle.lane_pool.specs.Numbers.{total, hit, times, EachOnce}
use Rattle.lane_pool.specs.Work.{WorkedBy, AllWorked}

-- whether a request with this answer was asked
abbrev pub was_asked : Option Asked → Bool
was_asked None = false
was_asked (Some (asked.Rows rows)) = true
was_asked (Some asked.Failed) = true
was_asked (Some asked.NoMemory) = false
was_asked (Some asked.Skipped) = false

-- those of the numbers whose requests were asked
abbrev pub asked_among : List Asked → List ℕ → List ℕ
asked_among answers [] = []
asked_among answers (k ∷ ks) = cond (was_asked (slice_get answers k)) (k ∷ asked_among answers ks) (asked_among answers ks)

some_times : (answers : List Asked) (k : ℕ) (ks : List ℕ) → times k (asked_among answers ks) ≤ times k ks
some_times answers k [] = omega arith
some_times answers k (j ∷ ks) = go (was_asked (slice_get answers j)) (some_times answers k ks)
  where
    go : (b : Bool) → times k (asked_among answers ks) ≤ times k ks
        → times k (cond b (j ∷ asked_among answers ks) (asked_among answers ks)) ≤ hit k j + times k ks
    go true less = omega arith
    go false less = omega arith

all_some_times : (answers : List Asked) (k : ℕ) (lists : List (List ℕ))
    → total (times k) (map (asked_among answers) lists) ≤ total (times k) lists
all_some_times answers k [] = omega arith
all_some_times answers k (l ∷ ls) = let a = some_times answers k l in let b = all_some_times answers k ls in omega arith

-- each number was asked at most once
pub asked_at_most_once : (answers : List Asked) (lists : List (List ℕ)) (n : ℕ) → EachOnce lists n → (k : ℕ)
    → total (times k) (map (asked_among answers) lists) ≤ 1
asked_at_most_once answers lists n once k =
    let less = all_some_times answers k lists in
    elim (dec_le n k) [
      | yes far ↦ let z = once.2 k far in omega arith
      | no near ↦ let o = once.1 k (omega arith) in omega arith
    ]

-- where each answer is rows, each number that was worked was asked
module _ {W I : Type 0} (did : W → I → Asked → W → Type 0) (items : List I) (rows : List RowList) where
  whole_list : (ks : List ℕ) (w u : W) → WorkedBy did items (map asked.Rows rows) ks w u → asked_among (map asked.Rows rows) ks ≡ ks
  whole_list [] w u same = refl
  whole_list (k ∷ ks) w u (item, answer, next, item_at, answer_at, step, rest) =
      let (found, at, is) = got_mapped asked.Rows rows k answer answer_at in
      let told : was_asked (slice_get (map asked.Rows rows) k) ≡ true = ap was_asked (answer_at ∙ ap Some (sym is)) in
      ap (λ b. cond b (k ∷ asked_among (map asked.Rows rows) ks) (asked_among (map asked.Rows rows) ks)) told
      ∙ ap (λ (l : List ℕ). k ∷ l) (whole_list ks next u rest)

  pub whole_lists : (lists : List (List ℕ)) (ws us : List W) → AllWorked did items (map asked.Rows rows) lists ws us
      → map (asked_among (map asked.Rows rows)) lists ≡ lists
  whole_lists [] [] [] all = refl
  whole_lists [] [] (u ∷ us) all = absurd all
  whole_lists [] (w ∷ ws) us all = absurd all
  whole_lists (l ∷ ls) [] us all = absurd all
  whole_lists (l ∷ ls) (w ∷ ws) [] all = absurd all
  whole_lists (l ∷ ls) (w ∷ ws) (u ∷ us) all =
      let first : asked_among (map asked.Rows rows) l ≡ l = whole_list l w u all.0 in
      let rest : map (asked_among (map asked.Rows rows)) ls ≡ ls = whole_lists ls ws us all.1 in
      λ i. first i ∷ rest i

-- the worker that worked a number of some list
pub record WorkedAt {W I A : Type 0} (did : W → I → A → W → Type 0) (items : List I) (answers : List A) (k : ℕ) (ws us : List W) : Type 0
  where
    pub place : ℕ
    pub list : List ℕ
    pub before : W
    pub after : W
    pub was : slice_get ws place ≡ Some before
    pub now : slice_get us place ≡ Some after
    pub among : 0 < times k list
    pub worked : WorkedBy did items answers list before after

pub worked_at : {W I A : Type 0} (did : W → I → A → W → Type 0) (items : List I) (answers : List A) (k : ℕ) (lists : List (List ℕ))
    (ws us : List W) → AllWorked did items answers lists ws us
    → 0 < total (times k) lists → WorkedAt did items answers k ws us
worked_at did items answers k [] [] [] all some_list = absurd (omega arith)
worked_at did items answers k [] [] (u ∷ us) all some_list = absurd all
worked_at did items answers k [] (w ∷ ws) us all some_list = absurd all
worked_at did items answers k (l ∷ ls) [] us all some_list = absurd all
worked_at did items answers k (l ∷ ls) (w ∷ ws) [] all some_list = absurd all
worked_at did items answers k (l ∷ ls) (w ∷ ws) (u ∷ us) all some_list = elim (dec_le 1 (times k l)) [
  | yes here ↦ record { place = 0; list = l; before = w; after = u; was = refl; now = refl; among = omega arith; worked = all.0 }
  | no gone ↦
      let later = worked_at did items answers k ls ws us all.1 (omega arith) in
      record {
        place = suc later.place;
        list = later.list;
        before = later.before;
        after = later.after;
        was = later.was;
        now = later.now;
        among = later.among;
        worked = later.worked;
      }
]

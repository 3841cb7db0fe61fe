-- One worker that works all items in their order.
use Rattle.std.proofs.Common.{◌≡◌, ◌+◌, ℕ, zero, suc, List, [], ◌∷◌, ◌++◌, length, get_or, Some, refl, sym, ◌∙◌, ap, subst, arith}
use Rattle.std.specs.Prelude.{slice_get, slice_set}
use Rattle.std.proofs.lemmas.List.{map-append}
use Rattle.std.proofs.lemmas.Option.{slice_get_within}
use Rattle.lists.proofs.Members.{got_before, got_push}
use Rattle.lane_pool.specs.Work.{WorkedBy, FansOut}
use Rattle.middleware.proofs.LaneStarts.{idle_too}
use Rattle.middleware.proofs.LaneNumbers.{first_numbers, moved, numbers_once, numbers_ascend}

-- one number more
one_number : (n : ℕ) → first_numbers n ++ n ∷ [] ≡ first_numbers (suc n)
one_number zero = refl
one_number (suc n) =
    let e : suc n ≡ 1 + n = omega arith in
    ap (λ k. 0 ∷ (moved 1 (first_numbers n) ++ k ∷ [])) e
    ∙ sym (ap (λ (l : List ℕ). 0 ∷ l) (map-append (λ k. 1 + k) (first_numbers n) (n ∷ [])))
    ∙ ap (λ (l : List ℕ). 0 ∷ moved 1 l) (one_number n)

module _ {W I A : Type 0} (did : W → I → A → W → Type 0) (items : List I) where
  -- a further answer stands behind those of the steps
  still_worked : (answers : List A) (a : A) (ks : List ℕ) (w u : W) → WorkedBy did items answers ks w u → WorkedBy did items (answers ++ a ∷ []) ks w u
  still_worked answers a [] w u s = s
  still_worked answers a (k ∷ ks) w u s = (
    s.0,
    s.1,
    s.2,
    s.3,
    got_before answers (a ∷ []) k (slice_get_within answers k s.1 s.4) ∙ s.4,
    s.5,
    still_worked answers a ks s.2 u s.6,
  )

  then_works : (answers : List A) (ks : List ℕ) (w next u : W) (k : ℕ) (item : I) (a : A) → WorkedBy did items answers ks w next
      → slice_get items k ≡ Some item → slice_get answers k ≡ Some a → did next item a u → WorkedBy did items answers (ks ++ k ∷ []) w u
  then_works answers [] w next u k item a s at got d = (item, a, u, at, got, subst (λ v. did v item a u) (sym s) d, refl)
  then_works answers (x ∷ xs) w next u k item a s at got d =
      (s.0, s.1, s.2, s.3, s.4, s.5, then_works answers xs s.2 next u k item a s.6 at got d)

  -- the next item is worked
  pub works_on : (answers : List A) (w next u : W) (k : ℕ) (item : I) (a : A) → length answers ≡ k → WorkedBy did items answers (first_numbers k) w next
      → slice_get items k ≡ Some item → did next item a u → WorkedBy did items (answers ++ a ∷ []) (first_numbers (k + 1)) w u
  works_on answers w next u k item a long s at d =
      let e : suc k ≡ k + 1 = omega arith in
      subst (λ ks. WorkedBy did items (answers ++ a ∷ []) ks w u) (one_number k ∙ ap first_numbers e)
      (then_works (answers ++ a ∷ []) (first_numbers k) w next u k item a (still_worked answers a (first_numbers k) w next s) at
      (ap (slice_get (answers ++ a ∷ [])) (sym long) ∙ got_push answers a) d)

  -- all items were worked
  pub works_all : (answers : List A) (w u : W) → length answers ≡ length items → WorkedBy did items answers (first_numbers (length items)) w u
      → FansOut did items answers (w ∷ []) (u ∷ [])
  works_all answers w u long s = record {
    len = long;
    lists = first_numbers (length items) ∷ [];
    ascend = numbers_ascend (length items);
    once = numbers_once (length items);
    worked = (s, tt);
  }

  -- the lanes behind the one that works have nothing to do
  pub alone_too : (answers : List A) (used idle all : List W) (d u : W) → length used ≡ 1 → used ++ idle ≡ all
      → FansOut did items answers (get_or used 0 d ∷ []) (u ∷ []) → FansOut did items answers all (slice_set used 0 u ++ idle)
  alone_too answers [] idle all d u one is fanned = absurd (omega (arith, one))
  alone_too answers (w ∷ []) idle all d u one is fanned =
      subst (λ ws. FansOut did items answers ws (u ∷ idle)) is (idle_too did items answers (w ∷ []) (u ∷ []) idle fanned)
  alone_too answers (w ∷ x ∷ used) idle all d u one is fanned = absurd (omega (arith, one))

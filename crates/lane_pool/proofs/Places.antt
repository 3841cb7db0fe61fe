-- Where the answers are put.
use Rattle.std.proofs.Common.{◌≡◌, ℕ, ◌+◌, ◌<◌, List, [], ◌∷◌, ◌++◌, length, get_or, set, All, refl, sym, ap, ◌∙◌, subst, arith, length-append, length-set, append_assoc, Some, Option}
use Rattle.std.proofs.Math.ListN.{get_or-append}
use Rattle.std.proofs.lemmas.List.{get_or-append-add}
use Rattle.lane_pool.specs.Places.{flat, put_at}

module _ {X : Type 0} (P : X → Type 0) where
  pub all_left : (xs ys : List X) → All P (xs ++ ys) → All P xs
  all_left xs ys h k d below = subst P (get_or-append xs ys d k below) (h k d (let a = length-append xs ys in omega arith))

  pub all_right : (xs ys : List X) → All P (xs ++ ys) → All P ys
  all_right xs ys h k d below = subst P (get_or-append-add xs ys k d) (h (length xs + k) d (let a = length-append xs ys in omega arith))

module _ {A : Type 0} where
  pub put_snoc : (ps : List (Option A)) (ds : List (ℕ × A)) (k : ℕ) (a : A) → put_at ps (ds ++ (k, a) ∷ []) ≡ put_at (set ps k (Some a)) ds
  put_snoc ps [] k a = refl
  put_snoc ps (d ∷ ds) k a = ap (λ (qs : List (Option A)). set qs d.0 (Some d.1)) (put_snoc ps ds k a)

  pub put_append : (ps : List (Option A)) (ds es : List (ℕ × A)) → put_at ps (ds ++ es) ≡ put_at (put_at ps es) ds
  put_append ps [] es = refl
  put_append ps (d ∷ ds) es = ap (λ (qs : List (Option A)). set qs d.0 (Some d.1)) (put_append ps ds es)

  pub length-put : (ps : List (Option A)) (ds : List (ℕ × A)) → length (put_at ps ds) ≡ length ps
  length-put ps [] = refl
  length-put ps (d ∷ ds) = length-set (put_at ps ds) d.0 (Some d.1) ∙ length-put ps ds

  pub flat_snoc : (rs : List (List (ℕ × A))) (r : List (ℕ × A)) → flat (rs ++ r ∷ []) ≡ flat rs ++ r
  flat_snoc [] r = append_nil r
    where
      append_nil : (xs : List (ℕ × A)) → xs ++ [] ≡ xs
      append_nil [] = refl
      append_nil (x ∷ xs) = ap (λ t. x ∷ t) (append_nil xs)
  flat_snoc (x ∷ xs) r = ap (λ t. x ++ t) (flat_snoc xs r) ∙ sym (append_assoc x (flat xs) r)

  abbrev pub Inside : List (Option A) → ℕ × A → Type 0
  Inside places d = d.0 < length places

  -- the last of a sheet is put
  pub sheet_step : (places q : List (Option A)) (all rest : List (ℕ × A)) (k : ℕ) (a : A) → all ≡ rest ++ (k, a) ∷ [] → put_at places all ≡ q → All (Inside places) all
      → (put_at (set places k (Some a)) rest ≡ q) × All (Inside (set places k (Some a))) rest
  sheet_step places q all rest k a e same inside = (
    sym (put_snoc places rest k a) ∙ (sym (ap (put_at places) e) ∙ same),
    let left = all_left (Inside places) rest ((k, a) ∷ []) (subst (All (Inside places)) e inside) in λ j d h. subst (λ n. (get_or rest j d).0 < n) (sym (length-set places k (Some a))) (left j d h),
  )

  -- the last sheet is put
  pub last_sheet : (places : List (Option A)) (all rest : List (List (ℕ × A))) (r : List (ℕ × A)) → all ≡ rest ++ r ∷ [] → All (Inside places) (flat all) → All (Inside places) r
  last_sheet places all rest r e inside = all_right (Inside places) (flat rest) r (subst (All (Inside places)) (ap flat e ∙ flat_snoc rest r) inside)

  pub sheets_step : (places next q : List (Option A)) (all rest : List (List (ℕ × A))) (r : List (ℕ × A)) → all ≡ rest ++ r ∷ [] → next ≡ put_at places r → put_at places (flat all) ≡ q → All (Inside places) (flat all)
      → (put_at next (flat rest) ≡ q) × All (Inside next) (flat rest)
  sheets_step places next q all rest r e put same inside =
      let parts = ap flat e ∙ flat_snoc rest r in
      let left = all_left (Inside places) (flat rest) r (subst (All (Inside places)) parts inside) in
      let len = ap length put ∙ length-put places r in (
        ap (λ ps. put_at ps (flat rest)) put ∙ (sym (put_append places (flat rest) r) ∙ (sym (ap (put_at places) parts) ∙ same)),
        λ j d h. subst (λ n. (get_or (flat rest) j d).0 < n) (sym len) (left j d h),
      )

-- Which rows a class has: those of known values one of which is new.
use Rattle.std.proofs.Common.{◌≡◌, ◌⊎◌, ℕ, zero, suc, ◌+◌, Bool, true, false, ◌||◌, List, [], ◌∷◌, ◌++◌, length, refl, sym, ap, subst, inl, inr, ⊎_elim, arith}
use Rattle.std.specs.Prelude.{Contains, map}
use Rattle.std.specs.List.{filter}
use Rattle.std.proofs.lemmas.List.{length_push}
use Rattle.std.proofs.lemmas.List.Elements.{Contains-push_cases, Contains-append_left, Contains-append_right}
use Rattle.lists.proofs.Members.{contains_here, contains_one, contains_none, contains_map, contains_mapped, contains_joined, joined_from, contains_filter, filter_from}
use Rattle.meaning.specs.Values.{Value, Row}
use Rattle.crawl_rounds.specs.Rows.{Marked, MarkedRow, rows_of, class_rows}

-- the last value of a row
parted : (row : Row) (n : ℕ) → length row ≡ suc n → (before : Row) × (last : Value) × (length before ≡ n) × (before ++ last ∷ [] ≡ row)
parted [] n e = absurd (omega arith)
parted (v ∷ []) n e = ([], v, omega arith, refl)
parted (v ∷ w ∷ row) zero e = absurd (omega arith)
parted (v ∷ w ∷ row) (suc n) e = let (before, last, long, is) = parted (w ∷ row) n (omega arith) in (v ∷ before, last, omega (arith, long), ap (λ r. v ∷ r) is)

or_true : (a b : Bool) → a || b ≡ true → (a ≡ true) ⊎ (b ≡ true)
or_true true b e = inl refl
or_true false b e = inr e

or_false : (a b : Bool) → a || b ≡ false → (a ≡ false) × (b ≡ false)
or_false true b e = absurd (cc)
or_false false b e = (refl, e)

module _ (first : Bool) (values : List Marked) where
  -- a row and its mark
  pub record IsRowOf (n : ℕ) (row : MarkedRow) : Type 0 where
    pub long : length row.0 ≡ n
    pub known : (v : Value) → Contains row.0 v → (mark : Bool) × Contains values (v, mark)
    pub fresh : row.1 ≡ true → (first ≡ true) ⊎ ((v : Value) × Contains row.0 v × Contains values (v, true))

  is_row : (n : ℕ) (row : MarkedRow) → Contains (rows_of first values n) row → IsRowOf n row
  is_row zero row c = subst (IsRowOf zero) (contains_one ([], first) row c) (record { long = refl; known = λ v d. absurd (contains_none v d); fresh = inl })
  is_row (suc n) row c =
      let (before, among, d) = joined_from (λ (r : MarkedRow). map (λ (v : Marked). (r.0 ++ v.0 ∷ [], r.1 || v.1)) values) (rows_of first values n) row c in
      let (v, its, e) = contains_mapped (λ (v : Marked). (before.0 ++ v.0 ∷ [], before.1 || v.1)) values row d in
      let rec = is_row n before among in
      let pushed : length (before.0 ++ v.0 ∷ []) ≡ length before.0 + 1 = length_push before.0 v.0 in
      subst (IsRowOf (suc n)) e (record {
        long = omega (arith, rec.long);
        known = λ w k. ⊎_elim (λ k. rec.known w k) (λ f. (v.1, subst (λ u. Contains values (u, v.1)) f its)) (Contains-push_cases before.0 v.0 w k);
        fresh = λ t. ⊎_elim (λ t. ⊎_elim inl (λ (w, k, new). inr (w, Contains-append_left before.0 (v.0 ∷ []) w k, new)) (rec.fresh t))
            (λ t. inr (v.0, Contains-append_right before.0 (v.0 ∷ []) v.0 (contains_here v.0 []), subst (λ b. Contains values (v.0, b)) t its)) (or_true before.1 v.1 t);
      })

  -- a row of known values stands there, and where it is not new all its values are old
  has_row : (n : ℕ) (row : Row) → length row ≡ n → ((v : Value) → Contains row v → (mark : Bool) × Contains values (v, mark)) → (mark : Bool) × Contains (rows_of first values n) (row, mark) × (mark ≡ false → (first ≡ false) × ((v : Value) → Contains row v → Contains values (v, false)))
  has_row zero [] e known = (first, contains_here ([], first) [], λ f. (f, λ v c. absurd (contains_none v c)))
  has_row zero (v ∷ row) e known = absurd (omega arith)
  has_row (suc n) row e known =
      let (before, last, long, is) = parted row n e in
      let (mark, there, old) = has_row n before long (λ v c. known v (subst (λ r. Contains r v) is (Contains-append_left before (last ∷ []) v c))) in
      let (its, among) = known last (subst (λ r. Contains r last) is (Contains-append_right before (last ∷ []) last (contains_here last []))) in (
        mark || its,
        subst (λ r. Contains (rows_of first values (suc n)) (r, mark || its)) is
            (contains_joined (λ (r : MarkedRow). map (λ (v : Marked). (r.0 ++ v.0 ∷ [], r.1 || v.1)) values) (rows_of first values n) (before, mark) (before ++ last ∷ [], mark || its) there
            (contains_map (λ (v : Marked). (before ++ v.0 ∷ [], mark || v.1)) values (last, its) among)),
        λ f.
            let (of_before, of_last) = or_false mark its f in
            let (none, olds) = old of_before in
            (none, λ v c. ⊎_elim (λ k. olds v k) (λ g. subst (λ u. Contains values (u, false)) g (subst (λ b. Contains values (last, b)) of_last among)) (Contains-push_cases before last v (subst (λ r. Contains r v) (sym is) c))),
      )

  pub record IsClassRow (n : ℕ) (row : Row) : Type 0 where
    pub long : length row ≡ n
    pub known : (v : Value) → Contains row v → (mark : Bool) × Contains values (v, mark)
    pub fresh : (first ≡ true) ⊎ ((v : Value) × Contains row v × Contains values (v, true))

  pub is_class_row : (n : ℕ) (row : Row) → Contains (class_rows first values n) row → IsClassRow n row
  is_class_row n row c =
      let (marked, among, e) = contains_mapped (λ (r : MarkedRow). r.0) (filter (λ (r : MarkedRow). r.1) (rows_of first values n)) row c in
      let (there, new) = filter_from (λ (r : MarkedRow). r.1) (rows_of first values n) marked among in
      let its = is_row n marked there in
      subst (IsClassRow n) e (record { long = its.long; known = its.known; fresh = its.fresh new })

  -- a row of known values is one of the class, or a round was asked and all its values are old
  pub class_row_or_old : (n : ℕ) (row : Row) → length row ≡ n → ((v : Value) → Contains row v → (mark : Bool) × Contains values (v, mark)) → Contains (class_rows first values n) row ⊎ ((first ≡ false) × ((v : Value) → Contains row v → Contains values (v, false)))
  class_row_or_old n row e known = let (mark, there, old) = has_row n row e known in either mark there old
    where
      either : (mark : Bool) → Contains (rows_of first values n) (row, mark) → (mark ≡ false → (first ≡ false) × ((v : Value) → Contains row v → Contains values (v, false))) → Contains (class_rows first values n) row ⊎ ((first ≡ false) × ((v : Value) → Contains row v → Contains values (v, false)))
      either true there old = inl (contains_map (λ (r : MarkedRow). r.0) (filter (λ (r : MarkedRow). r.1) (rows_of first values n)) (row, true) (contains_filter (λ (r : MarkedRow). r.1) (rows_of first values n) (row, true) there refl))
      either false there old = inr (old refl)

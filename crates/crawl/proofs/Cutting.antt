-- What is left of lists of lists, as pieces are cut off in front.
use Rattle.std.proofs.Common.{◌≡◌, ◌∙◌, ◌+◌, ◌≤◌, ℕ, zero, suc, List, [], ◌∷◌, ◌++◌, length, drop, map, append_assoc, None, Some, refl, sym, ap, arith}
use Rattle.std.specs.Prelude.{slice_get, flat_map}
use Rattle.lists.proofs.Members.{some_injective}
use Rattle.crawl.specs.Pieces.{joined, left_in, left_from}

module _ {X : Type 0} where
  drop_got : (xs : List X) (k : ℕ) (x : X) → slice_get xs k ≡ Some x → drop k xs ≡ x ∷ drop (suc k) xs
  drop_got [] k x at = absurd (cc)
  drop_got (y ∷ xs) zero x at = ap (λ (z : X). z ∷ xs) (some_injective y x at)
  drop_got (y ∷ xs) (suc k) x at = drop_got xs k x at

  pub drop_past : (xs : List X) (k : ℕ) → length xs ≤ k → drop k xs ≡ []
  drop_past [] zero far = refl
  drop_past [] (suc k) far = refl
  drop_past (y ∷ xs) zero far = absurd (omega arith)
  drop_past (y ∷ xs) (suc k) far = drop_past xs k (omega arith)

  -- one more was cut off
  pub one_cut : (front now list : List X) (k : ℕ) (x : X) → slice_get list k ≡ Some x → now ≡ front ++ x ∷ []
      → now ++ drop (k + 1) list ≡ front ++ drop k list
  one_cut front now list k x at is =
      let one : k + 1 ≡ suc k = omega arith in
      ap (λ (l : List X). l ++ drop (k + 1) list) is ∙ append_assoc front (x ∷ []) (drop (k + 1) list)
      ∙ ap (λ n. front ++ x ∷ drop n list) one
      ∙ ap (λ (l : List X). front ++ l) (sym (drop_got list k x at))

  -- the same before something that is behind it
  cut_before : (front now left over last : List X) → now ++ over ≡ front ++ left
      → now ++ (over ++ last) ≡ front ++ (left ++ last)
  cut_before front now left over last is =
      sym (append_assoc now over last) ∙ ap (λ (l : List X). l ++ last) is ∙ append_assoc front left last

  -- ---- blocks

  left_whole : (blocks : List (List X)) → left_in blocks 0 0 ≡ joined blocks
  left_whole [] = refl
  left_whole (block ∷ blocks) = refl

  module _ {R : Type 0} (f : R → List X) where
    left_here : (rows : List R) (k value : ℕ) (row : R) → slice_get rows k ≡ Some row
        → left_in (map f rows) k value ≡ drop value (f row) ++ left_in (map f rows) (suc k) 0
    left_here [] k value row at = absurd (cc)
    left_here (r ∷ rows) zero value row at =
        ap (λ (s : R). drop value (f s) ++ joined (map f rows)) (some_injective r row at)
        ∙ ap (λ (l : List X). drop value (f row) ++ l) (sym (left_whole (map f rows)))
    left_here (r ∷ rows) (suc k) value row at = left_here rows k value row at

    left_none : (rows : List R) (k value : ℕ) → slice_get rows k ≡ None → left_in (map f rows) k value ≡ []
    left_none [] k value at = refl
    left_none (r ∷ rows) zero value at = absurd (cc)
    left_none (r ∷ rows) (suc k) value at = left_none rows k value at

    module _ (rows : List R) (now all : List X) (k value : ℕ) (so_far : now ++ left_in (map f rows) k value ≡ all) where
      -- there is no further block
      pub blocks_through : slice_get rows k ≡ None → now ++ [] ≡ all
      blocks_through at = ap (λ (l : List X). now ++ l) (sym (left_none rows k value at)) ∙ so_far

      -- a part of the block was cut off, or the rest of it
      module _ (row : R) (at : slice_get rows k ≡ Some row) (next : List X) (over : ℕ) (cut : next ++ drop over (f row) ≡ now ++ drop value (f row)) where
        pub block_cut : next ++ left_in (map f rows) k over ≡ all
        block_cut =
            ap (λ (l : List X). next ++ l) (left_here rows k over row at)
            ∙ cut_before now next (drop value (f row)) (drop over (f row)) (left_in (map f rows) (suc k) 0) cut
            ∙ ap (λ (l : List X). now ++ l) (sym (left_here rows k value row at)) ∙ so_far

        pub block_through : drop over (f row) ≡ [] → (n : ℕ) → n ≡ k + 1 → next ++ left_in (map f rows) n 0 ≡ all
        block_through none n is =
            let one : n ≡ suc k = omega (arith, is) in
            ap (λ m. next ++ left_in (map f rows) m 0) one
            ∙ ap (λ (l : List X). next ++ (l ++ left_in (map f rows) (suc k) 0)) (sym none)
            ∙ ap (λ (l : List X). next ++ l) (sym (left_here rows k over row at)) ∙ block_cut

  -- ---- classes of blocks

  pub classes_whole : (classes : List (List (List X))) → left_from classes 0 0 0 ≡ flat_map (λ its. joined its) classes
  classes_whole [] = refl
  classes_whole (blocks ∷ classes) = ap (λ (l : List X). l ++ flat_map (λ its. joined its) classes) (left_whole blocks)

  module _ {C : Type 0} (f : C → List (List X)) where
    class_here : (classes : List C) (k row value : ℕ) (class : C) → slice_get classes k ≡ Some class
        → left_from (map f classes) k row value ≡ left_in (f class) row value ++ left_from (map f classes) (suc k) 0 0
    class_here [] k row value class at = absurd (cc)
    class_here (c ∷ classes) zero row value class at =
        ap (λ (d : C). left_in (f d) row value ++ flat_map (λ its. joined its) (map f classes)) (some_injective c class at)
        ∙ ap (λ (l : List X). left_in (f class) row value ++ l) (sym (classes_whole (map f classes)))
    class_here (c ∷ classes) (suc k) row value class at = class_here classes k row value class at

    pub class_none : (classes : List C) (k row value : ℕ) → length classes ≤ k
        → left_from (map f classes) k row value ≡ []
    class_none [] k row value far = refl
    class_none (c ∷ classes) zero row value far = absurd (omega arith)
    class_none (c ∷ classes) (suc k) row value far = class_none classes k row value (omega arith)

    module _ (classes : List C) (now all : List X) (k row value : ℕ) (so_far : now ++ left_from (map f classes) k row value ≡ all)
        (class : C) (at : slice_get classes k ≡ Some class) (next : List X) where
      -- a part of the class was cut off, or the rest of it
      pub class_cut : (n its over : ℕ) → n ≡ k → next ++ left_in (f class) its over ≡ now ++ left_in (f class) row value
          → next ++ left_from (map f classes) n its over ≡ all
      class_cut n its over is cut =
          ap (λ m. next ++ left_from (map f classes) m its over) is
          ∙ ap (λ (l : List X). next ++ l) (class_here classes k its over class at)
          ∙ cut_before now next (left_in (f class) row value) (left_in (f class) its over) (left_from (map f classes) (suc k) 0 0) cut
          ∙ ap (λ (l : List X). now ++ l) (sym (class_here classes k row value class at)) ∙ so_far

      pub class_through : (n : ℕ) → n ≡ k + 1 → next ++ [] ≡ now ++ left_in (f class) row value
          → next ++ left_from (map f classes) n 0 0 ≡ all
      class_through n is cut =
          let one : n ≡ suc k = omega (arith, is) in
          ap (λ m. next ++ left_from (map f classes) m 0 0) one
          ∙ cut_before now next (left_in (f class) row value) [] (left_from (map f classes) (suc k) 0 0) cut
          ∙ ap (λ (l : List X). now ++ l) (sym (class_here classes k row value class at)) ∙ so_far

-- Numbers counted round.
use Rattle.std.proofs.Common.{◌≡◌, ◌+◌, ◌-◌, ◌*◌, ◌/◌, ◌%◌, ◌<◌, ◌≤◌, ◌⊎◌, inl, inr, ℕ, ap, ◌∙◌, arith}
use Rattle.std.proofs.lemmas.Bool.{cases_lt}
use Rattle.std.proofs.lemmas.Nat.{div-add-mod', mod-mul-add, mod_below}

module _ (k n : ℕ) (some : 1 ≤ n) where
  -- the number that leads to j, by cases
  back : (j : ℕ) → j < n → ((k % n ≤ j) × ((j + n - k % n) % n ≡ j - k % n)) ⊎ ((j < k % n) × ((j + n - k % n) % n ≡ j + n - k % n))
  back j below =
      let less = mod_below k n some in
      elim (cases_lt j (k % n)) [
        | inr low ↦
            let is : j + n - k % n ≡ 1 * n + (j - k % n) = omega (arith, low, less) in
            inl (low, ap (λ m. m % n) is ∙ mod-mul-add 1 n (j - k % n) (omega (arith, below)))
        | inl high ↦
            let is : j + n - k % n ≡ 0 * n + (j + n - k % n) = omega arith in
            inr (high, ap (λ m. m % n) is ∙ mod-mul-add 0 n (j + n - k % n) (omega (arith, high, below)))
      ]

  -- it leads to j
  pub leads : (j : ℕ) → j < n → ((j + n - k % n) % n + k) % n ≡ j
  leads j below =
      let less = mod_below k n some in
      let parts = div-add-mod' k n in
      elim (back j below) [
        | inl h ↦
            let is : (j + n - k % n) % n + k ≡ (k / n) * n + j = omega (arith, h.0, h.1, parts) in
            ap (λ m. m % n) is ∙ mod-mul-add (k / n) n j below
        | inr h ↦
            let is : (j + n - k % n) % n + k ≡ (k / n + 1) * n + j = omega (arith, h.0, h.1, parts, less) in
            ap (λ m. m % n) is ∙ mod-mul-add (k / n + 1) n j below
      ]

  -- what a number below n leads to, by cases
  ahead : (i : ℕ) → i < n → ((i + k % n < n) × ((i + k) % n ≡ i + k % n)) ⊎ ((n ≤ i + k % n) × ((i + k) % n ≡ i + k % n - n))
  ahead i below =
      let less = mod_below k n some in
      let parts = div-add-mod' k n in
      elim (cases_lt (i + k % n) n) [
        | inr high ↦
            let is : i + k ≡ (k / n + 1) * n + (i + k % n - n) = omega (arith, parts, high) in
            inr (high, ap (λ m. m % n) is ∙ mod-mul-add (k / n + 1) n (i + k % n - n) (omega (arith, less, below)))
        | inl low ↦
            let is : i + k ≡ (k / n) * n + (i + k % n) = omega (arith, parts) in
            inl (low, ap (λ m. m % n) is ∙ mod-mul-add (k / n) n (i + k % n) low)
      ]

  -- no two numbers lead to one
  pub lead_apart : (i j : ℕ) → i < n → j < n → (i + k) % n ≡ (j + k) % n → i ≡ j
  lead_apart i j below there same =
      let less = mod_below k n some in
      elim (ahead i below) [
        | inl a ↦ elim (ahead j there) [ inl b ↦ omega (arith, a.1, b.1, same) | inr b ↦ omega (arith, a.0, a.1, b.0, b.1, same, less, below, there) ]
        | inr a ↦ elim (ahead j there) [ inl b ↦ omega (arith, a.0, a.1, b.0, b.1, same, less, below, there) | inr b ↦ omega (arith, a.0, a.1, b.0, b.1, same) ]
      ]

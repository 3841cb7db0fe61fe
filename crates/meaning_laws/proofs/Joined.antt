-- One function below a number, and another from it on.
use Rattle.std.proofs.Common.{◌≡◌, ℕ, ◌+◌, ◌-◌, ◌<◌, arith}
use Rattle.std.proofs.lemmas.Bool.Decides.{nat_tests}
use Rattle.meaning.specs.Triggers.{joined}

pub joined_below : {V : Type 0} (n : ℕ) (f g : ℕ → V) (x : ℕ) → x < n → joined n f g x ≡ f x
joined_below n f g x l = grind (arith, nat_tests)

pub joined_above : {V : Type 0} (n : ℕ) (f g : ℕ → V) (i : ℕ) → joined n f g (n + i) ≡ g i
joined_above n f g i = let e : n + i - n ≡ i = omega arith in grind (arith, nat_tests)

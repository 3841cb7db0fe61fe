-- The members at the same places of lists that are as long.
use Rattle.std.specs.Prelude.{◌≡◌, ℕ, List, Some, length, slice_get}

-- those of two lists
pub record Both {A B : Type 0} (R : A → B → Type 0) (xs : List A) (ys : List B) : Type 0 where
  pub long : length ys ≡ length xs
  pub at : (k : ℕ) (x : A) (y : B) → slice_get xs k ≡ Some x → slice_get ys k ≡ Some y → R x y

-- those of three lists
pub record Each {A B C : Type 0} (R : A → B → C → Type 0) (xs : List A) (ys : List B) (zs : List C) : Type 0 where
  pub second : length ys ≡ length xs
  pub third : length zs ≡ length xs
  pub at : (k : ℕ) (x : A) (y : B) (z : C) → slice_get xs k ≡ Some x → slice_get ys k ≡ Some y → slice_get zs k ≡ Some z → R x y z

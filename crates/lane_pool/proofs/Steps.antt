-- Steps of workers, one after another.
use Rattle.std.proofs.Common.{◌≡◌, ℕ, zero, suc, ◌<◌, List, [], ◌∷◌, ◌++◌, length, map, get_or, refl, sym, ap, subst, arith, Some}
use Rattle.std.specs.Prelude.{slice_get}
use Rattle.lane_pool.specs.Lanes.{Steps}

module _ {W I A : Type 0} (did : W → I → A → W → Type 0) (items : List I) where
  -- one step more
  pub steps_snoc : (ds : List (ℕ × A)) (w next u : W) (k : ℕ) (item : I) (answer : A) → Steps did items ds w next → slice_get items k ≡ Some item → did next item answer u → Steps did items (ds ++ (k, answer) ∷ []) w u
  steps_snoc [] w next u k item answer s at d = (item, u, at, subst (λ v. did v item answer u) (sym s) d, refl)
  steps_snoc (x ∷ xs) w next u k item answer s at d = (s.0, s.1, s.2, s.3, steps_snoc xs s.1 next u k item answer s.4 at d)

pub slice_get_at : {X : Type 0} (xs : List X) (k : ℕ) (x : X) → k < length xs → x ≡ get_or xs k x → slice_get xs k ≡ Some x
slice_get_at [] k x h e = absurd (omega arith)
slice_get_at (y ∷ ys) zero x h e = ap Some (sym e)
slice_get_at (y ∷ ys) (suc k) x h e = slice_get_at ys k x (omega arith) e

pub firsts_snoc : {A : Type 0} (ds : List (ℕ × A)) (k : ℕ) (a : A) → map (λ (d : ℕ × A). d.0) (ds ++ (k, a) ∷ []) ≡ map (λ (d : ℕ × A). d.0) ds ++ k ∷ []
firsts_snoc [] k a = refl
firsts_snoc (x ∷ xs) k a = ap (λ l. x.0 ∷ l) (firsts_snoc xs k a)

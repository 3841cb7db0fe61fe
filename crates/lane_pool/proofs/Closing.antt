-- What is known once the table is closed.
use Rattle.std.proofs.Common.{◌≡◌, ℕ, ◌≤◌, List, [], ◌∷◌, ◌++◌, length, take, drop, refl, sym, ap, ◌∙◌, subst, arith}
use Rattle.std.proofs.lemmas.List.{take-append-le}
use Rattle.atomic_table.specs.Table.{Me, Final, Seen}
use Rattle.lane_pool.specs.declared.seats.View.{View}
use Rattle.lane_pool.specs.Seats.{view, RuleHolds}
use Rattle.lane_pool.specs.Lanes.{Ran, LanesEnded}
use Rattle.lane_pool.proofs.Moves.{closes}
use Rattle.lane_pool.proofs.FansOut.{short}

-- a slice of a whole `Vec`, written back
pub refilled : {X : Type 0} (n : ℕ) (xs ys : List X) → length xs ≡ n → length ys ≡ n → take n (xs ++ drop (length xs) ys) ≡ xs
refilled n xs ys a b = take-append-le n xs (drop (length xs) ys) (omega arith) ∙ (ap (λ k. take k xs) (sym a) ∙ take_all xs)
  where
    take_all : {X : Type 0} (xs : List X) → take (length xs) xs ≡ xs
    take_all [] = refl
    take_all (x ∷ xs) = ap (λ t. x ∷ t) (take_all xs)

module _ {W I A : Type 0} (did : W → I → A → W → Type 0) (items : List I) where
  pub lanes_ended : (parts : ℕ) (ss : List (List (ℕ × A))) (ws us : List W) (id : ℕ) (me : Me (Unit {0}) View) (words : List ℕ) (slots : List (Unit {0})) → parts ≡ 8 → Ran did items parts ss ws us me
      → length items ≤ 1000000 → length ws ≤ 8 → Final (Seen RuleHolds id me.0) words slots → LanesEnded did items ss ws us
  lanes_ended parts ss ws us id me words slots whole ran small few final =
      let few_numbers = short did items ran.0 ss ws us ran.2 small few in
      let at = subst (λ (m : Me (Unit {0}) View). Final (Seen RuleHolds id m.0) words slots) ran.1 final in
      let c = closes id (view ran.0 parts) words slots whole few_numbers at in
      record { drawn = ran.0; word = c.0; ascend = c.2; once = c.3; did_all = ran.2 }

-- How many sets there are, and what the last of some exposures costs.
use Rattle.std.proofs.Common.{◌≡◌, ℕ, zero, suc, ◌+◌, ◌^◌, ◌≤◌, List, [], ◌∷◌, ◌++◌, length, Bool, true, false, sym, subst, arith, append_assoc, pow-suc}
use Rattle.std.proofs.lemmas.List.{append-nil}
use Rattle.lists.proofs.Members.{contains_here, contains_there}
use Rattle.meaning.specs.declared.types.Ground.{Ground}
use Rattle.meaning.specs.declared.types.SchemaParts.{SchemaParts}
use Rattle.meaning.specs.Extract.{Exposure, exposed_facts, Exposes, IsExposing, exposures_cost}
use Rattle.meaning.specs.Search.{AreDistinct, AreSets}
use Rattle.meaning.proofs.Subsets.{with_true, with_false, true_back, false_back, true_distinct, false_distinct}

halves : (n : ℕ) (sets : List (List Bool)) → AreSets (suc n) sets → length sets ≡ length (with_true sets) + length (with_false sets)
unfolding with_true with_false
halves n [] are = omega arith
halves n ([] ∷ sets) are = let none : 0 ≡ suc n = are [] (contains_here [] sets) in absurd (omega arith)
halves n ((true ∷ first) ∷ sets) are = let rest : length sets ≡ length (with_true sets) + length (with_false sets) = halves n sets (λ s c. are s (contains_there (true ∷ first) sets s c)) in omega arith
halves n ((false ∷ first) ∷ sets) are = let rest : length sets ≡ length (with_true sets) + length (with_false sets) = halves n sets (λ s c. are s (contains_there (false ∷ first) sets s c)) in omega arith

-- distinct sets of n facts are at most 2 ^ n
pub sets_bound : (n : ℕ) (sets : List (List Bool)) → AreSets n sets → AreDistinct sets → length sets ≤ 2 ^ n
sets_bound zero [] are d = omega arith
sets_bound zero (first ∷ []) are d = omega arith
sets_bound zero ([] ∷ [] ∷ sets) are d = absurd (d.0 (contains_here [] sets))
sets_bound zero ((b ∷ first) ∷ second ∷ sets) are d = let none : suc (length first) ≡ 0 = are (b ∷ first) (contains_here (b ∷ first) (second ∷ sets)) in absurd (omega arith)
sets_bound zero ([] ∷ (b ∷ second) ∷ sets) are d = let none : suc (length second) ≡ 0 = are (b ∷ second) (contains_there [] ((b ∷ second) ∷ sets) (b ∷ second) (contains_here (b ∷ second) sets)) in absurd (omega arith)
sets_bound (suc n) sets are d =
    let yes_half : length (with_true sets) ≤ 2 ^ n = sets_bound n (with_true sets) (λ s c. shorter (are (true ∷ s) (true_back sets s c))) (true_distinct sets d) in
    let no_half : length (with_false sets) ≤ 2 ^ n = sets_bound n (with_false sets) (λ s c. shorter (are (false ∷ s) (false_back sets s c))) (false_distinct sets d) in
    let whole : length sets ≡ length (with_true sets) + length (with_false sets) = halves n sets are in
    let double : 2 ^ suc n ≡ 2 ^ n + 2 ^ n = doubled n in
    omega arith
  where
    shorter : {m n : ℕ} → suc m ≡ suc n → m ≡ n
    shorter {m} {n} e = omega arith

    doubled : (n : ℕ) → 2 ^ suc n ≡ 2 ^ n + 2 ^ n
    doubled n = rw pow-suc (omega arith)

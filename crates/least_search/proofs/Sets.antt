-- Sets of marks.
use Rattle.std.proofs.Common.{◌≡◌, ℕ, zero, suc, List, [], ◌∷◌, length, Bool, true, false, Some, slice_get, refl, ap}
use Rattle.std.specs.Prelude.{replicate, slice_set}
use Rattle.least_search.specs.Walks.{no_facts}

-- the empty set has no mark
pub none_is : (n : ℕ) → replicate n false ≡ no_facts n
none_is zero = refl
none_is (suc n) = ap (λ s. false ∷ s) (none_is n)

pub none_length : (n : ℕ) → length (no_facts n) ≡ n
none_length zero = refl
none_length (suc n) = ap suc (none_length n)

-- a mark that is there
pub marked_again : (set : List Bool) (fact : ℕ) → slice_get set fact ≡ Some true → slice_set set fact true ≡ set
marked_again [] fact e = refl
marked_again (mark ∷ set) zero e = let h : true ≡ mark = cc in ap (λ m. m ∷ set) h
marked_again (mark ∷ set) (suc fact) e = ap (λ s. mark ∷ s) (marked_again set fact e)

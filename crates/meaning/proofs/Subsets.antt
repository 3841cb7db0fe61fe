-- Sets as lists of Booleans: those that begin with true, and with false. Crates above cite these lemmas.
use Rattle.std.proofs.Common.{List, [], ◌∷◌, Bool, true, false, subst, ⊎_elim, arith}
use Rattle.std.specs.Prelude.{Contains}
use Rattle.lists.proofs.Members.{contains_here, contains_there, contains_cases}
use Rattle.meaning.specs.Search.{AreDistinct}

-- the rests of the sets that begin with true, and with false
unfoldable pub with_true : List (List Bool) → List (List Bool)
with_true [] = []
with_true ([] ∷ sets) = with_true sets
with_true ((true ∷ set) ∷ sets) = set ∷ with_true sets
with_true ((false ∷ set) ∷ sets) = with_true sets

unfoldable pub with_false : List (List Bool) → List (List Bool)
with_false [] = []
with_false ([] ∷ sets) = with_false sets
with_false ((true ∷ set) ∷ sets) = with_false sets
with_false ((false ∷ set) ∷ sets) = set ∷ with_false sets

pub true_back : (sets : List (List Bool)) (set : List Bool) → Contains (with_true sets) set → Contains sets (true ∷ set)
unfolding with_true
true_back [] set c = absurd (omega arith)
true_back ([] ∷ sets) set c = contains_there [] sets (true ∷ set) (true_back sets set c)
true_back ((false ∷ first) ∷ sets) set c = contains_there (false ∷ first) sets (true ∷ set) (true_back sets set c)
true_back ((true ∷ first) ∷ sets) set c =
    ⊎_elim (λ e. subst (λ s. Contains ((true ∷ first) ∷ sets) (true ∷ s)) e (contains_here (true ∷ first) sets)) (λ h. contains_there (true ∷ first) sets (true ∷ set) (true_back sets set h)) (contains_cases first (with_true sets) set c)

pub false_back : (sets : List (List Bool)) (set : List Bool) → Contains (with_false sets) set → Contains sets (false ∷ set)
unfolding with_false
false_back [] set c = absurd (omega arith)
false_back ([] ∷ sets) set c = contains_there [] sets (false ∷ set) (false_back sets set c)
false_back ((true ∷ first) ∷ sets) set c = contains_there (true ∷ first) sets (false ∷ set) (false_back sets set c)
false_back ((false ∷ first) ∷ sets) set c =
    ⊎_elim (λ e. subst (λ s. Contains ((false ∷ first) ∷ sets) (false ∷ s)) e (contains_here (false ∷ first) sets)) (λ h. contains_there (false ∷ first) sets (false ∷ set) (false_back sets set h)) (contains_cases first (with_false sets) set c)

pub true_distinct : (sets : List (List Bool)) → AreDistinct sets → AreDistinct (with_true sets)
unfolding with_true
true_distinct [] d = tt
true_distinct ([] ∷ sets) d = true_distinct sets d.1
true_distinct ((false ∷ first) ∷ sets) d = true_distinct sets d.1
true_distinct ((true ∷ first) ∷ sets) d = ((λ c. d.0 (true_back sets first c)), true_distinct sets d.1)

pub false_distinct : (sets : List (List Bool)) → AreDistinct sets → AreDistinct (with_false sets)
unfolding with_false
false_distinct [] d = tt
false_distinct ([] ∷ sets) d = false_distinct sets d.1
false_distinct ((true ∷ first) ∷ sets) d = false_distinct sets d.1
false_distinct ((false ∷ first) ∷ sets) d = ((λ c. d.0 (false_back sets first c)), false_distinct sets d.1)

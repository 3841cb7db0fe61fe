-- How many sets there are within one set, and a walk to a set that holds several.
use Rattle.std.proofs.Common.{◌≡◌, ◌⊎◌, ℕ, zero, suc, ◌+◌, ◌*◌, ◌^◌, ◌≤◌, List, [], ◌∷◌, ◌++◌, length, Bool, true, false, Some, sym, refl, ap, subst, inl, inr, ⊎_elim, arith, pow-suc}
use Rattle.std.proofs.lemmas.List.{length-map}
use Rattle.std.specs.Prelude.{Contains, slice_set, slice_get}
use Rattle.lists.proofs.Members.{contains_here, contains_there, contains_cases, contains_mapped}
use Rattle.least_search.specs.declared.space.Move.{Move}
use Rattle.least_search.specs.Ways.{Way, IsWay}
use Rattle.meaning.specs.Search.{AreDistinct}
use Rattle.meaning.proofs.Subsets.{with_true, with_false, true_back, false_back, true_distinct, false_distinct}
use Rattle.least_search.specs.Walks.{IsWalk, no_facts, IsSubset, IsSpace}
use Rattle.least_search.specs.Frontier.{sets_of}
use Rattle.least_search.specs.Costs.{IsEnough}
use Rattle.least_search.proofs.Searched.{IsCounted}

halves : (m : Bool) (mask : List Bool) (sets : List (List Bool)) → ((s : List Bool) → Contains sets s → IsSubset s (m ∷ mask)) → length sets ≡ length (with_true sets) + length (with_false sets)
unfolding with_true with_false
halves m mask [] are = omega arith
halves m mask ([] ∷ sets) are = absurd (are [] (contains_here [] sets))
halves m mask ((true ∷ first) ∷ sets) are = let rest : length sets ≡ length (with_true sets) + length (with_false sets) = halves m mask sets (λ s c. are s (contains_there (true ∷ first) sets s c)) in omega arith
halves m mask ((false ∷ first) ∷ sets) are = let rest : length sets ≡ length (with_true sets) + length (with_false sets) = halves m mask sets (λ s c. are s (contains_there (false ∷ first) sets s c)) in omega arith

pub count : List Bool → ℕ
count [] = 0
count (true ∷ bs) = suc (count bs)
count (false ∷ bs) = count bs

-- distinct sets within one set are at most 2 ^ as many as its facts
pub sets_within : (mask : List Bool) (sets : List (List Bool)) → ((s : List Bool) → Contains sets s → IsSubset s mask) → AreDistinct sets → length sets ≤ 2 ^ count mask
unfolding count
sets_within [] [] are d = omega arith
sets_within [] (first ∷ []) are d = omega arith
sets_within [] ([] ∷ [] ∷ sets) are d = absurd (d.0 (contains_here [] sets))
sets_within [] ((b ∷ first) ∷ second ∷ sets) are d = absurd (are (b ∷ first) (contains_here (b ∷ first) (second ∷ sets)))
sets_within [] ([] ∷ (b ∷ second) ∷ sets) are d = absurd (are (b ∷ second) (contains_there [] ((b ∷ second) ∷ sets) (b ∷ second) (contains_here (b ∷ second) sets)))
sets_within (true ∷ mask) sets are d =
    let yes_half : length (with_true sets) ≤ 2 ^ count mask = sets_within mask (with_true sets) (λ s c. (are (true ∷ s) (true_back sets s c)).1) (true_distinct sets d) in
    let no_half : length (with_false sets) ≤ 2 ^ count mask = sets_within mask (with_false sets) (λ s c. (are (false ∷ s) (false_back sets s c)).1) (false_distinct sets d) in
    let whole : length sets ≡ length (with_true sets) + length (with_false sets) = halves true mask sets are in
    let double : 2 ^ suc (count mask) ≡ 2 ^ count mask + 2 ^ count mask = doubled (count mask) in
    omega arith
  where
    doubled : (n : ℕ) → 2 ^ suc n ≡ 2 ^ n + 2 ^ n
    doubled n = rw pow-suc (omega arith)
sets_within (false ∷ mask) sets are d =
    let none : length (with_true sets) ≡ 0 = empty (with_true sets) (λ s c. (are (true ∷ s) (true_back sets s c)).0 refl) in
    let no_half : length (with_false sets) ≤ 2 ^ count mask = sets_within mask (with_false sets) (λ s c. (are (false ∷ s) (false_back sets s c)).1) (false_distinct sets d) in
    let whole : length sets ≡ length (with_true sets) + length (with_false sets) = halves false mask sets are in
    omega arith
  where
    empty : (xs : List (List Bool)) → ((s : List Bool) → Contains xs s → false ≡ true) → length xs ≡ 0
    empty [] all = refl
    empty (x ∷ xs) all = absurd (let e : false ≡ true = all x (contains_here x xs) in cc)

-- about one more fact of a set
within_self : (s : List Bool) → IsSubset s s
within_self [] = tt
within_self (b ∷ s) = ((λ e. e), within_self s)

within_chain : (s t u : List Bool) → IsSubset s t → IsSubset t u → IsSubset s u
within_chain [] [] [] a b = tt
within_chain [] [] (c ∷ u) a b = absurd b
within_chain [] (c ∷ t) u a b = absurd a
within_chain (c ∷ s) [] u a b = absurd a
within_chain (c ∷ s) (d ∷ t) [] a b = absurd b
within_chain (c ∷ s) (d ∷ t) (e ∷ u) a b = ((λ h. b.0 (a.0 h)), within_chain s t u a.1 b.1)

within_more : (s : List Bool) (i : ℕ) → IsSubset s (slice_set s i true)
within_more [] i = tt
within_more (b ∷ s) zero = ((λ e. refl), within_self s)
within_more (b ∷ s) (suc i) = ((λ e. e), within_more s i)

within_both : (s t : List Bool) (i : ℕ) → IsSubset s t → IsSubset (slice_set s i true) (slice_set t i true)
within_both [] [] i w = tt
within_both [] (c ∷ t) i w = absurd w
within_both (b ∷ s) [] i w = absurd w
within_both (b ∷ s) (c ∷ t) zero w = ((λ e. refl), w.1)
within_both (b ∷ s) (c ∷ t) (suc i) w = (w.0, within_both s t i w.1)

within_there : (s t : List Bool) (i : ℕ) → IsSubset s t → slice_get t i ≡ Some true → IsSubset (slice_set s i true) t
within_there [] [] i w e = tt
within_there [] (c ∷ t) i w e = absurd w
within_there (b ∷ s) [] i w e = absurd w
within_there (b ∷ s) (c ∷ t) zero w e = ((λ _. (let h : Some c ≡ Some true = e in cc)), w.1)
within_there (b ∷ s) (c ∷ t) (suc i) w e = (w.0, within_there s t i w.1 e)

-- within a larger set a mark is there too, so a fact of the smaller set's range is there or not
there_or_not : (s t : List Bool) (i : ℕ) → IsSubset s t → slice_get s i ≡ Some false → (slice_get t i ≡ Some true) ⊎ (slice_get t i ≡ Some false)
there_or_not [] t i w e = absurd (cc)
there_or_not (b ∷ s) [] i w e = absurd w
there_or_not (b ∷ s) (true ∷ t) zero w e = inl refl
there_or_not (b ∷ s) (false ∷ t) zero w e = inr refl
there_or_not (b ∷ s) (c ∷ t) (suc i) w e = there_or_not s t i w.1 e

count_more : (s : List Bool) (i : ℕ) → slice_get s i ≡ Some false → count (slice_set s i true) ≡ suc (count s)
unfolding count
count_more [] i e = absurd (cc)
count_more (true ∷ s) zero e = absurd (let h : Some true ≡ Some false = e in cc)
count_more (false ∷ s) zero e = refl
count_more (true ∷ s) (suc i) e = ap suc (count_more s i e)
count_more (false ∷ s) (suc i) e = count_more s i e

count_none : (n : ℕ) → count (no_facts n) ≡ 0
unfolding count
count_none zero = refl
count_none (suc n) = count_none n

walk_within : (CanMove : List Bool → Move → Type 0) (set : List Bool) (moves : List Move) (end : List Bool) → IsWalk CanMove set moves end → IsSubset set end
walk_within CanMove set [] end e = subst (λ s. IsSubset set s) (sym e) (within_self set)
walk_within CanMove set (move ∷ moves) end (can, walk) = within_chain set (slice_set set move.fact true) end (within_more set move.fact) (walk_within CanMove (slice_set set move.fact true) moves end walk)

pub push_walk : (CanMove : List Bool → Move → Type 0) (set : List Bool) (moves : List Move) (end : List Bool) (move : Move) → IsWalk CanMove set moves end → CanMove end move → IsWalk CanMove set (moves ++ move ∷ []) (slice_set end move.fact true)
push_walk CanMove set [] end move e can = (subst (λ s. CanMove s move) e can, ap (λ s. slice_set s move.fact true) e)
push_walk CanMove set (first ∷ moves) end move (here, walk) can = (here, push_walk CanMove (slice_set set first.fact true) moves end move walk can)

module _ (n : ℕ) (CanMove : List Bool → Move → Type 0) (HasRun : List Move → ℕ → Type 0) (space : IsSpace n CanMove HasRun) where
  -- a set that a walk of as many moves as it has facts leads to
  Reached : List Bool → Type 0
  Reached set = (moves : List Move) × IsWalk CanMove (no_facts n) moves set × (length moves ≡ count set)

  -- a reached set grows by the facts of a walk from a set within it
  merge : (moves : List Move) (set end large : List Bool) → IsWalk CanMove set moves end → IsSubset set large → Reached large → (larger : List Bool) × Reached larger × IsSubset large larger × IsSubset end larger
  unfolding Reached
  merge [] set end large e within reached = (large, reached, within_self large, subst (λ s. IsSubset s large) (sym e) within)
  merge (move ∷ moves) set end large (can, walk) within (path, leads, counts) =
      ⊎_elim (λ there. merge moves (slice_set set move.fact true) end large walk (within_there set large move.fact within there) (path, leads, counts))
      (λ new.
      let able : CanMove large move = space.grows set large move can within new in
      let more : length (path ++ move ∷ []) ≡ count (slice_set large move.fact true) = search (arith, length_more path move, counts, count_more large move.fact new) in
      let (larger, reached, grown, ends) = merge moves (slice_set set move.fact true) end (slice_set large move.fact true) walk (within_both set large move.fact within) (path ++ move ∷ [], push_walk CanMove (no_facts n) path large move leads able, more) in
      (larger, reached, within_chain large (slice_set large move.fact true) larger (within_more large move.fact) grown, ends))
      (there_or_not set large move.fact within (space.new set move can))
    where
      length_more : (xs : List Move) (x : Move) → length (xs ++ x ∷ []) ≡ suc (length xs)
      length_more [] x = refl
      length_more (y ∷ xs) x = ap suc (length_more xs x)

  -- some walk's set holds the sets of all these nodes
  gather : (nodes : List Way) → ((node : Way) → Contains nodes node → IsWay n CanMove node) → (large : List Bool) × Reached large × ((node : Way) → Contains nodes node → IsSubset node.set large)
  unfolding Reached
  gather [] are = (no_facts n, ([], refl, sym (count_none n)), (λ node c. absurd (omega arith)))
  gather (first ∷ nodes) are =
      let (large, (moves, walk, counts), all) = gather nodes (λ node c. are node (contains_there first nodes node c)) in
      let (larger, reached, grown, its) = merge first.path (no_facts n) first.set large (are first (contains_here first nodes)).walk (walk_within CanMove (no_facts n) moves large walk) (moves, walk, counts) in
      (larger, reached, (λ node c. ⊎_elim (λ e. subst (λ (x : Way). IsSubset x.set larger) e its) (λ there. within_chain node.set large larger (all node there) grown) (contains_cases first nodes node c)))

  -- distinct sets that walks lead to are at most 2 ^ the moves of a run
  pub nodes_bound : (nodes : List Way) → ((node : Way) → Contains nodes node → IsWay n CanMove node) → AreDistinct (sets_of nodes) → (most : ℕ) → ((path : List Move) (firings : ℕ) → HasRun path firings → length path ≤ most) → length nodes ≤ 2 ^ most
  unfolding Reached
  nodes_bound nodes are distinct most runs =
      let (large, (moves, walk, counts), all) = gather nodes are in
      let sets : length (sets_of nodes) ≤ 2 ^ count large = sets_within large (sets_of nodes) (λ s c. let (node, among, e) = contains_mapped (λ (x : Way). x.set) nodes s c in subst (λ t. IsSubset t large) e (all node among)) distinct in
      let few : length moves ≤ most = runs moves 0 (space.runs moves large walk) in
      let few' : count large ≤ most = omega (arith, few, counts) in
      let power : 2 ^ count large ≤ 2 ^ most = power_mono (count large) most few' in
      let same : length (sets_of nodes) ≡ length nodes = length-map nodes (λ (x : Way). x.set) in
      omega arith
    where
      power_mono : (a b : ℕ) → a ≤ b → 2 ^ a ≤ 2 ^ b
      power_mono zero b l = positive b
        where
          positive : (k : ℕ) → 1 ≤ 2 ^ k
          positive zero = omega arith
          positive (suc k) = let h : 1 ≤ 2 ^ k = positive k in rw pow-suc (omega arith)
      power_mono (suc a) zero l = absurd (omega arith)
      power_mono (suc a) (suc b) l = let h : 2 ^ a ≤ 2 ^ b = power_mono a b (omega arith) in rw (pow-suc, pow-suc) (omega arith)

  -- where a pair is enough, the units are not spent
  pub not_spent : (nodes : List Way) → ((node : Way) → Contains nodes node → IsWay n CanMove node) → AreDistinct (sets_of nodes) → (units search : ℕ) → IsCounted HasRun (length nodes) units → search ≤ units → (m most : ℕ) → IsEnough HasRun search m most → ⊥
  not_spent nodes are distinct units search counted spent m most enough =
      let few : length nodes ≤ 2 ^ most = nodes_bound nodes are distinct most (λ path f run. (enough.runs path f run).1) in
      let made : units ≤ length nodes * (m + 1) = counted m most enough.runs in
      let grown : length nodes * (m + 1) ≤ 2 ^ most * (m + 1) = times (length nodes) (2 ^ most) (m + 1) few in
      let split : (2 ^ most + 1) * (m + 1) ≡ 2 ^ most * (m + 1) + (m + 1) = distribute (2 ^ most) (m + 1) in
      let serves : (2 ^ most + 1) * (m + 1) ≤ search = enough.units in
      omega arith
    where
      times : (a b c : ℕ) → a ≤ b → a * c ≤ b * c
      times a b c l = grind arith

      distribute : (a c : ℕ) → (a + 1) * c ≡ a * c + c
      distribute a c = grind arith

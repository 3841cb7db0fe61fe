-- The steps of the search's loops, over plain variables.
use Rattle.std.proofs.Common.{◌≡◌, ◌⊎◌, ℕ, ◌+◌, ◌*◌, ◌-◌, ◌<◌, ◌≤◌, List, [], ◌∷◌, ◌++◌, length, Bool, true, false, sym, refl, ap, ◌∙◌, subst, inl, inr, ⊎_elim, arith}
use Rattle.std.specs.Prelude.{Contains, slice_set, slice_index_or, take, if◌then◌else◌}
use Rattle.std.proofs.lemmas.List.{take_more, take_all}
use Rattle.std.proofs.lemmas.List.Elements.{Contains-append_left, Contains-push, Contains-push_cases}
use Rattle.lists.proofs.Members.{contains_here, contains_there, contains_cases, contains_mapped}
use Rattle.least_search.proofs.Counts.{push_walk}
use Rattle.least_search.specs.declared.space.Move.{Move}
use Rattle.least_search.specs.Ways.{Way, IsWay, way_along, way_with}
use Rattle.least_search.specs.declared.search.Ended.{Ended}
use Rattle.least_search.specs.declared.search.Ended.TheVariants as ended
use Rattle.meaning.specs.Search.{AreDistinct}
use Rattle.least_search.specs.Walks.{walk_cost, no_facts, with_fact}
use Rattle.least_search.specs.declared.cuts.Cut.{Cut}
use Rattle.least_search.specs.Cuts.{rest, sum_of}
use Rattle.least_search.specs.Costs.{CanSpend, IsSpent}
use Rattle.least_search.specs.Frontier.{sets_of, IsNext, IsKnown, ArePushed}
use Rattle.least_search.proofs.Searched.{IsGuide, IsCovered, IsSearched, IsCounted}

pub contains_none : {X : Type 0} (xs : List X) (x : X) → xs ≡ [] → Contains xs x → ⊥
contains_none [] x e c = omega arith
contains_none (y ∷ xs) x e c = absurd (cc)

pub distinct_push : (sets : List (List Bool)) (set : List Bool) → AreDistinct sets → (Contains sets set → ⊥) → AreDistinct (sets ++ set ∷ [])
distinct_push [] set d new = ((λ c. omega arith), tt)
distinct_push (first ∷ sets) set d new =
    ((λ c. ⊎_elim (λ there. d.0 there) (λ e. new (subst (λ s. Contains (first ∷ sets) s) (sym e) (contains_here first sets))) (Contains-push_cases sets set first c)), distinct_push sets set d.1 (λ c. new (contains_there first sets set c)))

pub sets_push : (nodes : List Way) (node : Way) → sets_of (nodes ++ node ∷ []) ≡ sets_of nodes ++ node.set ∷ []
sets_push [] node = refl
sets_push (first ∷ nodes) node = ap (λ s. first.set ∷ s) (sets_push nodes node)

pub cost_push : (moves : List Move) (move : Move) → walk_cost (moves ++ move ∷ []) ≡ walk_cost moves + move.cost
cost_push [] move = omega arith
cost_push (first ∷ moves) move = let rest : walk_cost (moves ++ move ∷ []) ≡ walk_cost moves + move.cost = cost_push moves move in omega arith

-- a way with one more move is a way
pub way_longer : (n : ℕ) (CanMove : List Bool → Move → Type 0) (way : Way) (move : Move) → IsWay n CanMove way → CanMove way.set move → IsWay n CanMove (way_with way move)
way_longer n CanMove way move is can =
    record {
      walk = push_walk CanMove (no_facts n) way.path way.set move is.walk can;
      cost = ap (λ m. m + move.cost) is.cost ∙ sym (cost_push way.path move);
    }

module _ (n : ℕ) (CanMove CanGo : List Bool → Move → Type 0) (HasGoal : List Bool → Type 0) (cuts : List Cut) (bound : ℕ) where
  -- before the first look
  pub first_searched : (looked waiting : List Way) → looked ≡ [] → (rest cuts (no_facts n) < bound → Contains waiting (way_along n [])) → ((x : Way) → Contains waiting x → way_along n [] ≡ x) → IsSearched n CanMove CanGo HasGoal cuts bound false looked waiting
  first_searched looked waiting none here only =
      let is : IsWay n CanMove (way_along n []) = record { walk = refl; cost = refl } in
      record {
        looked_are = λ x c. absurd (contains_none looked x none c);
        waiting_are = λ x c. subst (λ y. IsWay n CanMove y) (only x c) is;
        order = λ x y c d. absurd (contains_none looked x none c);
        start = λ less. (way_along n [], inr (here less), refl, omega arith);
        none = λ _ x c goal. absurd (contains_none looked x none c);
        closed = λ x move c can less. absurd (contains_none looked x none c);
      }

  -- nodes whose sets were looked at need not wait
  pub fewer : (long : Bool) (looked before after : List Way) → IsSearched n CanMove CanGo HasGoal cuts bound long looked before → ((x : Way) → Contains before x → Contains after x ⊎ Contains (sets_of looked) x.set) → ((x : Way) → Contains after x → Contains before x) → IsSearched n CanMove CanGo HasGoal cuts bound long looked after
  fewer long looked before after is stay only =
      record {
        looked_are = is.looked_are;
        waiting_are = λ x c. is.waiting_are x (only x c);
        order = λ x y c d. is.order x y c (only y d);
        start = λ less. moved (no_facts n) 0 (is.start less);
        none = is.none;
        closed = λ x move c can less. moved (slice_set x.set move.fact true) (x.cost + move.cost) (is.closed x move c can less);
      }
    where
      moved : (set : List Bool) (cost : ℕ) → IsCovered looked before set cost → IsCovered looked after set cost
      moved set cost (node, held, same, cheap) =
          ⊎_elim (λ there. (node, inl there, same, cheap))
          (λ waits. ⊎_elim (λ still. (node, inr still, same, cheap))
          (λ done. let (other, among, its) = contains_mapped (λ (x : Way). x.set) looked node.set done in
          let low : other.cost + rest cuts other.set ≤ node.cost + rest cuts node.set = is.order other node among waits in
          let paid : rest cuts other.set ≡ rest cuts node.set = ap (rest cuts) its in
          (other, inl among, its ∙ same, omega arith)) (stay node waits)) held

  -- the node that was taken stands for those that were passed over
  pub taken : (long : Bool) (looked before after : List Way) (node : Way) → IsSearched n CanMove CanGo HasGoal cuts bound long looked before → IsNext cuts bound looked before after node → IsSearched n CanMove CanGo HasGoal cuts bound long looked (node ∷ after)
  taken long looked before after node is next =
      fewer long looked before (node ∷ after) is
      (λ x c. ⊎_elim (λ e. inl (subst (λ y. Contains (node ∷ after) y) e (contains_here node after))) (λ r. ⊎_elim (λ still. inl (contains_there node after x still)) (λ done. inr done) r) (next.stay x c))
      (λ x c. ⊎_elim (λ e. subst (λ y. Contains before y) e next.among) (λ h. next.only x h) (contains_cases node after x c))

  -- what waits has as great a sum as the node that was taken
  pub taken_least : (t : ℕ) (node : Way) (after : List Way) → t ≤ sum_of cuts node → ((x : Way) → Contains after x → sum_of cuts node ≤ sum_of cuts x) → (x : Way) → Contains (node ∷ after) x → t ≤ sum_of cuts x
  taken_least t node after low least x c = ⊎_elim (λ e. subst (λ (y : Way). t ≤ sum_of cuts y) e low) (λ h. (let more : sum_of cuts node ≤ sum_of cuts x = least x h in omega arith)) (contains_cases node after x c)

  -- a look at the cheapest node, and its moves
  pub looked_at : (long later : Bool) (looked waiting after : List Way) (node : Way) → IsSearched n CanMove CanGo HasGoal cuts bound long looked (node ∷ waiting) → ((x : Way) → Contains waiting x → sum_of cuts node ≤ sum_of cuts x) →
      IsGuide CanGo HasGoal cuts → (later ≡ false → long ≡ false) → (later ≡ false → HasGoal node.set → ⊥) →
      ((x : Way) → Contains waiting x → Contains after x) →
      ((x : Way) → Contains after x → Contains waiting x ⊎ (IsWay n CanMove x × (sum_of cuts node ≤ sum_of cuts x))) →
      ((move : Move) → CanGo node.set move → sum_of cuts (way_with node move) < bound → IsKnown (looked ++ node ∷ []) after (slice_set node.set move.fact true) (node.cost + move.cost)) →
      IsSearched n CanMove CanGo HasGoal cuts bound later (looked ++ node ∷ []) after
  looked_at long later looked waiting after node is least guide whole none kept only reached =
      record {
        looked_are = λ x c. ⊎_elim (λ old. is.looked_are x old) (λ e. subst (λ y. IsWay n CanMove y) e (is.waiting_are node (contains_here node waiting))) (Contains-push_cases looked node x c);
        waiting_are = λ x c. ⊎_elim (λ old. is.waiting_are x (contains_there node waiting x old)) (λ new. new.0) (only x c);
        order = λ x y c d.
            let low : sum_of cuts x ≤ sum_of cuts node = ⊎_elim (λ old. is.order x node old (contains_here node waiting)) (λ e. subst (λ (z : Way). sum_of cuts z ≤ sum_of cuts node) e (omega arith)) (Contains-push_cases looked node x c) in
            let high : sum_of cuts node ≤ sum_of cuts y = ⊎_elim (λ old. least y old) (λ new. new.1) (only y d) in
            omega arith;
        start = λ less. moved (no_facts n) 0 (is.start less);
        none = λ e x c goal. ⊎_elim (λ old. is.none (whole e) x old goal) (λ same. none e (subst (λ (z : Way). HasGoal z.set) (sym same) goal)) (Contains-push_cases looked node x c);
        closed = λ x move c can less. ⊎_elim (λ old. moved (slice_set x.set move.fact true) (x.cost + move.cost) (is.closed x move old can less))
            (λ same. fresh x move same can less) (Contains-push_cases looked node x c);
      }
    where
      moved : (set : List Bool) (cost : ℕ) → IsCovered looked (node ∷ waiting) set cost → IsCovered (looked ++ node ∷ []) after set cost
      moved set cost (x, held, same, cheap) =
          ⊎_elim (λ there. (x, inl (Contains-append_left looked (node ∷ []) x there), same, cheap))
          (λ waits. ⊎_elim (λ e. (x, inl (subst (λ y. Contains (looked ++ node ∷ []) y) e (Contains-push looked node)), same, cheap)) (λ still. (x, inr (kept x still), same, cheap)) (contains_cases node waiting x waits)) held

      fresh : (x : Way) (move : Move) → node ≡ x → CanGo x.set move → sum_of cuts (way_with x move) < bound → IsCovered (looked ++ node ∷ []) after (slice_set x.set move.fact true) (x.cost + move.cost)
      fresh x move e =
          subst (λ (z : Way). CanGo z.set move → sum_of cuts (way_with z move) < bound → IsCovered (looked ++ node ∷ []) after (slice_set z.set move.fact true) (z.cost + move.cost)) e
          (λ can less. ⊎_elim (λ done. let (other, among, its) = contains_mapped (λ (y : Way). y.set) (looked ++ node ∷ []) (slice_set node.set move.fact true) done in
          let low : other.cost + rest cuts other.set ≤ node.cost + rest cuts node.set = ⊎_elim (λ old. is.order other node old (contains_here node waiting)) (λ same. subst (λ (y : Way). y.cost + rest cuts y.set ≤ node.cost + rest cuts node.set) same (omega arith)) (Contains-push_cases looked node other among) in
          let paid : rest cuts other.set ≡ rest cuts (with_fact node.set move) = ap (rest cuts) its in
          let falls : rest cuts node.set ≤ move.cost + rest cuts (with_fact node.set move) = guide.falls node.set move can in
          (other, inl among, its, omega arith))
          (λ (child, among, set, cheap). (child, inr among, set, cheap)) (reached move can less))

pub not_long : (long : Bool) (r : Ended) → r ≡ (if long then ended.FiringsSpent else ended.Shown) → r ≡ ended.Shown → long ≡ false
not_long true r a e = let h : r ≡ ended.FiringsSpent = a in absurd (cc)
not_long false r a e = refl

-- the units of one more look
pub counted_more : (HasRun : List Move → ℕ → Type 0) (sets units fired : ℕ) (path : List Move) → IsCounted HasRun sets units →
    HasRun path fired → IsCounted HasRun (sets + 1) (units + 1 + fired)
counted_more HasRun sets units fired path counted run m n runs =
    let before : units ≤ sets * (m + 1) = counted m n runs in
    let most : fired ≤ m = (runs path fired run).0 in
    let split : (sets + 1) * (m + 1) ≡ sets * (m + 1) + (m + 1) = distribute sets (m + 1) in
    omega arith
  where
    distribute : (a c : ℕ) → (a + 1) * c ≡ a * c + c
    distribute a c = grind arith

-- the units of one more look are spent on its set and on the firings of a run along its way
pub spend_more : (HasRun : List Move → ℕ → Type 0) (ways : List Way) (way : Way) (units firings : ℕ) → CanSpend HasRun ways units →
    HasRun way.path firings → CanSpend HasRun (ways ++ way ∷ []) (units + 1 + firings)
spend_more HasRun [] way units firings none run = (firings, 0, run, omega arith, refl)
spend_more HasRun (first ∷ ways) way units firings (fired, others, its, all, later) run =
    (fired, others + 1 + firings, its, omega arith, spend_more HasRun ways way others firings later run)

-- the sets that were looked at and one more take one unit more than there are
pub spent_now : (n : ℕ) (CanMove : List Bool → Move → Type 0) (HasRun : List Move → ℕ → Type 0) (cuts : List Cut) (bound search : ℕ)
    (looked : List Way) (node : Way) (units firings : ℕ) → ((way : Way) → Contains looked way → IsWay n CanMove way) →
    IsWay n CanMove node → ((way : Way) → Contains looked way → sum_of cuts way < bound) → sum_of cuts node < bound →
    AreDistinct (sets_of looked) → (Contains (sets_of looked) node.set → ⊥) → CanSpend HasRun looked units →
    HasRun node.path firings → units + firings ≡ search → IsSpent n CanMove HasRun cuts bound search
spent_now n CanMove HasRun cuts bound search looked node units firings are is low under distinct new spend run sum =
    record {
      ways = looked ++ node ∷ [];
      walks = λ way c. ⊎_elim (λ old. are way old) (λ e. subst (λ (w : Way). IsWay n CanMove w) e is)
          (Contains-push_cases looked node way c);
      low = λ way c. ⊎_elim (λ old. low way old) (λ e. subst (λ (w : Way). sum_of cuts w < bound) e under)
          (Contains-push_cases looked node way c);
      distinct = subst (λ (ss : List (List Bool)). AreDistinct ss) (sym (sets_push looked node))
          (distinct_push (sets_of looked) node.set distinct new);
      wanted = subst (λ k. CanSpend HasRun (looked ++ node ∷ []) k)
          (let one : units + 1 + firings ≡ search + 1 = omega arith in one)
          (spend_more HasRun looked node units firings spend run);
    }

module _ (cuts : List Cut) (bound : ℕ) (way : Way) (moves : List Move) (looked before : List Way) where
  -- nothing is pushed yet
  pub pushed_none : ArePushed cuts bound way (take 0 moves) looked before before
  pushed_none = record { kept = λ x c. c; only = λ x c. inl c; reached = λ move c less. absurd (contains_none [] move refl c) }

  pub pushed_more : (now after : List Way) (i : ℕ) (d : Move) → i < length moves → ArePushed cuts bound way (take i moves) looked before now →
      ((x : Way) → Contains now x → Contains after x) → ((x : Way) → Contains after x → Contains now x ⊎ (way_with way (slice_index_or moves i d) ≡ x)) →
      (sum_of cuts (way_with way (slice_index_or moves i d)) < bound → IsKnown looked after (with_fact way.set (slice_index_or moves i d)) (way.cost + (slice_index_or moves i d).cost)) → ArePushed cuts bound way (take (i + 1) moves) looked before after
  pushed_more now after i d l is stay from known =
      rw (take_more moves i d l) (record {
        kept = λ x c. stay x (is.kept x c);
        only = λ x c. ⊎_elim (λ old. ⊎_elim (λ h. inl h) (λ (move, among, its). inr (move, Contains-append_left (take i moves) (slice_index_or moves i d ∷ []) move among, its)) (is.only x old))
            (λ same. inr (slice_index_or moves i d, Contains-push (take i moves) (slice_index_or moves i d), same)) (from x c);
        reached = λ move c less. ⊎_elim (λ old. ⊎_elim (λ done. inl done) (λ (x, among, its, cheap). inr (x, stay x among, its, cheap)) (is.reached move old less))
            (λ same. subst (λ (m : Move). sum_of cuts (way_with way m) < bound → IsKnown looked after (with_fact way.set m) (way.cost + m.cost)) same known less) (Contains-push_cases (take i moves) (slice_index_or moves i d) move c);
      })

  pub pushed_all : (after : List Way) (i : ℕ) → length moves ≤ i → ArePushed cuts bound way (take i moves) looked before after → ArePushed cuts bound way moves looked before after
  pushed_all after i l is = subst (λ ms. ArePushed cuts bound way ms looked before after) (take_all i moves l) is

-- what was pushed for the moves of a visit: ways by possible moves, and the set of each possible move is known
module _ (n : ℕ) (CanMove : List Bool → Move → Type 0) (cuts : List Cut) (bound : ℕ) (way : Way) (moves : List Move) (looked before after : List Way) (is : ArePushed cuts bound way moves looked before after) where
  pub pushed_only : IsWay n CanMove way → ((move : Move) → Contains moves move → CanMove way.set move) → ((move : Move) → CanMove way.set move → rest cuts way.set ≤ move.cost + rest cuts (with_fact way.set move)) →
      (x : Way) → Contains after x → Contains before x ⊎ (IsWay n CanMove x × (sum_of cuts way ≤ sum_of cuts x))
  pushed_only way_is possible falls x c =
      ⊎_elim (λ old. inl old) (λ (move, among, same).
      let down : rest cuts way.set ≤ move.cost + rest cuts (with_fact way.set move) = falls move (possible move among) in
      inr (subst (λ (y : Way). IsWay n CanMove y × (sum_of cuts way ≤ sum_of cuts y)) same (way_longer n CanMove way move way_is (possible move among), (omega arith)))) (is.only x c)

  pub pushed_reached : ((move : Move) → CanMove way.set move → move.cost < bound - way.cost → (other : Move) × Contains moves other × (other.fact ≡ move.fact) × (other.cost ≤ move.cost)) →
      (move : Move) → CanMove way.set move → sum_of cuts (way_with way move) < bound → IsKnown looked after (with_fact way.set move) (way.cost + move.cost)
  pushed_reached complete move can less =
      let (other, among, same, cheap) = complete move can (omega arith) in
      let set : with_fact way.set other ≡ with_fact way.set move = ap (λ f. slice_set way.set f true) same in
      let paid : rest cuts (with_fact way.set other) ≡ rest cuts (with_fact way.set move) = ap (rest cuts) set in
      ⊎_elim (λ done. inl (subst (λ s. Contains (sets_of looked) s) set done)) (λ (x, there, its, low). inr (x, there, its ∙ set, omega arith)) (is.reached other among (omega arith))

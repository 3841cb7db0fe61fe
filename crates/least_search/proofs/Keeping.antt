-- What a search keeps, as paths are taken and added.
use Rattle.std.proofs.Common.{◌≡◌, ◌⊎◌, ℕ, ◌+◌, ◌<◌, ◌≤◌, List, [], ◌∷◌, ◌++◌, length, Bool, true, map, refl, sym, ap, ◌∙◌, subst, inl, inr, ⊎_elim, arith, Some, None}
use Rattle.std.specs.Prelude.{Contains, slice_index_or}
use Rattle.std.proofs.lemmas.List.{length_push, get_or_append_left, get_or_at, map-append}
use Rattle.std.proofs.lemmas.List.Elements.{Contains-append_left, Contains-push, Contains-push_cases}
use Rattle.std.specs.Str.{bytes_eq}
use Rattle.std.proofs.lemmas.Bool.{cases_Bool}
use Rattle.std.proofs.lemmas.Slice.Eq.{bytes_eq-Decides}
use Rattle.lists.proofs.Members.{contains_here, contains_there, contains_mapped, contains_map}
use Rattle.least_search.specs.declared.space.Move.{Move}
use Rattle.least_search.specs.declared.waiting.Waiter.{Waiter}
use Rattle.least_search.specs.declared.table.Seen.{Seen}
use Rattle.least_search.specs.declared.table.Seen.TheVariants.{Looked, Waits}
use Rattle.least_search.specs.declared.table.SetTable.{SetTable}
use Rattle.least_search.specs.Walks.{no_facts, with_fact, walk_cost}
use Rattle.least_search.specs.Ways.{Way, way_along, way_with, set_after}
use Rattle.least_search.specs.Packing.{packed}
use Rattle.least_search.specs.Table.{seen_at}
use Rattle.least_search.specs.declared.frontier.Frontier.{Frontier}
use Rattle.least_search.specs.declared.frontier.Taken.{Taken}
use Rattle.least_search.specs.Frontier.{sets_of, way_of, way_at, ways_at, looked_in, waiting_in, Waiting, IsWaiterOf, AreKept, IsFrontier, IsAlike, IsTakenFrom, IsAdded, IsKnown}
use Rattle.least_search.specs.declared.cuts.Cut.{Cut}
use Rattle.least_search.specs.Cuts.{holding, rest, sum_of}
use Rattle.least_search.proofs.Packing.{packed_same}
use Rattle.least_search.proofs.Steps.{cost_push, contains_none}

after_push : (moves : List Move) (set : List Bool) (move : Move) → set_after set (moves ++ move ∷ []) ≡ with_fact (set_after set moves) move
after_push [] set move = refl
after_push (first ∷ moves) set move = after_push moves (with_fact set first) move

-- the way along a path with one move more
pub along_push : (facts : ℕ) (path : List Move) (move : Move) → way_along facts (path ++ move ∷ []) ≡ way_with (way_along facts path) move
along_push facts path move =
    let s : set_after (no_facts facts) (path ++ move ∷ []) ≡ with_fact (set_after (no_facts facts) path) move = after_push path (no_facts facts) move in
    let k : walk_cost (path ++ move ∷ []) ≡ walk_cost path + move.cost = cost_push path move in
    cc

-- the ways of paths that are there stay as paths are added
pub ways_stay : (facts : ℕ) (paths : List (List Move)) (more : List Move) (numbers : List ℕ) → ((number : ℕ) → Contains numbers number → number < length paths) →
    ways_at facts (paths ++ more ∷ []) numbers ≡ ways_at facts paths numbers
ways_stay facts paths more [] below = refl
ways_stay facts paths more (number ∷ numbers) below =
    let here : way_at facts (paths ++ more ∷ []) number ≡ way_at facts paths number = ap (way_along facts) (get_or_append_left paths (more ∷ []) [] number (below number (contains_here number numbers))) in
    let rest : ways_at facts (paths ++ more ∷ []) numbers ≡ ways_at facts paths numbers = ways_stay facts paths more numbers (λ k c. below k (contains_there number numbers k c)) in
    cc

pub same_or_not : (xs ys : List ℕ) → (xs ≡ ys) ⊎ (xs ≡ ys → ⊥)
same_or_not xs ys =
    ⊎_elim (λ t. inl ((bytes_eq-Decides xs ys).0 t))
    (λ f. inr (λ e. let t : bytes_eq xs ys ≡ true = (bytes_eq-Decides xs ys).1 e in absurd (cc))) (cases_Bool (bytes_eq xs ys))

-- a waiter leaves a list
pub record Leaves (before after : List Waiter) (waiter : Waiter) : Type 0 where
  pub stay : (other : Waiter) → Contains before other → (waiter ≡ other) ⊎ Contains after other
  pub only : (other : Waiter) → Contains after other → Contains before other

-- what is known of a set changes, and of no other
pub record Changes (old new : SetTable) (key : List ℕ) (seen : Seen) : Type 0 where
  pub here : seen_at new key ≡ Some seen
  pub others : (other : List ℕ) → (other ≡ key → ⊥) → seen_at new other ≡ seen_at old other

module _ (facts : ℕ) (paths : List (List Move)) where
  -- the waiter of a way that waits
  pub waiter_of : (waiters : List Waiter) (way : Way) → Contains (ways_at facts paths (map (λ (waiter : Waiter). waiter.number) waiters)) way →
      (waiter : Waiter) × Contains waiters waiter × (way_at facts paths waiter.number ≡ way)
  waiter_of waiters way c =
      let (number, among, is) = contains_mapped (way_at facts paths) (map (λ (waiter : Waiter). waiter.number) waiters) way c in
      let (waiter, there, same) = contains_mapped (λ (waiter : Waiter). waiter.number) waiters number among in
      (waiter, there, ap (way_at facts paths) same ∙ is)

  pub way_waits : (waiters : List Waiter) (waiter : Waiter) → Contains waiters waiter → Contains (ways_at facts paths (map (λ (waiter : Waiter). waiter.number) waiters)) (way_at facts paths waiter.number)
  way_waits waiters waiter c = contains_map (way_at facts paths) (map (λ (w : Waiter). w.number) waiters) waiter.number (contains_map (λ (w : Waiter). w.number) waiters waiter c)

  module _ (before after : List Waiter) (waiter : Waiter) (leaves : Leaves before after waiter) where
    -- a way that waited waits, or is that of the waiter
    pub way_stays : (way : Way) → Contains (ways_at facts paths (map (λ (w : Waiter). w.number) before)) way →
        (way_at facts paths waiter.number ≡ way) ⊎ Contains (ways_at facts paths (map (λ (w : Waiter). w.number) after)) way
    way_stays way c =
        let (other, there, is) = waiter_of before way c in
        ⊎_elim (λ e. inl (ap (λ (w : Waiter). way_at facts paths w.number) e ∙ is)) (λ still. inr (subst (λ x. Contains (ways_at facts paths (map (λ (w : Waiter). w.number) after)) x) is (way_waits after other still))) (leaves.stay other there)

    pub way_before : (way : Way) → Contains (ways_at facts paths (map (λ (w : Waiter). w.number) after)) way → Contains (ways_at facts paths (map (λ (w : Waiter). w.number) before)) way
    way_before way c =
        let (other, there, is) = waiter_of after way c in
        subst (λ x. Contains (ways_at facts paths (map (λ (w : Waiter). w.number) before)) x) is (way_waits before other (leaves.only other there))

    module _ (cuts : List Cut) (bound : ℕ) (looked : List ℕ) (table : SetTable) (kept : AreKept cuts bound facts paths before looked table) (key : List ℕ) (key_is : key ≡ packed (way_at facts paths waiter.number).set) where
      -- the way of the waiter stands for no set but its own
      own : (set : List Bool) (cost : ℕ) → (packed set ≡ key → ⊥) → Waiting (ways_at facts paths (map (λ (w : Waiter). w.number) before)) set cost → Waiting (ways_at facts paths (map (λ (w : Waiter). w.number) after)) set cost
      own set cost apart (way, among, same, cheap) =
          ⊎_elim (λ e. absurd (apart (ap packed (sym same ∙ ap (λ (w : Way). w.set) (sym e)) ∙ sym key_is))) (λ still. (way, still, same, cheap)) (way_stays way among)

      -- a waiter whose set was looked at is passed over
      pub passed_over : seen_at table key ≡ Some Looked → AreKept cuts bound facts paths after looked table
      passed_over done =
          record {
            waiters = λ w c. kept.waiters w (leaves.only w c);
            numbers = kept.numbers;
            looked_are = kept.looked_are;
            waits = λ set cost e. own set cost (λ same. let clash : Some Looked ≡ Some (Waits cost) = sym done ∙ ap (seen_at table) (sym same) ∙ e in absurd (cc)) (kept.waits set cost e);
          }

      -- the set of the waiter is looked at
      pub looked_at_now : (now : SetTable) (numbers : List ℕ) → waiter.number < length paths → Changes table now key Looked → numbers ≡ looked ++ waiter.number ∷ [] → AreKept cuts bound facts paths after numbers now
      looked_at_now now numbers low change pushed =
          record {
            waiters = λ w c. kept.waiters w (leaves.only w c);
            numbers = λ k c. ⊎_elim (λ old. kept.numbers k old) (λ e. subst (λ (j : ℕ). j < length paths) e low) (Contains-push_cases looked waiter.number k (subst (λ ks. Contains ks k) pushed c));
            looked_are = λ set. (
              (λ e. subst (λ s. Contains s set) (sym sets) (⊎_elim
                  (λ same. subst (λ s. Contains (sets_of (ways_at facts paths looked) ++ (way_at facts paths waiter.number).set ∷ []) s) (packed_same (way_at facts paths waiter.number).set set (sym key_is ∙ same)) (Contains-push (sets_of (ways_at facts paths looked)) (way_at facts paths waiter.number).set))
                  (λ apart. Contains-append_left (sets_of (ways_at facts paths looked)) ((way_at facts paths waiter.number).set ∷ []) set ((kept.looked_are set).0 (sym (change.others (packed set) (λ h. apart (sym h))) ∙ e))) (same_or_not key (packed set)))),
              (λ c. ⊎_elim (λ same. ap (seen_at now) (sym same) ∙ change.here)
                  (λ apart. ⊎_elim (λ old. change.others (packed set) (λ h. apart (sym h)) ∙ (kept.looked_are set).1 old) (λ e. absurd (apart (key_is ∙ ap packed e)))
                  (Contains-push_cases (sets_of (ways_at facts paths looked)) (way_at facts paths waiter.number).set set (subst (λ s. Contains s set) sets c))) (same_or_not key (packed set))),
            );
            waits = λ set cost e. ⊎_elim (λ same. let clash : Some Looked ≡ Some (Waits cost) = sym change.here ∙ ap (seen_at now) same ∙ e in absurd (cc))
                (λ apart. own set cost (λ h. apart (sym h)) (kept.waits set cost (sym (change.others (packed set) (λ h. apart (sym h))) ∙ e))) (same_or_not key (packed set));
          }
        where
          sets : sets_of (ways_at facts paths numbers) ≡ sets_of (ways_at facts paths looked) ++ (way_at facts paths waiter.number).set ∷ []
          sets = ap (λ ks. sets_of (ways_at facts paths ks)) pushed ∙ ap sets_of (map-append (way_at facts paths) looked (waiter.number ∷ [])) ∙ map-append (λ (w : Way). w.set) (ways_at facts paths looked) (way_at facts paths waiter.number ∷ [])

-- a path with one move more waits
module _ (cuts : List Cut) (bound facts : ℕ) (paths : List (List Move)) (from : ℕ) (step : Move) (before after : List Waiter) (cost due : ℕ) (looked : List ℕ) (table : SetTable)
    (kept : AreKept cuts bound facts paths before looked table)
    (only : (other : Waiter) → Contains after other → (record { sum = cost + due; rest = due; number = length paths } ≡ other) ⊎ Contains before other)
    (here : Contains after (record { sum = cost + due; rest = due; number = length paths })) (stay : (other : Waiter) → Contains before other → Contains after other)
    (cost_is : cost ≡ (way_at facts paths from).cost + step.cost) (due_is : due ≡ rest cuts (with_fact (way_at facts paths from).set step)) (under : cost + due < bound)
    (low : from < length paths) where
  abbrev pub longer : List (List Move)
  longer = paths ++ (slice_index_or paths from [] ++ step ∷ []) ∷ []

  old_way : (number : ℕ) → number < length paths → way_at facts longer number ≡ way_at facts paths number
  old_way number l = ap (way_along facts) (get_or_append_left paths ((slice_index_or paths from [] ++ step ∷ []) ∷ []) [] number l)

  new_way : way_at facts longer (length paths) ≡ way_with (way_at facts paths from) step
  new_way = ap (way_along facts) (get_or_at paths (slice_index_or paths from [] ++ step ∷ []) [] [] (length paths) refl) ∙ along_push facts (slice_index_or paths from []) step

  -- what waited waits
  pub still_waits : (way : Way) → Contains (ways_at facts paths (map (λ (w : Waiter). w.number) before)) way → Contains (ways_at facts longer (map (λ (w : Waiter). w.number) after)) way
  still_waits way c =
      let (other, there, is) = waiter_of facts paths before way c in
      subst (λ x. Contains (ways_at facts longer (map (λ (w : Waiter). w.number) after)) x) (old_way other.number (kept.waiters other there).0 ∙ is) (way_waits facts longer after other (stay other there))

  pub waits_now : (way : Way) → Contains (ways_at facts longer (map (λ (w : Waiter). w.number) after)) way → Contains (ways_at facts paths (map (λ (w : Waiter). w.number) before)) way ⊎ (way_with (way_at facts paths from) step ≡ way)
  waits_now way c =
      let (other, there, is) = waiter_of facts longer after way c in
      ⊎_elim (λ e. inr (sym new_way ∙ ap (λ (w : Waiter). way_at facts longer w.number) e ∙ is))
      (λ old. inl (subst (λ x. Contains (ways_at facts paths (map (λ (w : Waiter). w.number) before)) x) (sym (old_way other.number (kept.waiters other old).0) ∙ is) (way_waits facts paths before other old))) (only other there)

  pub new_waits : Contains (ways_at facts longer (map (λ (w : Waiter). w.number) after)) (way_with (way_at facts paths from) step)
  new_waits = subst (λ x. Contains (ways_at facts longer (map (λ (w : Waiter). w.number) after)) x) new_way (way_waits facts longer after (record { sum = cost + due; rest = due; number = length paths }) here)

  pub same_looked : ways_at facts longer looked ≡ ways_at facts paths looked
  same_looked = ways_stay facts paths (slice_index_or paths from [] ++ step ∷ []) looked kept.numbers

  pub added : (now : SetTable) (key : List ℕ) → key ≡ packed (with_fact (way_at facts paths from).set step) → (seen_at table key ≡ Some Looked → ⊥) → Changes table now key (Waits cost) → AreKept cuts bound facts longer after looked now
  added now key key_is new change =
      record {
        waiters = λ w c. ⊎_elim
            (λ e. subst (λ (x : Waiter). (x.number < length longer) × IsWaiterOf cuts bound (way_at facts longer x.number) x) e ((omega (arith, more)), new_waiter))
            (λ old. let (l, is) = kept.waiters w old in ((omega (arith, more)), subst (λ (x : Way). IsWaiterOf cuts bound x w) (sym (old_way w.number l)) is)) (only w c);
        numbers = λ k c. (let l : k < length paths = kept.numbers k c in omega (arith, more));
        looked_are = λ set. (
          (λ e. subst (λ (ws : List Way). Contains (sets_of ws) set) (sym same_looked) (⊎_elim (λ same. let clash : Some (Waits cost) ≡ Some Looked = sym change.here ∙ ap (seen_at now) same ∙ e in absurd (cc))
              (λ apart. (kept.looked_are set).0 (sym (change.others (packed set) (λ h. apart (sym h))) ∙ e)) (same_or_not key (packed set)))),
          (λ c. let was : seen_at table (packed set) ≡ Some Looked = (kept.looked_are set).1 (subst (λ (ws : List Way). Contains (sets_of ws) set) same_looked c) in
              change.others (packed set) (λ h. new (ap (seen_at table) (sym h) ∙ was)) ∙ was),
        );
        waits = λ set most e. ⊎_elim
            (λ same. let equal : Some (Waits cost) ≡ Some (Waits most) = sym change.here ∙ ap (seen_at now) same ∙ e in
            let cheap : cost ≡ most = cc in
            (way_with (way_at facts paths from) step, new_waits, packed_same (with_fact (way_at facts paths from).set step) set (sym key_is ∙ same), omega arith))
            (λ apart. let (way, among, is, cheap) = kept.waits set most (sym (change.others (packed set) (λ h. apart (sym h))) ∙ e) in (way, still_waits way among, is, cheap)) (same_or_not key (packed set));
      }
    where
      more : length longer ≡ length paths + 1
      more = length_push paths (slice_index_or paths from [] ++ step ∷ [])

      new_waiter : IsWaiterOf cuts bound (way_at facts longer (length paths)) (record { sum = cost + due; rest = due; number = length paths })
      new_waiter = subst (λ (x : Way). IsWaiterOf cuts bound x (record { sum = cost + due; rest = due; number = length paths })) (sym new_way)
          (record {
            sum = ap (λ k. k + due) cost_is ∙ ap (λ k. ((way_at facts paths from).cost + step.cost) + k) due_is;
            due = due_is;
            low = under;
          })

-- the path without moves alone waits
module _ (cuts : List Cut) (bound facts : ℕ) (paths : List (List Move)) (waiting : List Waiter) (paths_are : paths ≡ [] ∷ []) where
  first_at : (number : ℕ) → number ≡ 0 → way_along facts [] ≡ way_at facts paths number
  first_at number zero = ap (λ (ps : List (List Move)). way_at facts ps 0) (sym paths_are) ∙ ap (way_at facts paths) (sym zero)

  pub first_way : (waiter : Waiter) → Contains waiting waiter → waiter.number ≡ 0 → Contains (ways_at facts paths (map (λ (w : Waiter). w.number) waiting)) (way_along facts [])
  first_way waiter here zero = subst (λ (x : Way). Contains (ways_at facts paths (map (λ (w : Waiter). w.number) waiting)) x) (sym (first_at waiter.number zero)) (way_waits facts paths waiting waiter here)

  module _ (only : (other : Waiter) → Contains waiting other → (other.number ≡ 0) × IsWaiterOf cuts bound (way_along facts []) other) where
    pub only_way : (way : Way) → Contains (ways_at facts paths (map (λ (w : Waiter). w.number) waiting)) way → way_along facts [] ≡ way
    only_way way c =
        let (other, there, is) = waiter_of facts paths waiting way c in
        first_at other.number (only other there).0 ∙ is

    pub first_kept : (looked : List ℕ) (table : SetTable) → looked ≡ [] → ((key : List ℕ) → seen_at table key ≡ None) → AreKept cuts bound facts paths waiting looked table
    first_kept looked table none empty =
        record {
          waiters = λ w c.
              let (zero, is) = only w c in
              let one : length paths ≡ 1 = ap length paths_are in
              ((omega arith), subst (λ (x : Way). IsWaiterOf cuts bound x w) (first_at w.number zero) is);
          numbers = λ k c. absurd (contains_none looked k none c);
          looked_are = λ set. (
            (λ e. let clash : None ≡ Some Looked = sym (empty (packed set)) ∙ e in absurd (cc)),
            (λ c. absurd (contains_none (sets_of (ways_at facts paths looked)) set (ap (λ ks. sets_of (ways_at facts paths ks)) none) c)),
          );
          waits = λ set cost e. let clash : None ≡ Some (Waits cost) = sym (empty (packed set)) ∙ e in absurd (cc);
        }

-- frontiers with the same paths looked at the same ways
pub same_ways : (one other : Frontier) → one.facts ≡ other.facts → one.paths ≡ other.paths → one.looked ≡ other.looked → looked_in one ≡ looked_in other
same_ways one other facts paths looked = let e : looked_in one ≡ looked_in other = cc in e

-- what waits has as great a sum as the waiter with the least
pub way_dearer : (cuts : List Cut) (bound facts : ℕ) (paths : List (List Move)) (before after : List Waiter) (waiter : Waiter) → Leaves before after waiter → (looked : List ℕ) (table : SetTable) → AreKept cuts bound facts paths before looked table → Contains before waiter →
    ((other : Waiter) → Contains after other → waiter.sum ≤ other.sum) → (way : Way) → Contains (ways_at facts paths (map (λ (w : Waiter). w.number) after)) way → sum_of cuts (way_at facts paths waiter.number) ≤ sum_of cuts way
way_dearer cuts bound facts paths before after waiter leaves looked table kept among least way c =
    let (other, there, is) = waiter_of facts paths after way c in
    let low : waiter.sum ≤ other.sum = least other there in
    let one : waiter.sum ≡ sum_of cuts (way_at facts paths waiter.number) = (kept.waiters waiter among).1.sum in
    let two : other.sum ≡ sum_of cuts way = (kept.waiters other (leaves.only other there)).1.sum ∙ ap (sum_of cuts) is in
    omega arith

pub looked_more : (facts : ℕ) (paths : List (List Move)) (looked now : List ℕ) (number : ℕ) (before : List Way) (way : Way) → ways_at facts paths looked ≡ before → way ≡ way_at facts paths number → now ≡ looked ++ number ∷ [] → ways_at facts paths now ≡ before ++ way ∷ []
looked_more facts paths looked now number before way old is pushed =
    ap (ways_at facts paths) pushed ∙ map-append (way_at facts paths) looked (number ∷ []) ∙ ap (λ (ws : List Way). ws ++ way_at facts paths number ∷ []) old ∙ ap (λ (w : Way). before ++ w ∷ []) (sym is)

-- the same, by the number and the paths after the push
pub added_here : (cuts : List Cut) (bound facts : ℕ) (paths : List (List Move)) (from : ℕ) (step : Move) (before after : List Waiter) (cost due : ℕ) (looked : List ℕ) (table now : SetTable) → AreKept cuts bound facts paths before looked table →
    (number : ℕ) (pushed : List (List Move)) → number ≡ length paths → pushed ≡ paths ++ (slice_index_or paths from [] ++ step ∷ []) ∷ [] →
    ((other : Waiter) → Contains after other → (record { sum = cost + due; rest = due; number = number } ≡ other) ⊎ Contains before other) → Contains after (record { sum = cost + due; rest = due; number = number }) →
    ((other : Waiter) → Contains before other → Contains after other) → cost ≡ (way_at facts paths from).cost + step.cost → due ≡ rest cuts (with_fact (way_at facts paths from).set step) → cost + due < bound → from < length paths →
    (key : List ℕ) → key ≡ packed (with_fact (way_at facts paths from).set step) → (seen_at table key ≡ Some Looked → ⊥) → Changes table now key (Waits cost) → AreKept cuts bound facts pushed after looked now
added_here cuts bound facts paths from step before after cost due looked table now kept number pushed number_is pushed_is only here stay cost_is due_is under low key key_is new change =
    subst (λ (ps : List (List Move)). AreKept cuts bound facts ps after looked now) (sym pushed_is)
    (added cuts bound facts paths from step before after cost due looked table kept
    (subst (λ (n : ℕ). (other : Waiter) → Contains after other → (record { sum = cost + due; rest = due; number = n } ≡ other) ⊎ Contains before other) number_is only)
    (subst (λ (n : ℕ). Contains after (record { sum = cost + due; rest = due; number = n })) number_is here) stay cost_is due_is under low now key key_is new change)

-- what waits after the path that was taken was added with one move more
pub added_way : (old new : Frontier) (taken : Taken) (step : Move) (cost due number : ℕ) → IsAlike old new → new.looked ≡ old.looked → IsFrontier old → IsTakenFrom old taken →
    number ≡ length old.paths → new.paths ≡ old.paths ++ (slice_index_or old.paths taken.number [] ++ step ∷ []) ∷ [] →
    ((other : Waiter) → Contains new.waiting other → (record { sum = cost + due; rest = due; number = number } ≡ other) ⊎ Contains old.waiting other) → Contains new.waiting (record { sum = cost + due; rest = due; number = number }) →
    ((other : Waiter) → Contains old.waiting other → Contains new.waiting other) → cost ≡ (way_at old.facts old.paths taken.number).cost + step.cost →
    due ≡ rest old.cuts.now (with_fact (way_at old.facts old.paths taken.number).set step) → cost + due < old.bound → IsAdded old new taken step
added_way old new taken step cost due number alike looked kept from number_is pushed_is only here stay cost_is due_is under =
    let facts : new.facts ≡ old.facts = alike.facts in
    let only' : (other : Waiter) → Contains new.waiting other → (record { sum = cost + due; rest = due; number = length old.paths } ≡ other) ⊎ Contains old.waiting other
    = subst (λ (n : ℕ). (other : Waiter) → Contains new.waiting other → (record { sum = cost + due; rest = due; number = n } ≡ other) ⊎ Contains old.waiting other) number_is only in
    let here' : Contains new.waiting (record { sum = cost + due; rest = due; number = length old.paths }) = subst (λ (n : ℕ). Contains new.waiting (record { sum = cost + due; rest = due; number = n })) number_is here in
    let waits : waiting_in new ≡ ways_at old.facts (old.paths ++ (slice_index_or old.paths taken.number [] ++ step ∷ []) ∷ []) (map (λ (w : Waiter). w.number) new.waiting) = cc in
    let way : way_at old.facts old.paths taken.number ≡ way_of taken.node = from.at in
    let more : length (old.paths ++ (slice_index_or old.paths taken.number [] ++ step ∷ []) ∷ []) ≡ length old.paths + 1 = length_push old.paths (slice_index_or old.paths taken.number [] ++ step ∷ []) in
    let count : length new.paths ≡ length old.paths + 1 = ap length pushed_is ∙ more in
    let low : taken.number < length old.paths = from.within in
    let made : way_with (way_at old.facts old.paths taken.number) step ≡ way_with (way_of taken.node) step = ap (λ (w : Way). way_with w step) way in
    let there : Contains (waiting_in new) (way_with (way_of taken.node) step) = subst (λ (ws : List Way). Contains ws (way_with (way_of taken.node) step)) (sym waits)
    (subst (λ (w : Way). Contains (ways_at old.facts (old.paths ++ (slice_index_or old.paths taken.number [] ++ step ∷ []) ∷ []) (map (λ (v : Waiter). v.number) new.waiting)) w) made
    (new_waits old.cuts.now old.bound old.facts old.paths taken.number step old.waiting new.waiting cost due old.looked.items old.table kept only' here' stay cost_is due_is under low)) in
    record {
      alike = alike;
      looked = (let e : looked_in new ≡ ways_at old.facts (old.paths ++ (slice_index_or old.paths taken.number [] ++ step ∷ []) ∷ []) old.looked.items = cc in e)
          ∙ same_looked old.cuts.now old.bound old.facts old.paths taken.number step old.waiting new.waiting cost due old.looked.items old.table kept only' here' stay cost_is due_is under low;
      from = record {
        within = omega arith;
        at = (let e : way_at new.facts new.paths taken.number ≡ way_at old.facts (old.paths ++ (slice_index_or old.paths taken.number [] ++ step ∷ []) ∷ []) taken.number = cc in e)
            ∙ ap (way_along old.facts) (get_or_append_left old.paths ((slice_index_or old.paths taken.number [] ++ step ∷ []) ∷ []) [] taken.number low) ∙ way;
        key = from.key;
        held = from.held ∙ ap (λ (cs : List Cut). holding cs taken.node.set.items) (sym alike.cuts);
      };
      kept = λ other c. subst (λ (ws : List Way). Contains ws other) (sym waits) (still_waits old.cuts.now old.bound old.facts old.paths taken.number step old.waiting new.waiting cost due old.looked.items old.table kept only' here' stay cost_is due_is under low other c);
      only = λ other c. ⊎_elim (λ h. inl h) (λ e. inr (sym made ∙ e)) (waits_now old.cuts.now old.bound old.facts old.paths taken.number step old.waiting new.waiting cost due old.looked.items old.table kept only' here' stay cost_is due_is under low other (subst (λ (ws : List Way). Contains ws other) waits c));
      known = λ less. inr (way_with (way_of taken.node) step, there, refl, omega arith);
    }

-- nothing is added
pub not_added : (frontier : Frontier) (taken : Taken) (step : Move) → IsTakenFrom frontier taken →
    (sum_of frontier.cuts.now (way_with (way_of taken.node) step) < frontier.bound → IsKnown (looked_in frontier) (waiting_in frontier) (with_fact taken.node.set.items step) (taken.node.cost + step.cost)) →
    IsAdded frontier frontier taken step
not_added frontier taken step from known =
    record {
      alike = record { facts = refl; cuts = refl; bound = refl };
      looked = refl;
      from = from;
      kept = λ other there. there;
      only = λ other there. inl there;
      known = known;
    }

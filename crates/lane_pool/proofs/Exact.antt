-- The lists stay exact when the counter is appended to one of them and then raised.
use Rattle.std.proofs.Common.{◌≡◌, ◌≢◌, ℕ, zero, suc, ◌+◌, ◌<◌, List, [], ◌∷◌, ◌++◌, length, map, replicate, get_or, set, refl, sym, ap, ◌∙◌, subst, arith, length-append}
use Rattle.std.proofs.lemmas.List.{map-set}
use native.Mathlib.Decide.{ℕ_discrete}
use mathlib.Core.Logic.{dite}
use Rattle.lane_pool.specs.declared.draws.Event.{Event}
use Rattle.lane_pool.specs.declared.draws.Event.TheVariants.{Draw, Done}
use Rattle.lane_pool.specs.Numbers.{total, times, EachOnce}
use Rattle.lane_pool.specs.Core.{Lane, Core, idle, lane_at, with_drawn, with_done, fresh, after, MayCome, after_all, IsSchedule, drawn_lists, IsExact, EveryScheduleIsExact}
use Rattle.lane_pool.proofs.Totals.{total-set, times-same, times-other}

-- the lists that have n more than the others, in one of them
pub one_more_by : (lists more : List (List ℕ)) (l : List ℕ) (n : ℕ) → ((f : List ℕ → ℕ) → total f more + f l ≡ total f lists + f (l ++ n ∷ [])) → EachOnce lists n → EachOnce more (n + 1)
one_more_by lists more l n step e = (
  (let s = step length in let a = length-append l (n ∷ []) in let b = e.0 in omega arith),
  (λ k below.
      let s = step (times k) in
      dite (ℕ_discrete n k)
      (λ (same : n ≡ k). let t = subst (λ m. times k (l ++ m ∷ []) ≡ times k l + 1) (sym same) (times-same k l) in let z = e.2 k (omega arith) in omega arith)
      (λ (apart : n ≢ k). let t = times-other k n l apart in let z = e.1 k (omega arith) in omega arith)),
  (λ k above.
      let s = step (times k) in
      let t = times-other k n l (omega arith) in let z = e.2 k (omega arith) in omega arith),
)

pub one_more : (lists : List (List ℕ)) (i n : ℕ) → i < length lists → EachOnce lists n → EachOnce (set lists i (get_or lists i [] ++ n ∷ [])) (n + 1)
one_more lists i n h e = let l = get_or lists i [] in one_more_by lists (set lists i (l ++ n ∷ [])) l n (λ f. total-set f lists i [] (l ++ n ∷ []) h) e

none : (n : ℕ) (f : List ℕ → ℕ) → f [] ≡ 0 → total f (map (λ (l : Lane). l.drawn) (replicate n idle)) ≡ 0
none zero f z = refl
none (suc n) f z = let t = none n f z in omega arith

pub fresh_exact_at : (n room : ℕ) → IsExact record { counter = 0; room = room; lanes = replicate n idle }
fresh_exact_at n room = (none n length refl, (λ k h. absurd (omega arith)), λ k h. none n (times k) refl)

pub fresh_exact : (n items : ℕ) → IsExact (fresh n items)
fresh_exact n items = (none n length refl, (λ k h. absurd (omega arith)), λ k h. none n (times k) refl)

get_or-drawn : (lanes : List Lane) (i : ℕ) → get_or (map (λ (l : Lane). l.drawn) lanes) i [] ≡ (lane_at lanes i).drawn
get_or-drawn [] i = refl
get_or-drawn (x ∷ xs) zero = refl
get_or-drawn (x ∷ xs) (suc i) = get_or-drawn xs i

length-drawn : (lanes : List Lane) → length (map (λ (l : Lane). l.drawn) lanes) ≡ length lanes
length-drawn [] = refl
length-drawn (x ∷ xs) = ap suc (length-drawn xs)

set-get_or : (lists : List (List ℕ)) (i : ℕ) → set lists i (get_or lists i []) ≡ lists
set-get_or [] i = refl
set-get_or (x ∷ xs) zero = refl
set-get_or (x ∷ xs) (suc i) = ap (λ t. x ∷ t) (set-get_or xs i)

pub step_exact : (c : Core) (e : Event) → MayCome c e → IsExact c → IsExact (after c e)
step_exact c (Draw lane) may ex =
    let lists = drawn_lists c in
    let here : drawn_lists (after c (Draw lane)) ≡ set lists lane (get_or lists lane [] ++ c.counter ∷ []) =
    map-set (λ (l : Lane). l.drawn) c.lanes lane (with_drawn (lane_at c.lanes lane) c.counter) ∙ ap (λ l. set lists lane (l ++ c.counter ∷ [])) (sym (get_or-drawn c.lanes lane)) in
    subst (λ ls. EachOnce ls (c.counter + 1)) (sym here) (one_more lists lane c.counter (subst (λ m. lane < m) (sym (length-drawn c.lanes)) may) ex)
step_exact c (Done lane k) may ex =
    let lists = drawn_lists c in
    let here : drawn_lists (after c (Done lane k)) ≡ lists =
    map-set (λ (l : Lane). l.drawn) c.lanes lane (with_done (lane_at c.lanes lane) k) ∙ (ap (λ l. set lists lane l) (sym (get_or-drawn c.lanes lane)) ∙ set-get_or lists lane) in
    subst (λ ls. EachOnce ls c.counter) (sym here) ex

pub run_exact : (c : Core) (es : List Event) → IsSchedule c es → IsExact c → IsExact (after_all c es)
run_exact c [] s ex = ex
run_exact c (e ∷ es) s ex = run_exact (after c e) es s.1 (step_exact c e s.0 ex)

pub every_schedule : (n : ℕ) → EveryScheduleIsExact n
every_schedule n items es s = run_exact (fresh n items) es s (fresh_exact n items)

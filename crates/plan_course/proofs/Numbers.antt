-- The steps of a plan by the numbers of their branches and their numbers there.
use Rattle.std.proofs.Common.{◌≡◌, ℕ, zero, suc, ◌+◌, ◌*◌, ◌<◌, ◌≤◌, ◌^◌, List, [], ◌∷◌, ◌++◌, length, take, get_or, None, Some, refl, sym, ◌∙◌, ap, subst, append_assoc, arith}
use Rattle.std.specs.Prelude.{Contains, slice_get}
use Rattle.std.proofs.lemmas.List.{append-nil, length-take, take_all}
use Rattle.std.proofs.lemmas.Option.{slice_get_within}
use Rattle.lists.proofs.Members.{contains_here, contains_there, contains_take, got_before, some_injective}
use Rattle.lists.proofs.Places.{got_after, got_indexed}
use Rattle.meaning.specs.declared.types.Step.{Step}
use Rattle.meaning.specs.declared.types.Branch.{Branch}
use Rattle.meaning.specs.declared.types.Plan.{Plan}
use Rattle.shared_rounds.specs.SharedRounds.{Turn, turns_from, turns_in, turns_of, steps_in}
use Rattle.shared_rounds.proofs.Counting.{all_long, turns_long}
use Rattle.plan_course.specs.Courses.{CanNumber}

abbrev pub turn_of : ℕ → ℕ → List Step → Step → Turn
turn_of branch step before its = record { branch = branch; step = step; before = before; its = its }

-- ---- members by number

pub none_got : {X : Type 0} (xs : List X) (k : ℕ) → length xs ≤ k → slice_get xs k ≡ None
none_got [] k over = refl
none_got (x ∷ xs) zero over = absurd (omega arith)
none_got (x ∷ xs) (suc k) over = none_got xs k (omega arith)

-- ---- the step of a number in a branch, counted through the branches

turn_is : (a b s t : ℕ) (before then : List Step) (its : Step) → a ≡ b → s ≡ t → before ≡ then
    → Some (turn_of a s before its) ≡ Some (turn_of b t then its)
turn_is a b s t before then its e f g =
    ap (λ n. Some (turn_of n s before its)) e ∙ ap (λ n. Some (turn_of b n before its)) f
    ∙ ap (λ (l : List Step). Some (turn_of b t l its)) g

of_branch : (branch k : ℕ) (before steps : List Step) (n : ℕ) (its : Step) → slice_get steps n ≡ Some its
    → slice_get (turns_from branch k before steps) n ≡ Some (turn_of branch (k + n) (before ++ take n steps) its)
of_branch branch k before [] n its e = absurd (cc)
of_branch branch k before (step ∷ steps) zero its e =
    turn_is branch branch k (k + zero) before (before ++ []) step refl (omega arith) (sym (append-nil before))
    ∙ ap (λ (s : Step). Some (turn_of branch (k + zero) (before ++ []) s)) (some_injective step its e)
of_branch branch k before (step ∷ steps) (suc n) its e =
    of_branch branch (k + 1) (before ++ step ∷ []) steps n its e
    ∙ turn_is branch branch ((k + 1) + n) (k + suc n) ((before ++ step ∷ []) ++ take n steps) (before ++ take (suc n) (step ∷ steps)) its
    refl (omega arith)
    (append_assoc before (step ∷ []) (take n steps))

of_branches : (m : ℕ) (branches : List Branch) (b s : ℕ) (its : Branch) (step : Step) → slice_get branches b ≡ Some its
    → slice_get its.steps s ≡ Some step
    → slice_get (turns_in m branches) (steps_in (take b branches) + s) ≡ Some (turn_of (m + b) s (take s its.steps) step)
of_branches m [] b s its step e f = absurd (cc)
of_branches m (branch ∷ branches) zero s its step e f =
    let same : branch ≡ its = some_injective branch its e in
    let at : slice_get branch.steps s ≡ Some step = subst (λ (i : Branch). slice_get i.steps s ≡ Some step) (sym same) f in
    let within : s < length branch.steps = slice_get_within branch.steps s step at in
    let long = turns_long m 0 [] branch.steps in
    let first : steps_in (take zero (branch ∷ branches)) + s ≡ s = omega arith in
    ap (slice_get (turns_in m (branch ∷ branches))) first
    ∙ got_before (turns_from m 0 [] branch.steps) (turns_in (m + 1) branches) s (omega (arith, long, within))
    ∙ of_branch m 0 [] branch.steps s step at
    ∙ turn_is m (m + zero) (0 + s) s (take s branch.steps) (take s its.steps) step (omega arith) (omega arith)
    (ap (λ (i : Branch). take s i.steps) same)
of_branches m (branch ∷ branches) (suc b) s its step e f =
    let long = turns_long m 0 [] branch.steps in
    let number :
    steps_in (take (suc b) (branch ∷ branches)) + s ≡ length (turns_from m 0 [] branch.steps) + (steps_in (take b branches) + s) =
    omega (arith, long) in
    ap (slice_get (turns_in m (branch ∷ branches))) number
    ∙ got_after (turns_from m 0 [] branch.steps) (turns_in (m + 1) branches) (steps_in (take b branches) + s)
    ∙ of_branches (m + 1) branches b s its step e f
    ∙ turn_is ((m + 1) + b) (m + suc b) s s (take s its.steps) (take s its.steps) step (omega arith) refl refl

pub nth_of : (plan : Plan) (b s : ℕ) (its : Branch) (step : Step) → slice_get plan.branches b ≡ Some its → slice_get its.steps s ≡ Some step
    → slice_get (turns_of plan) (steps_in (take b plan.branches) + s) ≡ Some (turn_of b s (take s its.steps) step)
nth_of plan b s its step e f =
    of_branches 0 plan.branches b s its step e f ∙ turn_is (0 + b) b s s (take s its.steps) (take s its.steps) step (omega arith) refl refl

-- ---- the steps of the first branches

steps_more : (branches : List Branch) (b : ℕ) (its : Branch) → slice_get branches b ≡ Some its
    → steps_in (take (suc b) branches) ≡ steps_in (take b branches) + length its.steps
steps_more [] b its e = absurd (cc)
steps_more (branch ∷ branches) zero its e =
    let same = ap (λ (i : Branch). length i.steps) (some_injective branch its e) in
    omega (arith, same)
steps_more (branch ∷ branches) (suc b) its e = let rest = steps_more branches b its e in omega (arith, rest)

pub steps_push : (branches : List Branch) (b : ℕ) (its : Branch) → slice_get branches b ≡ Some its
    → steps_in (take (b + 1) branches) ≡ steps_in (take b branches) + length its.steps
steps_push branches b its e =
    let next : b + 1 ≡ suc b = omega arith in
    ap (λ n. steps_in (take n branches)) next ∙ steps_more branches b its e

pub all_steps : (plan : Plan) → steps_in (take (length plan.branches) plan.branches) ≡ length (turns_of plan)
all_steps plan = ap steps_in (take_all (length plan.branches) plan.branches (omega arith)) ∙ sym (all_long 0 plan.branches)

pub take_none : {X : Type 0} (xs : List X) → take 0 xs ≡ []
take_none [] = refl
take_none (x ∷ xs) = refl

-- ---- how many steps a plan has

pub count_more : (branches : List Branch) (i : ℕ) (its : Branch) → i < length branches → its ≡ get_or branches i its → (count : ℕ)
    → count ≡ steps_in (take i branches) → count + length its.steps ≡ steps_in (take (i + 1) branches)
count_more branches i its under at count is =
    let push = steps_push branches i its (got_indexed branches i its under at) in omega (arith, push, is)

steps_few : (branches : List Branch) → ((its : Branch) → Contains branches its → length its.steps < 2 ^ 32)
    → steps_in branches ≤ length branches * 4294967295
steps_few [] short = omega arith
steps_few (b ∷ branches) short =
    let here = short b (contains_here b branches) in
    let rest = steps_few branches (λ its c. short its (contains_there b branches its c)) in
    omega (arith, here, rest)

pub steps_fit : (plan : Plan) → CanNumber plan → (i : ℕ) → steps_in (take i plan.branches) < 2 ^ 64
steps_fit plan can i =
    let few = steps_few (take i plan.branches) (λ its c. can.1 its (contains_take i plan.branches its c)) in
    let long = length-take i plan.branches in
    let short = can.0 in
    omega (arith, few, long, short)

pub steps_counted : (plan : Plan) (i : ℕ) → length plan.branches ≤ i → (count : ℕ) → count ≡ steps_in (take i plan.branches)
    → count ≡ length (turns_of plan)
steps_counted plan i over count is = is ∙ ap steps_in (take_all i plan.branches over) ∙ sym (all_long 0 plan.branches)

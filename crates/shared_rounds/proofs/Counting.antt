-- The steps of a plan, counted through its branches.
use Rattle.std.proofs.Common.{◌≡◌, ⊎_elim, ℕ, zero, suc, ◌+◌, ◌-◌, ◌<◌, ◌≤◌, List, [], ◌∷◌, ◌++◌, length, length-append, take, Some, refl, sym, ◌∙◌, ap, subst, append_assoc, arith}
use Rattle.std.specs.Prelude.{slice_get}
use Rattle.std.proofs.lemmas.Bool.{cases_lt}
use Rattle.std.proofs.lemmas.List.{append-nil}
use Rattle.lists.proofs.Members.{got_before, some_injective}
use Rattle.lists.proofs.Places.{got_after}
use Rattle.meaning.specs.declared.types.Step.{Step}
use Rattle.meaning.specs.declared.types.Branch.{Branch}
use Rattle.meaning.specs.declared.types.Plan.{Plan}
use Rattle.shared_rounds.specs.SharedRounds.{Turn, turns_from, turns_in, turns_of, steps_in, IsNth}

pub turns_long : (branch n : ℕ) (before steps : List Step) → length (turns_from branch n before steps) ≡ length steps
turns_long branch n before [] = refl
turns_long branch n before (step ∷ steps) = ap suc (turns_long branch (n + 1) (before ++ step ∷ []) steps)

pub all_long : (n : ℕ) (branches : List Branch) → length (turns_in n branches) ≡ steps_in branches
all_long n [] = refl
all_long n (branch ∷ branches) =
    let first = turns_long n 0 [] branch.steps in
    let rest = all_long (n + 1) branches in
    omega (arith, first, rest, length-append (turns_from n 0 [] branch.steps) (turns_in (n + 1) branches))

-- the step of a number among those of a branch
record IsOne (branch k : ℕ) (before steps : List Step) (n : ℕ) (turn : Turn) : Type 0 where
  branch_is : turn.branch ≡ branch
  step_is : turn.step ≡ k + n
  at : slice_get steps n ≡ Some turn.its
  before_are : turn.before ≡ before ++ take n steps

one_at : (branch k : ℕ) (before steps : List Step) (n : ℕ) (turn : Turn) → slice_get (turns_from branch k before steps) n ≡ Some turn → IsOne branch k before steps n turn
one_at branch k before [] n turn got = absurd (cc)
one_at branch k before (step ∷ steps) zero turn got =
    let e : record { branch = branch; step = k; before = before; its = step } ≡ turn = some_injective (record { branch = branch; step = k; before = before; its = step }) turn got in record {
      branch_is = ap (λ (t : Turn). t.branch) (sym e);
      step_is = let s : turn.step ≡ k = ap (λ (t : Turn). t.step) (sym e) in omega (arith, s);
      at = ap (λ (t : Turn). Some t.its) e;
      before_are = ap (λ (t : Turn). t.before) (sym e) ∙ sym (append-nil before);
    }
one_at branch k before (step ∷ steps) (suc n) turn got =
    let r = one_at branch (k + 1) (before ++ step ∷ []) steps n turn got in record {
      branch_is = r.branch_is;
      step_is = let s = r.step_is in omega (arith, s);
      at = r.at;
      before_are = r.before_are ∙ append_assoc before (step ∷ []) (take n steps);
    }

-- the step of a number among those of branches, of which the first has this one
record IsIn (m : ℕ) (branches : List Branch) (n : ℕ) (turn : Turn) : Type 0 where
  place : ℕ
  its : Branch
  branch_is : turn.branch ≡ m + place
  of_plan : slice_get branches place ≡ Some its
  of_branch : slice_get its.steps turn.step ≡ Some turn.its
  before_are : turn.before ≡ take turn.step its.steps
  number : n ≡ steps_in (take place branches) + turn.step

in_branches : (m : ℕ) (branches : List Branch) (n : ℕ) (turn : Turn) → slice_get (turns_in m branches) n ≡ Some turn → IsIn m branches n turn
in_branches m [] n turn got = absurd (cc)
in_branches m (branch ∷ branches) n turn got = ⊎_elim here (there (λ k at. in_branches (m + 1) branches k turn at)) (cases_lt n (length (turns_from m 0 [] branch.steps)))
  where
    here : n < length (turns_from m 0 [] branch.steps) → IsIn m (branch ∷ branches) n turn
    here less =
        let r = one_at m 0 [] branch.steps n turn (sym (got_before (turns_from m 0 [] branch.steps) (turns_in (m + 1) branches) n less) ∙ got) in
        let same : n ≡ turn.step = let s = r.step_is in omega (arith, s) in record {
          place = 0;
          its = branch;
          branch_is = let b = r.branch_is in omega (arith, b);
          of_plan = refl;
          of_branch = subst (λ k. slice_get branch.steps k ≡ Some turn.its) same r.at;
          before_are = r.before_are ∙ ap (λ k. take k branch.steps) same;
          number = let e : n ≡ turn.step = same in omega (arith, e);
        }

    there : ((k : ℕ) → slice_get (turns_in (m + 1) branches) k ≡ Some turn → IsIn (m + 1) branches k turn) → length (turns_from m 0 [] branch.steps) ≤ n
        → IsIn m (branch ∷ branches) n turn
    there later over =
        let e : length (turns_from m 0 [] branch.steps) + (n - length (turns_from m 0 [] branch.steps)) ≡ n = omega (arith, over) in
        let r = later (n - length (turns_from m 0 [] branch.steps))
        (sym (got_after (turns_from m 0 [] branch.steps) (turns_in (m + 1) branches) (n - length (turns_from m 0 [] branch.steps)))
        ∙ ap (slice_get (turns_from m 0 [] branch.steps ++ turns_in (m + 1) branches)) e ∙ got) in record {
          place = suc r.place;
          its = r.its;
          branch_is = let b = r.branch_is in omega (arith, b);
          of_plan = r.of_plan;
          of_branch = r.of_branch;
          before_are = r.before_are;
          number = let a = r.number in let long = turns_long m 0 [] branch.steps in omega (arith, a, long, e);
        }

pub is_nth : (plan : Plan) (n : ℕ) (turn : Turn) → slice_get (turns_of plan) n ≡ Some turn → IsNth plan n turn
is_nth plan n turn got =
    let r = in_branches 0 plan.branches n turn got in
    let same : r.place ≡ turn.branch = let b = r.branch_is in omega (arith, b) in record {
      branch = r.its;
      of_plan = subst (λ k. slice_get plan.branches k ≡ Some r.its) same r.of_plan;
      of_branch = r.of_branch;
      before_are = r.before_are;
      number = r.number ∙ ap (λ k. steps_in (take k plan.branches) + turn.step) same;
    }

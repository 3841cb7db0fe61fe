-- The rounds of a plan before one of its steps, by the numbers of its branch and its step there, and those behind.
use Rattle.std.proofs.Common.{◌≡◌, ℕ, zero, suc, ◌+◌, ◌≤◌, List, [], ◌∷◌, ◌++◌, length, take, drop, Option, Some, refl, sym, ◌∙◌, ap, subst, append_assoc, arith}
use Rattle.std.specs.Prelude.{slice_get}
use Rattle.std.proofs.Math.Seq.{take-append-add}
use Rattle.std.proofs.lemmas.List.{append-nil, take_all, take-append-drop, take-append-le}
use Rattle.std.proofs.lemmas.Option.{slice_get_within}
use Rattle.lists.proofs.Members.{some_injective}
use Rattle.meaning.specs.declared.types.SchemaParts.{SchemaParts}
use Rattle.meaning.specs.declared.types.Fact.{Fact}
use Rattle.meaning.specs.declared.types.Step.{Step}
use Rattle.meaning.specs.declared.types.Branch.{Branch}
use Rattle.meaning.specs.declared.types.Plan.{Plan}
use Rattle.meaning.specs.declared.types.Request.{Request}
use Rattle.meaning.specs.Plans.{IsWellFormed}
use Rattle.meaning.specs.Requests.{IsRound, AreStepsRequests, AreBranchesRequests, AreRequests}
use Rattle.middleware.proofs.Existing.{branches_exist}
use Rattle.shared_rounds.specs.SharedRounds.{Anew, AreAskedAt, AreRounds, IsTurn, Turn, steps_in, turns_from, turns_in, turns_of}
use Rattle.shared_rounds.proofs.Counting.{is_nth, turns_long}
use Rattle.shared_rounds.proofs.Turning.{AreOf, branches_of, of_append, of_branches, of_rounds, of_split, one_of, steps_of}
use Rattle.plan_course.specs.Courses.{AreReadyBranches}
use Rattle.plan_execution.specs.PlanRounds.{AreRoundsBefore, IsRoundAt, steps_of as steps_there}

-- the first steps of a branch
first_turns : (branch k : ℕ) (before steps : List Step) (n : ℕ)
    → take n (turns_from branch k before steps) ≡ turns_from branch k before (take n steps)
first_turns branch k before [] zero = refl
first_turns branch k before [] (suc n) = refl
first_turns branch k before (step ∷ steps) zero = refl
first_turns branch k before (step ∷ steps) (suc n) =
    ap (λ (l : List Turn). record { branch = branch; step = k; before = before; its = step } ∷ l)
    (first_turns branch (k + 1) (before ++ step ∷ []) steps n)

module _ (schema : SchemaParts) (facts : List Fact) where
  -- the requests of some branches, and of the first steps of the next one
  record Parts (branches : List Branch) (place step : ℕ) (its : Branch) (list : List Request) : Type 0 where
    of_branches : List Request
    of_steps : List Request
    branches_are : AreBranchesRequests schema facts (take place branches) of_branches
    steps_are : AreStepsRequests schema facts [] (take step its.steps) of_steps
    list_is : list ≡ of_branches ++ of_steps

  parts_of : (m : ℕ) (branches : List Branch) (place step : ℕ) (its : Branch) → slice_get branches place ≡ Some its
      → step ≤ length its.steps
      → (list : List Request) → AreOf schema facts
      (take (steps_in (take place branches) + step) (turns_in m branches)) list
      → Parts branches place step its list
  parts_of m [] place step its at fits list are = absurd (cc)
  parts_of m (branch ∷ branches) zero step its at fits list are = record {
    of_branches = [];
    of_steps = list;
    branches_are = refl;
    steps_are = steps_of schema facts m 0 [] (take step its.steps) list
        (subst (λ (t : List Turn). AreOf schema facts t list) same are);
    list_is = refl;
  }
    where
      one : branch ≡ its
      one = some_injective branch its at

      long : length branch.steps ≡ length its.steps
      long = ap (λ (b : Branch). length b.steps) one

      first : steps_in (take zero (branch ∷ branches)) + step ≡ step
      first = omega arith

      same : take (steps_in (take zero (branch ∷ branches)) + step)
          (turns_in m (branch ∷ branches)) ≡ turns_from m 0 [] (take step its.steps)
      same = ap (λ k. take k (turns_in m (branch ∷ branches))) first
          ∙ take-append-le step (turns_from m 0 [] branch.steps) (turns_in (m + 1) branches)
          (let all = turns_long m 0 [] branch.steps in omega (arith, all, long, fits))
          ∙ first_turns m 0 [] branch.steps step ∙ ap (λ (b : Branch). turns_from m 0 [] (take step b.steps)) one
  parts_of m (branch ∷ branches) (suc place) step its at fits list are =
      let all = turns_long m 0 [] branch.steps in
      let number : steps_in (take (suc place) (branch ∷ branches)) + step
      ≡ length (turns_from m 0 [] branch.steps) + (steps_in (take place branches) + step) = omega (arith, all) in
      let same : take (steps_in (take (suc place) (branch ∷ branches)) + step) (turns_in m (branch ∷ branches))
      ≡ turns_from m 0 [] branch.steps ++ take (steps_in (take place branches) + step) (turns_in (m + 1) branches) =
      ap (λ k. take k (turns_in m (branch ∷ branches))) number
      ∙ take-append-add (turns_from m 0 [] branch.steps) (turns_in (m + 1) branches)
      (steps_in (take place branches) + step) in
      let (a, b, e, x, y) = of_split schema facts (turns_from m 0 [] branch.steps)
      (take (steps_in (take place branches) + step) (turns_in (m + 1) branches))
      list (subst (λ (t : List Turn). AreOf schema facts t list) same are) in
      let rest = parts_of (m + 1) branches place step its at fits b y in
      record {
        of_branches = a ++ rest.of_branches;
        of_steps = rest.of_steps;
        branches_are = (a, rest.of_branches, refl, steps_of schema facts m 0 [] branch.steps a x, rest.branches_are);
        steps_are = rest.steps_are;
        list_is = e ∙ ap (λ (l : List Request). a ++ l) rest.list_is
            ∙ sym (append_assoc a rest.of_branches rest.of_steps);
      }

  module _ (plan : Plan) where
    abbrev turns : List Turn
    turns = turns_of plan

    round_of : (n : ℕ) (turn : Turn) (now : List Request) → slice_get turns n ≡ Some turn
        → IsTurn schema facts n plan now
        → IsRound schema facts turn.before turn.its now
    round_of n turn now at is = subst (λ (o : Option Turn). AreAskedAt schema facts o now) at is

    module _ (n : ℕ) (turn : Turn) (at : slice_get turns n ≡ Some turn) (list : List Request)
        (are : AreRounds schema facts (plan ∷ []) Anew n list) where
      less : n ≤ length turns
      less = let l = slice_get_within turns n turn at in omega (arith, l)

      at_turn : Parts plan.branches turn.branch turn.step (is_nth plan n turn at).branch list
      at_turn =
          let nth = is_nth plan n turn at in
          let within = slice_get_within nth.branch.steps turn.step turn.its nth.of_branch in
          parts_of 0 plan.branches turn.branch turn.step nth.branch nth.of_plan (omega (arith, within)) list
          (subst (λ k. AreOf schema facts (take k turns) list) nth.number (of_rounds schema facts plan n list less are))

      -- the rounds before the plan's nth step
      pub before_turn : AreRoundsBefore schema plan facts turn.branch turn.step list
      before_turn = let nth = is_nth plan n turn at in record {
        of_branches = at_turn.of_branches;
        of_steps = at_turn.of_steps;
        branches_are = at_turn.branches_are;
        steps_are = subst (λ (o : Option Branch). AreStepsRequests schema facts []
            (take turn.step (steps_there o)) at_turn.of_steps) (sym nth.of_plan) at_turn.steps_are;
        earlier_is = at_turn.list_is;
      }

      -- and its own
      pub at_round : (now : List Request) → IsTurn schema facts n plan now
          → IsRoundAt schema plan facts turn.branch turn.step list now
      at_round now is = let nth = is_nth plan n turn at in record {
        its_branch = nth.branch;
        its_step = turn.its;
        there = record { of_plan = nth.of_plan; of_branch = nth.of_branch };
        of_branches = at_turn.of_branches;
        of_steps = at_turn.of_steps;
        branches_are = at_turn.branches_are;
        steps_are = at_turn.steps_are;
        earlier_is = at_turn.list_is;
        now_is = subst (λ (b : List Step). IsRound schema facts b turn.its now) nth.before_are
            (round_of n turn now at is);
      }

    no_step : (steps : List Step) → AreStepsRequests schema facts [] (take 0 steps) []
    no_step [] = refl
    no_step (step ∷ steps) = refl

    no_branch : (branches : List Branch) → AreBranchesRequests schema facts (take 0 branches) []
    no_branch [] = refl
    no_branch (branch ∷ branches) = refl

    -- the rounds before the first one
    pub before_start : AreRoundsBefore schema plan facts 0 0 []
    before_start = record {
      of_branches = [];
      of_steps = [];
      branches_are = no_branch plan.branches;
      steps_are = no_step (steps_there (slice_get plan.branches 0));
      earlier_is = refl;
    }

    -- the rounds before the end of the plan
    pub before_end : (list : List Request) → AreRequests schema plan facts list
        → AreRoundsBefore schema plan facts (length plan.branches) 0 list
    before_end list are = record {
      of_branches = list;
      of_steps = [];
      branches_are = subst (λ (b : List Branch). AreBranchesRequests schema facts b list)
          (sym (take_all (length plan.branches) plan.branches (omega arith))) are;
      steps_are = no_step (steps_there (slice_get plan.branches (length plan.branches)));
      earlier_is = sym (append-nil list);
    }

    -- ---- the rounds behind

    module _ (well : IsWellFormed schema) (ready : AreReadyBranches schema plan) where
      behind : (n : ℕ) → (rest : List Request) × AreOf schema facts (drop n turns) rest
      behind n =
          let (list, are) = branches_exist schema well facts plan.branches (λ its c. (ready its c).steps) in
          let (a, b, e, x, y) = of_split schema facts (take n turns) (drop n turns) list
          (subst (λ (t : List Turn). AreOf schema facts t list) (sym (take-append-drop n turns))
          (of_branches schema facts 0 plan.branches list are)) in
          (b, y)

      goes_on : (n : ℕ) (list : List Request) → AreOf schema facts (take n turns) list → (rest : List Request)
          × AreRequests schema plan facts (list ++ rest)
      goes_on n list are =
          let (rest, more) = behind n in (
            rest,
            branches_of schema facts 0 plan.branches (list ++ rest)
                (subst (λ (t : List Turn). AreOf schema facts t (list ++ rest)) (take-append-drop n turns)
                (of_append schema facts (take n turns) (drop n turns) list rest are more)),
          )

      -- what was asked before a round goes on to all requests of the plan
      pub rest_unasked : (n : ℕ) (list : List Request) → n ≤ length turns
          → AreRounds schema facts (plan ∷ []) Anew n list
          → (rest : List Request) × AreRequests schema plan facts ((list ++ []) ++ rest)
      rest_unasked n list less are =
          let (rest, all) = goes_on n list (of_rounds schema facts plan n list less are) in
          (rest, subst (λ (l : List Request). AreRequests schema plan facts (l ++ rest)) (sym (append-nil list)) all)

      -- and so does what was asked with it
      pub rest_asked : (n : ℕ) (turn : Turn) → slice_get turns n ≡ Some turn → (list : List Request)
          → AreRounds schema facts (plan ∷ []) Anew n list
          → (now : List Request) → IsTurn schema facts n plan now → (rest : List Request)
          × AreRequests schema plan facts ((list ++ now) ++ rest)
      rest_asked n turn at list are now is =
          goes_on (suc n) (list ++ now) (one_of schema facts turns n turn at list now
          (of_rounds schema facts plan n list (let l = slice_get_within turns n turn at in omega (arith, l)) are)
          (round_of n turn now at is))

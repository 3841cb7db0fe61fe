-- Where a course stands: before a step of a branch, and from a branch to the next one.
use Rattle.std.proofs.Common.{◌≡◌, ◌↔◌, ℕ, ◌+◌, ◌<◌, ◌≤◌, List, [], ◌∷◌, ◌++◌, length, take, drop, Option, None, Some, refl, sym, ◌∙◌, ap, subst, arith}
use Rattle.std.specs.Prelude.{Contains, slice_get}
use Rattle.std.proofs.lemmas.List.{take_all}
use Rattle.std.proofs.lemmas.Option.{slice_get_within}
use Rattle.lists.proofs.Members.{contains_got, contains_none, contains_take, got_below, some_injective}
use Rattle.meaning.specs.declared.types.SchemaParts.{SchemaParts}
use Rattle.meaning.specs.declared.types.Fact.{Fact}
use Rattle.meaning.specs.declared.types.Step.{Step}
use Rattle.meaning.specs.declared.types.Branch.{Branch}
use Rattle.meaning.specs.declared.types.Plan.{Plan}
use Rattle.meaning.specs.declared.types.Request.{Request}
use Rattle.meaning.specs.Plans.{IsWellFormed}
use Rattle.meaning.specs.Rows.{IsRow}
use Rattle.source_trait.specs.Asking.{RowList}
use Rattle.middleware.specs.Blocks.{AreTables, AreBlocks}
use Rattle.middleware.specs.Branches.{AddsBranch, ArePartial, IsReadyBranch, Means, columns_after}
use Rattle.middleware.specs.Live.{is_live, is_shown}
use Rattle.middleware.specs.declared.blocks.Block.{Block}
use Rattle.middleware.proofs.Gathering.{tables_none}
use Rattle.middleware.proofs.BlockSteps.{no_blocks}
use Rattle.middleware.proofs.Branching.{adds_branch, drop_all}
use Rattle.middleware.proofs.Existing.{branches_exist, first_partial, steps_exist}
use Rattle.middleware.proofs.Planning.{branches_more}
use Rattle.shared_rounds.specs.SharedRounds.{Turn, turns_of, steps_in}
use Rattle.shared_rounds.proofs.Counting.{is_nth}
use Rattle.plan_course.specs.Courses.{AreReadyBranches, AreRowsOf, HasPartial, HasPartialIn, HasStep, IsAt, IsBefore, IsWithin, Knows, Passes, Settles, Stands, StandsIn, live_from, steps_done}
use Rattle.plan_course.specs.declared.course.Course.{Course}
use Rattle.lists.proofs.Places.{got_none, take_got}
use Rattle.plan_course.proofs.Numbers.{all_steps, none_got, nth_of, steps_push, take_none, turn_of}

-- ---- at the beginning of a branch

-- no step of the branch is done
pub record IsFresh (course : Course) : Type 0 where
  pub step_is : course.step ≡ 0
  pub count_is : course.count ≡ 0
  pub blocks_are : course.blocks.items ≡ []

none_taken : {X : Type 0} (xs : List X) (course : Course) → IsFresh course → take course.step xs ≡ []
none_taken {X} xs course f = ap (λ n. take n xs) f.step_is ∙ take_none xs

fresh_within : (its : Branch) (course : Course) → IsFresh course → IsWithin its course
fresh_within its course f = record {
  within = let e = f.step_is in omega (arith, e);
  count_is = f.count_is ∙ ap (λ (l : List Step). columns_after 0 l) (sym (none_taken its.steps course f));
  tables = subst (λ (b : List Block). AreTables course.count b) (sym f.blocks_are) (tables_none course.count);
  live_columns = λ k l is. absurd (let e = f.count_is in omega (arith, e, l));
}

fresh_in : (plan : Plan) (course : Course) → course.branch ≤ length plan.branches → IsFresh course → (o : Option Branch)
    → slice_get plan.branches course.branch ≡ o → StandsIn plan course o
fresh_in plan course less f None e = (let over = got_none plan.branches course.branch e in omega (arith, over, less), f.step_is)
fresh_in plan course less f (Some its) e = fresh_within its course f

pub fresh_stands : (plan : Plan) (course : Course) → course.branch ≤ length plan.branches → IsFresh course → Stands plan course
fresh_stands plan course less f = fresh_in plan course less f (slice_get plan.branches course.branch) refl

-- ---- where a course stands

within_in : (plan : Plan) (course : Course) (o : Option Branch) → slice_get plan.branches course.branch ≡ o → StandsIn plan course o
    → course.branch ≤ length plan.branches
within_in plan course None e s = let is = s.0 in omega (arith, is)
within_in plan course (Some its) e s = let l = slice_get_within plan.branches course.branch its e in omega (arith, l)

pub stands_within : (plan : Plan) (course : Course) → Stands plan course → course.branch ≤ length plan.branches
stands_within plan course s = within_in plan course (slice_get plan.branches course.branch) refl s

pub stands_at : (plan : Plan) (course : Course) (its : Branch) → slice_get plan.branches course.branch ≡ Some its → Stands plan course
    → IsWithin its course
stands_at plan course its e s = subst (λ (o : Option Branch). StandsIn plan course o) e s

pub stands_behind : (plan : Plan) (course : Course) → slice_get plan.branches course.branch ≡ None → Stands plan course
    → course.branch ≡ length plan.branches
stands_behind plan course e s = (subst (λ (o : Option Branch). StandsIn plan course o) e s).0

pub no_step : (course : Course) (o : Option Branch) → o ≡ None → HasStep course o
no_step course o e = subst (λ (o : Option Branch). HasStep course o) (sym e) tt

pub has_step : (course : Course) (o : Option Branch) (its : Branch) → o ≡ Some its → course.step < length its.steps → HasStep course o
has_step course o its e less = subst (λ (o : Option Branch). HasStep course o) (sym e) less

-- ---- by the plan's steps

-- a course with so many steps done that is at no branch's end is before the step of this number
settled_in : (plan : Plan) (old new : Course) (n : ℕ) → Settles plan old new → steps_done plan new ≡ n → (o : Option Branch)
    → slice_get plan.branches new.branch ≡ o
    → IsBefore plan (slice_get (turns_of plan) n) new
settled_in plan old new n s e None at =
    let behind = subst (λ (o : Option Branch). StandsIn plan new o) at s.stands in
    let all : steps_in (take new.branch plan.branches) ≡ length (turns_of plan) =
    ap (λ k. steps_in (take k plan.branches)) behind.0 ∙ all_steps plan in
    let over : length (turns_of plan) ≤ n = let zeroth = behind.1 in omega (arith, all, zeroth, e) in
    subst (λ (o : Option Turn). IsBefore plan o new) (sym (none_got (turns_of plan) n over)) (behind.0)
settled_in plan old new n s e (Some its) at =
    let less : new.step < length its.steps = subst (λ (o : Option Branch). HasStep new o) at s.has_step in
    let (step, got) = got_below its.steps new.step less in
    let is : slice_get (turns_of plan) n ≡ Some (turn_of new.branch new.step (take new.step its.steps) step) =
    ap (slice_get (turns_of plan)) (sym e) ∙ nth_of plan new.branch new.step its step at got in
    subst (λ (o : Option Turn). IsBefore plan o new) (sym is) (refl, refl)

pub settled_at : (plan : Plan) (old new : Course) (n : ℕ) → Settles plan old new → steps_done plan old ≡ n → IsAt plan n new
settled_at plan old new n s e = record {
  stands = s.stands;
  before = settled_in plan old new n s (s.same ∙ e) (slice_get plan.branches new.branch) refl;
}

-- the step that a course in a branch is before
pub record IsAtStep (plan : Plan) (n : ℕ) (course : Course) (its : Branch) : Type 0 where
  pub turn : Turn
  pub got : slice_get (turns_of plan) n ≡ Some turn
  pub of_branch : slice_get its.steps course.step ≡ Some turn.its
  pub before_are : turn.before ≡ take course.step its.steps
  pub number : steps_done plan course ≡ n

step_in : (plan : Plan) (n : ℕ) (course : Course) (its : Branch) → slice_get plan.branches course.branch ≡ Some its → (o : Option Turn)
    → slice_get (turns_of plan) n ≡ o
    → IsBefore plan o course → IsAtStep plan n course its
step_in plan n course its at None e b =
    absurd (let l = slice_get_within plan.branches course.branch its at in omega (arith, l, b))
step_in plan n course its at (Some turn) e b =
    let r = is_nth plan n turn e in
    let same : r.branch ≡ its = some_injective r.branch its (sym r.of_plan ∙ ap (slice_get plan.branches) (sym b.0) ∙ at) in record {
      turn = turn;
      got = e;
      of_branch = subst (λ (i : Branch). slice_get i.steps course.step ≡ Some turn.its) same
          (ap (slice_get r.branch.steps) b.1 ∙ r.of_branch);
      before_are = r.before_are ∙ ap (λ (i : Branch). take turn.step i.steps) same ∙ ap (λ k. take k its.steps) (sym b.1);
      number = ap (λ k. steps_in (take k plan.branches) + course.step) b.0 ∙ ap (λ k. steps_in (take turn.branch plan.branches) + k) b.1
          ∙ sym r.number;
    }

pub at_step : (plan : Plan) (n : ℕ) (course : Course) (its : Branch) → slice_get plan.branches course.branch ≡ Some its
    → IsAt plan n course → IsAtStep plan n course its
at_step plan n course its at is = step_in plan n course its at (slice_get (turns_of plan) n) refl is.before

done_in : (plan : Plan) (n : ℕ) (course : Course) → length plan.branches ≤ course.branch → (o : Option Turn)
    → slice_get (turns_of plan) n ≡ o → IsBefore plan o course → o ≡ None
done_in plan n course over None e b = refl
done_in plan n course over (Some turn) e b =
    let r = is_nth plan n turn e in
    absurd (let l = slice_get_within plan.branches turn.branch r.branch r.of_plan in let same = b.0 in omega (arith, l, same, over))

-- behind all branches the plan has no step
pub no_turn : (plan : Plan) (n : ℕ) (course : Course) → course.branch ≡ length plan.branches → IsAt plan n course
    → slice_get (turns_of plan) n ≡ None
no_turn plan n course e is = done_in plan n course (omega (arith, e)) (slice_get (turns_of plan) n) refl is.before

-- a course that is behind all branches stays so
pub stays_done : (plan : Plan) (n : ℕ) (course : Course) → course.branch ≡ length plan.branches → IsAt plan n course
    → IsAt plan (n + 1) course
stays_done plan n course e is =
    let over = got_none (turns_of plan) n (no_turn plan n course e is) in record {
      stands = is.stands;
      before = subst (λ (o : Option Turn). IsBefore plan o course) (sym (none_got (turns_of plan) (n + 1) (omega (arith, over)))) e;
    }

behind_in : (plan : Plan) (course : Course) (o : Option Turn) → o ≡ None → IsBefore plan o course → course.branch ≡ length plan.branches
behind_in plan course o e b = subst (λ (o : Option Turn). IsBefore plan o course) e b

-- ---- what a course knows

module _ (schema : SchemaParts) (facts : List Fact) (plan : Plan) where
  pub knows_at : (course : Course) (its : Branch) → slice_get plan.branches course.branch ≡ Some its → Knows schema facts plan course
      → HasPartial schema facts its course
  knows_at course its at k = subst (λ (o : Option Branch). HasPartialIn schema facts course o) at k.partial

  pub knows_in : (course : Course) (its : Branch) → slice_get plan.branches course.branch ≡ Some its
      → AreRowsOf schema facts (take course.branch plan.branches) course.rows
      → HasPartial schema facts its course → Knows schema facts plan course
  knows_in course its at are p = record {
    rows_are = are;
    partial = subst (λ (o : Option Branch). HasPartialIn schema facts course o) (sym at) p;
  }

  -- the rows of a plan that has no step left
  pub all_rows : (course : Course) (n : ℕ) → IsAt plan n course → length (turns_of plan) ≤ n → Knows schema facts plan course
      → (rows : RowList) → ((row : List (List ℕ)) → Contains rows row ↔ Contains course.rows row)
      → (row : List (List ℕ)) → Contains rows row ↔ IsRow schema plan facts row
  all_rows course n is over k rows same row =
      let none = none_got (turns_of plan) n over in
      let e : course.branch ≡ length plan.branches = behind_in plan course (slice_get (turns_of plan) n) none is.before in
      let all : take course.branch plan.branches ≡ plan.branches = take_all course.branch plan.branches (omega (arith, e)) in
      let are : AreRowsOf schema facts plan.branches course.rows =
      subst (λ (l : List Branch). AreRowsOf schema facts l course.rows) all k.rows_are in
      ((λ c. (are row).0 ((same row).0 c)), (λ h. (same row).1 ((are row).1 h)))

  module _ (well : IsWellFormed schema) where
    fresh_partial : (its : Branch) (course : Course) → IsFresh course → HasPartial schema facts its course
    fresh_partial its course f = record {
      partial = [] ∷ [];
      partial_are = subst (λ (l : List Step). ArePartial schema facts l ([] ∷ [])) (sym (none_taken its.steps course f))
          (first_partial schema well facts);
      blocks_are = subst (λ n. AreBlocks (live_from its course.step) n ([] ∷ []) course.blocks.items) (sym f.count_is)
          (subst (λ (b : List Block). AreBlocks (live_from its course.step) 0 ([] ∷ []) b) (sym f.blocks_are)
          (no_blocks (live_from its course.step)));
    }

    fresh_knows_in : (course : Course) → IsFresh course → (o : Option Branch) → HasPartialIn schema facts course o
    fresh_knows_in course f None = tt
    fresh_knows_in course f (Some its) = fresh_partial its course f

    pub fresh_knows : (course : Course) → IsFresh course → AreRowsOf schema facts (take course.branch plan.branches) course.rows
        → Knows schema facts plan course
    fresh_knows course f are = record { rows_are = are; partial = fresh_knows_in course f (slice_get plan.branches course.branch) }

    pub knows_first : (course : Course) → IsFresh course → course.branch ≡ 0 → course.rows ≡ [] → Knows schema facts plan course
    knows_first course f e none = fresh_knows course f (λ row. (
      (λ c. absurd (contains_none row (subst (λ (l : RowList). Contains l row) none c))),
      (λ (branch, among, of). absurd (contains_none branch (subst (λ (l : List Branch). Contains l branch)
          (ap (λ n. take n plan.branches) e ∙ take_none plan.branches) among))),
    ))

-- ---- from a branch to the next one

module _ (plan : Plan) (its : Branch) (old new : Course) (at : slice_get plan.branches old.branch ≡ Some its) (p : Passes its old new)
    (done : old.step ≡ length its.steps) where
  passed_fresh : IsFresh new
  passed_fresh = record { step_is = p.step_is; count_is = p.count_is; blocks_are = p.blocks_are }

  pub passed_stands : Stands plan new
  passed_stands =
      let l = slice_get_within plan.branches old.branch its at in
      let e = p.branch_is in
      fresh_stands plan new (omega (arith, l, e)) passed_fresh

  pub passed_same : steps_done plan new ≡ steps_done plan old
  passed_same =
      let more = ap (λ k. steps_in (take k plan.branches)) p.branch_is ∙ steps_push plan.branches old.branch its at in
      let zeroth = p.step_is in
      omega (arith, more, zeroth, done)

  module _ (within : IsWithin its old) (schema : SchemaParts) (facts : List Fact) (well : IsWellFormed schema)
      (ready : AreReadyBranches schema plan) (k : Knows schema facts plan old) where
    abbrev before : List Branch
    before = take old.branch plan.branches

    m : HasPartial schema facts its old
    m = knows_at schema facts plan old its at k

    taken : take old.step its.steps ≡ its.steps
    taken = take_all old.step its.steps (omega (arith, done))

    dropped : drop old.step its.steps ≡ []
    dropped = drop_all its.steps old.step (omega (arith, done))

    count : old.count ≡ columns_after 0 its.steps
    count = within.count_is ∙ ap (columns_after 0) taken

    blocks_are : AreBlocks (is_shown its.output) old.count m.partial old.blocks.items
    blocks_are = subst (λ (s : List Step). AreBlocks (is_live s its.output) old.count m.partial old.blocks.items) dropped m.blocks_are

    its_ready : IsReadyBranch schema its
    its_ready = ready its (contains_got plan.branches old.branch its at)

    its_rows : (list : List Request) × AddsBranch schema facts its old.rows new.rows list
    its_rows =
        let (list, are) = steps_exist schema well facts its.steps its_ready.steps in
        let means : Means schema facts (is_shown its.output) its.steps old.blocks.items list = record {
          partial = m.partial;
          partial_are = subst (λ (s : List Step). ArePartial schema facts s m.partial) taken m.partial_are;
          blocks_are = subst (λ n. AreBlocks (is_shown its.output) n m.partial old.blocks.items) count blocks_are;
          are = are;
        } in
        (list, adds_branch schema facts its its_ready old.blocks.items old.rows new.rows list means (p.outputs m.partial blocks_are))

    rows_are : AreRowsOf schema facts (before ++ its ∷ []) new.rows
    rows_are =
        let (earlier, are) = branches_exist schema well facts before
        (λ b c. (ready b (contains_take old.branch plan.branches b c)).steps) in
        let (list, adds) = its_rows in
        (branches_more schema well facts before its old.rows new.rows earlier list (record { exactly = k.rows_are; are = are })
        adds).exactly

    pub passed_knows : Knows schema facts plan new
    passed_knows = fresh_knows schema facts plan well new passed_fresh
        (subst (λ (l : List Branch). AreRowsOf schema facts l new.rows) (sym (ap (λ n. take n plan.branches) p.branch_is
        ∙ take_got plan.branches old.branch its at)) rows_are)

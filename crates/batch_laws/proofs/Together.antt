-- A plan that is executed together with others beside the same plan alone.
use Rattle.std.proofs.Common.{◌≡◌, ⊎_elim, inl, inr, ◌⊎◌, ◌++◌, ◌≤◌, ℕ, zero, suc, List}
use Rattle.std.proofs.Common.{[], ◌∷◌, length, Some, Ok, refl, sym, ◌∙◌, ap, subst, arith}
use Rattle.std.specs.Prelude.{Contains, slice_get}
use Rattle.std.specs.List.{AllZip}
use Rattle.std.proofs.lemmas.List.Elements.{Contains-append_cases, Contains-append_left, Contains-append_right}
use Rattle.lists.proofs.Members.{contains_cases, contains_here, contains_none, contains_there, some_injective}
use Rattle.meaning.specs.declared.types.SchemaParts.{SchemaParts}
use Rattle.meaning.specs.declared.types.Fact.{Fact}
use Rattle.meaning.specs.declared.types.Step.{Step}
use Rattle.meaning.specs.declared.types.Branch.{Branch}
use Rattle.meaning.specs.declared.types.Plan.{Plan}
use Rattle.meaning.specs.declared.types.Request.{Request}
use Rattle.meaning.specs.Requests.{AreStepsRequests, AreBranchesRequests}
use Rattle.meaning.specs.Search.{AreDistinct}
use Rattle.access_schema.specs.declared.schema.Schema.{Schema}
use Rattle.access_schema.specs.Meaning.{meaning_of}
use Rattle.row_text.proofs.Orders.{ascending_unique}
use Rattle.source_trait.specs.Asking.{Seen}
use Rattle.source_trait.specs.declared.lanes.Lane.{Lane}
use Rattle.middleware.specs.LaneBranches.{LanesHoldPlan}
use Rattle.middleware.specs.declared.fault.Run.{Run}
use Rattle.plan_execution.specs.Executing.{Executes}
use Rattle.plan_batches.specs.Batching.{ExecutesAll, IsRunOf}

-- ---- different members of a list are no more than it has

without : {X : Type 0} (xs : List X) (d : X) → Contains xs d
    → (rest : List X) × (length xs ≡ suc (length rest)) × ((x : X) → Contains xs x → (d ≡ x) ⊎ Contains rest x)
without [] d c = absurd (contains_none d c)
without (y ∷ xs) d c = ⊎_elim
    (λ same. (xs, refl, λ x h. ⊎_elim (λ e. inl (sym same ∙ e)) (λ there. inr there) (contains_cases y xs x h)))
    (λ there.
    let (rest, long, others) = without xs d there in (
      y ∷ rest,
      ap suc long,
      λ x h. ⊎_elim
          (λ e. inr (subst (λ z. Contains (y ∷ rest) z) e (contains_here y rest)))
          (λ later. ⊎_elim (λ e. inl e) (λ among. inr (contains_there y rest x among)) (others x later))
          (contains_cases y xs x h),
    ))
    (contains_cases y xs d c)

distinct_fit : {X : Type 0} (ds xs : List X) → AreDistinct ds → ((x : X) → Contains ds x → Contains xs x)
    → length ds ≤ length xs
distinct_fit [] xs once among = omega arith
distinct_fit (d ∷ ds) xs once among =
    let (rest, long, others) = without xs d (among d (contains_here d ds)) in
    let fits = distinct_fit ds rest once.1
    (λ x c. ⊎_elim (λ e. absurd (once.0 (subst (λ z. Contains ds z) (sym e) c))) (λ there. there)
    (others x (among x (contains_there d ds x c)))) in
    omega (arith, long, fits)

-- ---- the requests of a plan

module _ (schema : SchemaParts) (facts : List Fact) where
  in_both : (first later first2 later2 : List Request) (r : Request) → (Contains first r → Contains first2 r)
      → (Contains later r → Contains later2 r) → Contains (first ++ later) r → Contains (first2 ++ later2) r
  in_both first later first2 later2 r a b c = ⊎_elim (λ h. Contains-append_left first2 later2 r (a h))
      (λ h. Contains-append_right first2 later2 r (b h)) (Contains-append_cases first later r c)

  of_steps : (before steps : List Step) (list other : List Request) → AreStepsRequests schema facts before steps list
      → AreStepsRequests schema facts before steps other → (r : Request) → Contains list r → Contains other r
  of_steps before [] list other is was r c = absurd (contains_none r (subst (λ (l : List Request). Contains l r) is c))
  of_steps before (step ∷ steps) list other (now, later, is, round, more) (then, behind, was, same, rest) r c =
      subst (λ (l : List Request). Contains l r) (sym was)
      (in_both now later then behind r (λ h. (same.exactly r).1 ((round.exactly r).0 h))
      (of_steps (before ++ step ∷ []) steps later behind more rest r) (subst (λ (l : List Request). Contains l r) is c))

  of_branches : (branches : List Branch) (list other : List Request) → AreBranchesRequests schema facts branches list
      → AreBranchesRequests schema facts branches other → (r : Request) → Contains list r → Contains other r
  of_branches [] list other is was r c = absurd (contains_none r (subst (λ (l : List Request). Contains l r) is c))
  of_branches (branch ∷ branches) list other (now, later, is, steps, more) (then, behind, was, same, rest) r c =
      subst (λ (l : List Request). Contains l r) (sym was)
      (in_both now later then behind r (of_steps [] branch.steps now then steps same r)
      (of_branches branches later behind more rest r) (subst (λ (l : List Request). Contains l r) is c))

-- ---- one plan of several

zip_at : {A B : Type 0} (R : A → B → Type 0) (xs : List A) (ys : List B) → AllZip R xs ys → (k : ℕ) (x : A) (y : B)
    → slice_get xs k ≡ Some x → slice_get ys k ≡ Some y → R x y
zip_at R [] ys all k x y at got = absurd cc
zip_at R (a ∷ xs) [] all k x y at got = absurd cc
zip_at R (a ∷ xs) (b ∷ ys) all zero x y at got =
    subst (λ z. R z y) (some_injective a x at) (subst (λ z. R a z) (some_injective b y got) all.0)
zip_at R (a ∷ xs) (b ∷ ys) all (suc k) x y at got = zip_at R xs ys all.1 k x y at got

pub same_alone : {S : Type 0} (seen : S → Seen) (schema : Schema) (plans : List Plan) (k : ℕ) (plan : Plan)
    (instance : List Fact)
    (alone_cap most : ℕ) (old new others after : List (Lane S)) (alone : Run) (runs : List Run) (run : Run)
    → slice_get plans k ≡ Some plan
    → slice_get runs k ≡ Some run → Executes seen schema plan alone_cap old new (Ok alone)
    → ExecutesAll seen schema plans most others after (Ok runs) → LanesHoldPlan seen schema plan new instance
    → LanesHoldPlan seen schema plan after instance → (run.rows ≡ alone.rows) × (run.made ≤ alone.made)
same_alone seen schema plans k plan instance alone_cap most old new others after alone runs run at got executes all
    holds held =
    let its : IsRunOf seen schema plans after plan run =
    zip_at (IsRunOf seen schema plans after) plans runs all.runs k plan run at got in
    let (requests, are, made) = executes.made instance holds in
    let (wanted, were, (distinct, once, exactly, count)) = its.made instance held in
    let fits = distinct_fit distinct requests once
    (λ r c. of_branches (meaning_of schema) instance plan.branches wanted requests were are r ((exactly r).0 c)) in (
      ascending_unique run.rows alone.rows its.ascends executes.ascends (λ row. (
        (λ c. (executes.rows instance holds row).1 ((its.rows instance held row).0 c)),
        (λ c. (its.rows instance held row).1 ((executes.rows instance holds row).0 c)),
      )),
      omega (arith, made, count, fits),
    )

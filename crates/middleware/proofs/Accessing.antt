-- The relations that steps and branches access.
use Rattle.std.proofs.Common.{◌≡◌, ◌⊎◌, ◌↔◌, inl, inr, ⊎_elim, ℕ, ◌+◌, ◌<◌, ◌≤◌, List, [], ◌∷◌, ◌++◌, length, take, get_or, sym, ◌∙◌, ap, subst}
use Rattle.std.specs.Prelude.{Contains}
use Rattle.std.proofs.lemmas.List.{take_more, take_all}
use Rattle.lists.proofs.Members.{contains_here, contains_cases, contains_none}
use Rattle.meaning.specs.declared.types.Method.{Method}
use Rattle.meaning.specs.declared.types.Step.{Step}
use Rattle.meaning.specs.declared.types.Branch.{Branch}
use Rattle.meaning.specs.declared.types.Plan.{Plan}
use Rattle.meaning.specs.Plans.{IsMethod}
use Rattle.access_schema.specs.declared.schema.Schema.{Schema}
use Rattle.access_schema.specs.Meaning.{meaning_of}
use Rattle.access_schema.proofs.Keeping.{well_formed}
use Rattle.middleware.specs.PlanSources.{IsAccessed}
use Rattle.middleware.specs.Sources.{StepAccesses, StepsAccess, BranchesAccess}
use Rattle.middleware.proofs.Steps.{in_append, append_first, append_second}

-- the relation of the step's method was added
pub step_found : (schema : Schema) (step : Step) (method : Method) → IsMethod (meaning_of schema) step.method method → (old new : List ℕ) → new ≡ old ++ method.rel ∷ [] → (rel : ℕ) → Contains new rel ↔ (Contains old rel ⊎ StepAccesses schema step rel)
step_found schema step method named old new is rel = (
  (λ c. elim (in_append old (method.rel ∷ []) rel (subst (λ (l : List ℕ). Contains l rel) is c)) [
    | inl first ↦ inl first
    | inr second ↦ inr (record { method = method; named = named; of_relation = ⊎_elim (λ e. e) (λ n. absurd (contains_none rel n)) (contains_cases method.rel [] rel second) })
  ]),
  (λ h. subst (λ (l : List ℕ). Contains l rel) (sym is) (⊎_elim (λ c. append_first old (method.rel ∷ []) rel c) (λ a. append_second old (method.rel ∷ []) rel (own a)) h)),
)
  where
    own : StepAccesses schema step rel → Contains (method.rel ∷ []) rel
    own a =
        let same : a.method ≡ method = (well_formed schema).once a.method method a.named.0 named.0 (a.named.1 ∙ sym named.1) in
        let at : method.rel ≡ rel = ap (λ (m : Method). m.rel) (sym same) ∙ a.of_relation in
        subst (λ r. Contains (method.rel ∷ []) r) at (contains_here method.rel [])

pub step_absent : (schema : Schema) (step : Step) → ((method : Method) → IsMethod (meaning_of schema) step.method method → ⊥) → (old : List ℕ) (rel : ℕ) → Contains old rel ↔ (Contains old rel ⊎ StepAccesses schema step rel)
step_absent schema step none old rel = ((λ c. inl c), (λ h. ⊎_elim (λ c. c) (λ a. absurd (none a.method a.named)) h))

-- the relations of one step more
pub steps_more : (schema : Schema) (steps : List Step) (i : ℕ) (step : Step) → i < length steps → step ≡ get_or steps i step → (base now next : List ℕ) → ((rel : ℕ) → Contains now rel ↔ (Contains base rel ⊎ StepsAccess schema (take i steps) rel))
    → ((rel : ℕ) → Contains next rel ↔ (Contains now rel ⊎ StepAccesses schema step rel)) → (rel : ℕ) → Contains next rel ↔ (Contains base rel ⊎ StepsAccess schema (take (i + 1) steps) rel)
steps_more schema steps i step less at base now next before after rel = (
  (λ c. ⊎_elim (λ d. ⊎_elim (λ e. inl e) (λ a. inr (further a)) ((before rel).0 d)) (λ a. inr (last a)) ((after rel).0 c)),
  (λ h. (after rel).1 (⊎_elim (λ e. inl ((before rel).1 (inl e))) (λ a. split a) h)),
)
  where
    more : take (i + 1) steps ≡ take i steps ++ step ∷ []
    more = take_more steps i step less ∙ ap (λ (s : Step). take i steps ++ s ∷ []) (sym at)

    further : StepsAccess schema (take i steps) rel → StepsAccess schema (take (i + 1) steps) rel
    further a = record { step = a.step; among = subst (λ (l : List Step). Contains l a.step) (sym more) (append_first (take i steps) (step ∷ []) a.step a.among); accesses = a.accesses }

    last : StepAccesses schema step rel → StepsAccess schema (take (i + 1) steps) rel
    last a = record { step = step; among = subst (λ (l : List Step). Contains l step) (sym more) (append_second (take i steps) (step ∷ []) step (contains_here step [])); accesses = a }

    split : StepsAccess schema (take (i + 1) steps) rel → Contains now rel ⊎ StepAccesses schema step rel
    split a = elim (in_append (take i steps) (step ∷ []) a.step (subst (λ (l : List Step). Contains l a.step) more a.among)) [
      | inl first ↦ inl ((before rel).1 (inr (record { step = a.step; among = first; accesses = a.accesses })))
      | inr second ↦ inr (subst (λ (s : Step). StepAccesses schema s rel) (sym (⊎_elim (λ e. e) (λ n. absurd (contains_none a.step n)) (contains_cases step [] a.step second))) a.accesses)
    ]

pub steps_none : (schema : Schema) (base : List ℕ) (rel : ℕ) → Contains base rel ↔ (Contains base rel ⊎ StepsAccess schema [] rel)
steps_none schema base rel = ((λ c. inl c), (λ h. ⊎_elim (λ c. c) (λ a. absurd (contains_none a.step a.among)) h))

pub steps_all : (schema : Schema) (steps : List Step) (i : ℕ) → length steps ≤ i → (base now : List ℕ) → ((rel : ℕ) → Contains now rel ↔ (Contains base rel ⊎ StepsAccess schema (take i steps) rel)) → (rel : ℕ) → Contains now rel ↔ (Contains base rel ⊎ StepsAccess schema steps rel)
steps_all schema steps i over base now h = subst (λ (s : List Step). (rel : ℕ) → Contains now rel ↔ (Contains base rel ⊎ StepsAccess schema s rel)) (take_all i steps over) h

-- the relations of one branch more
pub branches_more : (schema : Schema) (branches : List Branch) (i : ℕ) (its : Branch) → i < length branches → its ≡ get_or branches i its → (steps : List Step) → steps ≡ its.steps → (now next : List ℕ) → ((rel : ℕ) → Contains now rel ↔ BranchesAccess schema (take i branches) rel)
    → ((rel : ℕ) → Contains next rel ↔ (Contains now rel ⊎ StepsAccess schema steps rel)) → (rel : ℕ) → Contains next rel ↔ BranchesAccess schema (take (i + 1) branches) rel
branches_more schema branches i its less at steps se now next before after rel = (
  (λ c. ⊎_elim (λ d. further ((before rel).0 d)) (λ a. last a) ((after rel).0 c)),
  (λ a. (after rel).1 (split a)),
)
  where
    more : take (i + 1) branches ≡ take i branches ++ its ∷ []
    more = take_more branches i its less ∙ ap (λ (b : Branch). take i branches ++ b ∷ []) (sym at)

    further : BranchesAccess schema (take i branches) rel → BranchesAccess schema (take (i + 1) branches) rel
    further a = record { branch = a.branch; among = subst (λ (l : List Branch). Contains l a.branch) (sym more) (append_first (take i branches) (its ∷ []) a.branch a.among); accesses = a.accesses }

    last : StepsAccess schema steps rel → BranchesAccess schema (take (i + 1) branches) rel
    last a = record {
      branch = its;
      among = subst (λ (l : List Branch). Contains l its) (sym more) (append_second (take i branches) (its ∷ []) its (contains_here its []));
      accesses = subst (λ (s : List Step). StepsAccess schema s rel) se a;
    }

    split : BranchesAccess schema (take (i + 1) branches) rel → Contains now rel ⊎ StepsAccess schema steps rel
    split a = elim (in_append (take i branches) (its ∷ []) a.branch (subst (λ (l : List Branch). Contains l a.branch) more a.among)) [
      | inl first ↦ inl ((before rel).1 (record { branch = a.branch; among = first; accesses = a.accesses }))
      | inr second ↦
          let same : its ≡ a.branch = ⊎_elim (λ e. e) (λ n. absurd (contains_none a.branch n)) (contains_cases its [] a.branch second) in
          inr (subst (λ (s : List Step). StepsAccess schema s rel) (sym se) (subst (λ (b : Branch). StepsAccess schema b.steps rel) (sym same) a.accesses))
    ]

pub branches_none : (schema : Schema) (now : List ℕ) → now ≡ [] → (rel : ℕ) → Contains now rel ↔ BranchesAccess schema [] rel
branches_none schema now e rel = ((λ c. absurd (contains_none rel (subst (λ (l : List ℕ). Contains l rel) e c))), (λ a. absurd (contains_none a.branch a.among)))

-- the relations of all branches are those of the plan
pub plan_accesses : (schema : Schema) (plan : Plan) (branches : List Branch) → branches ≡ plan.branches → (i : ℕ) → length branches ≤ i → (now next : List ℕ) → ((rel : ℕ) → Contains next rel ↔ Contains now rel)
    → ((rel : ℕ) → Contains now rel ↔ BranchesAccess schema (take i branches) rel) → (rel : ℕ) → Contains next rel ↔ IsAccessed schema plan rel
plan_accesses schema plan branches be i over now next same h rel =
    let all = subst (λ (b : List Branch). (r : ℕ) → Contains now r ↔ BranchesAccess schema b r) (take_all i branches over ∙ be) h in (
      (λ c. let a = (all rel).0 ((same rel).0 c) in record {
        branch = a.branch;
        step = a.accesses.step;
        method = a.accesses.accesses.method;
        of_plan = a.among;
        of_branch = a.accesses.among;
        named = a.accesses.accesses.named;
        of_relation = a.accesses.accesses.of_relation;
      }),
      (λ a. (same rel).1 ((all rel).1 (record {
        branch = a.branch;
        among = a.of_plan;
        accesses = record { step = a.step; among = a.of_branch; accesses = record { method = a.method; named = a.named; of_relation = a.of_relation } };
      }))),
    )

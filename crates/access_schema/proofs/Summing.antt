-- Sums of the costs of methods.
use Rattle.std.proofs.Common.{Bor, true, false, ◌≡◌, ◌∙◌, refl, sym, ap, subst, ⊎_elim, ℕ, suc, ◌+◌, ◌-◌, ◌*◌, ◌<◌, ◌≤◌, List, [], ◌∷◌, None, Some, arith, length, get_or, take, drop}
use Rattle.std.proofs.lemmas.List.{take_rest}
use Rattle.std.specs.Prelude.{Contains, slice_get, Option, IsSome, is_some, option_copied}
use Rattle.lists.proofs.Members.{contains_here, contains_there, contains_cases, contains_got, got_mapped, map_got, some_injective}
use Rattle.lists.proofs.Places.{got_contained}
use Rattle.meaning.specs.declared.types.Method.{Method}
use Rattle.meaning.specs.declared.types.SchemaParts.{SchemaParts}
use Rattle.meaning.specs.declared.types.Step.{Step}
use Rattle.meaning.specs.Costs.{IsStepsCost}
use Rattle.meaning.specs.Plans.{IsMethod, NamesMethods}
use Rattle.meaning.proofs.Steps.{cost_once}
use Rattle.access_schema.specs.declared.schema.Schema.{Schema}
use Rattle.access_schema.specs.Meaning.{meaning_of}
use Rattle.access_schema.specs.Names.{method_names, Finds}

-- a front that is longer by a step
pub summed_more : (schema : SchemaParts) (steps rest : List Step) (step : Step) (method : Method) (sum : ℕ) → IsMethod schema step.method method →
    ((later : ℕ) → IsStepsCost schema (step ∷ rest) later → IsStepsCost schema steps (sum + later)) →
    (later : ℕ) → IsStepsCost schema rest later → IsStepsCost schema steps (sum + method.cost + later)
summed_more schema steps rest step method sum named before later costs =
    let so : sum + (method.cost + later) ≡ sum + method.cost + later = omega arith in
    subst (IsStepsCost schema steps) so (before (method.cost + later) (method, later, named, costs, refl))

pub named_rest : (schema : SchemaParts) (step : Step) (rest : List Step) → NamesMethods schema (step ∷ rest) → NamesMethods schema rest
named_rest schema step rest named other there = named other (contains_there step rest other there)

-- a first step, and those behind it
-- a name that is a method's is found
pub found_some : (methods : List Method) (name : List ℕ) (r : Option ℕ) → Finds (method_names methods) name r → (method : Method) → Contains methods method × (method.name ≡ name) → IsSome r
found_some methods name None none method named =
    let there = named.0 in
    absurd (none there.0 (map_got (λ (m : Method). m.name) methods there.0 method (got_contained methods method there) ∙ ap Some named.1))
found_some methods name (Some n) at method named = refl

-- what is found at its place has the name
pub found_named : (schema : Schema) (name : List ℕ) (r : Option ℕ) (n : ℕ) (method : Method) → Finds (method_names schema.methods) name r → r ≡ Some n → slice_get schema.methods n ≡ Some method → IsMethod (meaning_of schema) name method
found_named schema name r n method finds is at =
    let there : slice_get (method_names schema.methods) n ≡ Some name = subst (Finds (method_names schema.methods) name) is finds in
    let its : slice_get (method_names schema.methods) n ≡ Some method.name = map_got (λ (m : Method). m.name) schema.methods n method at in
    (contains_got schema.methods n method at, some_injective method.name name (sym its ∙ there))

-- the place of a name is one of the methods'
pub found_at : (methods : List Method) (name : List ℕ) (r : Option ℕ) (n : ℕ) → Finds (method_names methods) name r → r ≡ Some n → (method : Method) × (slice_get methods n ≡ Some method)
found_at methods name r n finds is =
    let there : slice_get (method_names methods) n ≡ Some name = subst (Finds (method_names methods) name) is finds in
    let got = got_mapped (λ (m : Method). m.name) methods n name there in
    (got.0, got.1)

-- ---- the loop

first_and_rest : (steps : List Step) (step : Step) → 1 ≤ length steps → step ≡ get_or steps 0 step → steps ≡ step ∷ take (length steps - 1) (drop 1 steps)
first_and_rest [] step some is = absurd (omega arith)
first_and_rest (s ∷ ss) step some is = ap (λ (t : Step). t ∷ ss) (sym is) ∙ ap (λ (ts : List Step). step ∷ ts) (sym (take_rest (s ∷ ss) 1))

-- The sum and the cost of the steps that are left are the cost of all, and the sum is within that of the steps before.
pub record Summed (schema : SchemaParts) (steps left : List Step) (sum : ℕ) : Type 0 where
  pub costs : (later : ℕ) → IsStepsCost schema left later → IsStepsCost schema steps (sum + later)
  pub named : NamesMethods schema left
  pub within : sum + 1000000 * length left ≤ 1000000 * length steps

pub summed_none : (schema : SchemaParts) (steps left : List Step) → NamesMethods schema steps → left ≡ steps → Summed schema steps left 0
summed_none schema steps left named same = subst (λ (ss : List Step). Summed schema steps ss 0) (sym same) (record {
  costs = λ later costs. subst (IsStepsCost schema steps) (let e : later ≡ 0 + later = omega arith in e) costs;
  named = named;
  within = omega arith;
})

pub summed_step : (schema : SchemaParts) (steps left : List Step) (step : Step) (cost sum : ℕ) → 1 ≤ length left → step ≡ get_or left 0 step →
    (method : Method) × IsMethod schema step.method method × (cost ≡ method.cost) → cost ≤ 1000000 → Summed schema steps left sum →
    Summed schema steps (take (length left - 1) (drop 1 left)) (sum + cost)
summed_step schema steps left step cost sum some is (method, its, same) few summed =
    let rest = take (length left - 1) (drop 1 left) in
    let all = first_and_rest left step some is in
    let named : NamesMethods schema (step ∷ rest) = subst (NamesMethods schema) all summed.named in
    let long : length left ≡ suc (length rest) = ap length all in
    record {
      costs = λ later costs. subst (λ (n : ℕ). IsStepsCost schema steps (sum + n + later)) (sym same)
          (summed_more schema steps rest step method sum its (λ l c. summed.costs l (subst (λ (ss : List Step). IsStepsCost schema ss l) (sym all) c)) later costs);
      named = named_rest schema step rest named;
      within = let w = summed.within in omega (arith, w, long, few);
    }

pub summed_all : (schema : SchemaParts) (steps left : List Step) (sum : ℕ) → length left < 1 → Summed schema steps left sum → IsStepsCost schema steps sum
summed_all schema steps [] sum none summed = let e : sum + 0 ≡ sum = omega arith in subst (IsStepsCost schema steps) e (summed.costs 0 refl)
summed_all schema steps (step ∷ left) sum none summed = absurd (omega arith)

-- ---- a method's cost

pub copied_some : {X : Type 0} (r : Option (Bor X)) (x : X) → option_copied r ≡ Some x → IsSome r
copied_some None x e = absurd cc
copied_some (Some b) x e = refl

pub copied_is : {X : Type 0} (r : Option (Bor X)) (b : Bor X) (at : Option X) → option_copied r ≡ at → r ≡ Some b → at ≡ Some b.now
copied_is r b at copied is = sym copied ∙ ap option_copied is

pub cost_few : (schema : Schema) (name : List ℕ) (method : Method) → IsMethod (meaning_of schema) name method → method.cost ≤ 1000000
cost_few schema name method named = schema.valid.methods_are.cost method named.0

-- ---- the test

-- All steps name methods exactly where those that are left do.
pub record AreAsLeft (schema : SchemaParts) (steps left : List Step) : Type 0 where
  pub all : NamesMethods schema left → NamesMethods schema steps
  pub left_too : NamesMethods schema steps → NamesMethods schema left

pub left_none : (schema : SchemaParts) (steps left : List Step) → left ≡ steps → AreAsLeft schema steps left
left_none schema steps left same = record { all = subst (NamesMethods schema) same; left_too = subst (NamesMethods schema) (sym same) }

pub absent : (methods : List Method) (name : List ℕ) (r : Option ℕ) → Finds (method_names methods) name r → is_some r ≡ false → (method : Method) → Contains methods method × (method.name ≡ name) → ⊥
absent methods name None none is method named =
    let there = named.0 in
    none there.0 (map_got (λ (m : Method). m.name) methods there.0 method (got_contained methods method there) ∙ ap Some named.1)
absent methods name (Some n) at is method named = absurd cc

pub left_absent : (schema : Schema) (steps left : List Step) (step : Step) (r : Option ℕ) → 1 ≤ length left → step ≡ get_or left 0 step → Finds (method_names schema.methods) step.method r → is_some r ≡ false →
    AreAsLeft (meaning_of schema) steps left → NamesMethods (meaning_of schema) steps → ⊥
left_absent schema steps left step r some is finds none are named =
    let rest = take (length left - 1) (drop 1 left) in
    let all : NamesMethods (meaning_of schema) (step ∷ rest) = subst (NamesMethods (meaning_of schema)) (first_and_rest left step some is) (are.left_too named) in
    let (method, its) = all step (contains_here step rest) in
    absent schema.methods step.method r finds none method its

there_is : (methods : List Method) (name : List ℕ) (r : Option ℕ) → Finds (method_names methods) name r → is_some r ≡ true → (method : Method) × Contains methods method × (method.name ≡ name)
there_is methods name None none is = absurd cc
there_is methods name (Some n) at is =
    let got = got_mapped (λ (m : Method). m.name) methods n name at in
    (got.0, contains_got methods n got.0 got.1, got.2)

pub left_more : (schema : Schema) (steps left : List Step) (step : Step) (r : Option ℕ) → 1 ≤ length left → step ≡ get_or left 0 step → Finds (method_names schema.methods) step.method r → is_some r ≡ true →
    AreAsLeft (meaning_of schema) steps left → AreAsLeft (meaning_of schema) steps (take (length left - 1) (drop 1 left))
left_more schema steps left step r some is finds there are =
    let rest = take (length left - 1) (drop 1 left) in
    let same = first_and_rest left step some is in
    let (method, of, its) = there_is schema.methods step.method r finds there in
    record {
      all = λ named. are.all (subst (NamesMethods (meaning_of schema)) (sym same) (λ other in_all.
          ⊎_elim (λ first. (method, subst (λ (s : Step). IsMethod (meaning_of schema) s.method method) first (of, its))) (named other) (contains_cases step rest other in_all)));
      left_too = λ named. named_rest (meaning_of schema) step rest (subst (NamesMethods (meaning_of schema)) same (are.left_too named));
    }

pub left_all : (schema : SchemaParts) (steps left : List Step) → length left < 1 → AreAsLeft schema steps left → NamesMethods schema steps
left_all schema steps [] none are = are.all (λ step there. absurd (omega (arith, there.1)))
left_all schema steps (step ∷ left) none are = absurd (omega arith)

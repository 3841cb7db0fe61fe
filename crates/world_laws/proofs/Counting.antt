-- A branch for the statement of a world that costs at most 8 accesses the first relation first, and each other one once.
use Rattle.std.proofs.Common.{◌≡◌, ◌⊎◌, ◌+◌, ◌<◌, ◌≤◌, ℕ, zero, suc, List, [], ◌∷◌, length, refl, sym, ap, subst, ◌∙◌, inl, inr, ⊎_elim, arith}
use Rattle.std.specs.Prelude.{Contains}
use Rattle.std.proofs.lemmas.Bool.{cases_eq}
use Rattle.lists.proofs.Members.{contains_here, contains_there, contains_cases}
use Rattle.meaning.specs.declared.types.Method.{Method}
use Rattle.meaning.specs.declared.types.Step.{Step}
use Rattle.meaning.specs.declared.types.Place.{Place}
use Rattle.meaning.specs.declared.types.Place.TheVariants.{Const, Col, New}
use Rattle.meaning.specs.declared.types.Out.{Out}
use Rattle.meaning.specs.declared.types.Branch.{Branch}
use Rattle.meaning.specs.Values.{Value}
use Rattle.meaning.specs.Plans.{IsMethod, made, AreLawfulPlaces, IsLawfulStep, AreLawfulFrom}
use Rattle.meaning.specs.Costs.{IsStepsCost, IsCost, IsRival}
use Rattle.world_laws.specs.World.{world_select, world_statement}
use Rattle.world_laws.specs.Plan.{world}
use Rattle.world_laws.proofs.Paths.{inputs_at, own, named_rel, two_columns}
use Rattle.world_laws.proofs.Weights.{total, without}
use Rattle.world_laws.proofs.Flipped.{accessed}

-- ---- numbers in a list

-- one for a zero
abbrev is_nought : ℕ → ℕ
is_nought zero = 1
is_nought (suc n) = 0

-- a list that has each number from 1 to a count has as many members, and its zeros besides
crowded : (count : ℕ) (xs : List ℕ) → ((v : ℕ) → 1 ≤ v → v ≤ count → Contains xs v) → count + total is_nought xs ≤ length xs
crowded zero xs has = most xs
  where
    most : (xs : List ℕ) → 0 + total is_nought xs ≤ length xs
    most [] = omega arith
    most (zero ∷ xs) = let more = most xs in omega (arith, more)
    most (suc n ∷ xs) = let more = most xs in omega (arith, more)
crowded (suc count) xs has =
    let less = without is_nought xs (suc count) (has (suc count) (omega arith) (omega arith)) in
    let rest = crowded count less.others (λ v some few. ⊎_elim (λ (same : suc count ≡ v). absurd (omega (arith, same, few))) (λ h. h) (less.keeps v (has v some (omega (arith, few))))) in
    let weight = less.weight in
    let fewer = less.fewer in
    omega (arith, rest, weight, fewer)

nought_there : (xs : List ℕ) → Contains xs 0 → 1 ≤ total is_nought xs
nought_there xs there = let less = without is_nought xs 0 there in let weight = less.weight in omega (arith, weight)

none_nought : (xs : List ℕ) (n : ℕ) → total is_nought xs ≡ 0 → Contains xs n → 1 ≤ n
none_nought xs zero none there = absurd (let some = nought_there xs there in omega (arith, some, none))
none_nought xs (suc n) none there = omega arith

contained : (xs : List ℕ) (n : ℕ) → Contains xs n ⊎ (Contains xs n → ⊥)
contained [] n = inr (λ there. omega arith)
contained (x ∷ xs) n = ⊎_elim
    (λ (same : x ≡ n). inl (subst (Contains (x ∷ xs)) same (contains_here x xs)))
    (λ apart. ⊎_elim (λ later. inl (contains_there x xs n later)) (λ none. inr (λ there. ⊎_elim (λ e. apart e) (λ later. none later) (contains_cases x xs n there))) (contained xs n))
    (cases_eq x n)

-- ---- the relations of steps

-- these are the relations that the steps access
abbrev pub Access : List Step → List ℕ → Type 0
Access [] [] = Unit {0}
Access [] (rel ∷ rels) = ⊥
Access (step ∷ steps) [] = ⊥
Access (step ∷ steps) (rel ∷ rels) = ((method : Method) × IsMethod world step.method method × (method.rel ≡ rel)) × Access steps rels

pub named_one : (name : Value) (first second : Method) → IsMethod world name first → IsMethod world name second → first.rel ≡ second.rel
named_one name first second one two = let e = named_rel (second.rel + 1) first (one.0, one.1 ∙ sym two.1 ∙ (own second two.0).name) in omega (arith, e)

access_there : (steps : List Step) (rels : List ℕ) (step : Step) (method : Method) → Access steps rels → Contains steps step → IsMethod world step.method method → Contains rels method.rel
access_there [] [] step method all there named = absurd (omega arith)
access_there [] (rel ∷ rels) step method all there named = absurd all
access_there (s ∷ steps) [] step method all there named = absurd all
access_there (s ∷ steps) (rel ∷ rels) step method ((m, own_named, is), all) there named = ⊎_elim
    (λ (same : s ≡ step).
    let e : rel ≡ method.rel = sym is ∙ named_one step.method m method (subst (λ (t : Step). IsMethod world t.method m) same own_named) named in
    subst (Contains (rel ∷ rels)) e (contains_here rel rels))
    (λ later. contains_there rel rels method.rel (access_there steps rels step method all later named))
    (contains_cases s steps step there)

access_long : (steps : List Step) (rels : List ℕ) → Access steps rels → length steps ≡ length rels
access_long [] [] all = refl
access_long [] (rel ∷ rels) all = absurd all
access_long (s ∷ steps) [] all = absurd all
access_long (s ∷ steps) (rel ∷ rels) all = let e = access_long steps rels all.1 in omega (arith, e)

lawful_access : (columns : ℕ) (steps : List Step) (output : List Out) → AreLawfulFrom world [] columns steps output → (rels : List ℕ) × Access steps rels
lawful_access columns [] output lawful = ([], tt)
lawful_access columns (step ∷ steps) output (method, is, more) =
    let (rels, all) = lawful_access (made columns step.places) steps output more in
    (method.rel ∷ rels, ((method, is.named, refl), all))

pub costs_long : (steps : List Step) (cost : ℕ) → IsStepsCost world steps cost → cost ≡ length steps
costs_long [] cost is = is
costs_long (step ∷ steps) cost (method, rest, named, more, is) =
    let one = (own method named.0).cost in
    let long = costs_long steps rest more in
    omega (arith, one, long, is)

-- ---- the branch

-- no step is by a method of the first relation
abbrev pub AreLater : List Step → Type 0
AreLater steps = (step : Step) (method : Method) → Contains steps step → IsMethod world step.method method → 1 ≤ method.rel

pub record IsOrdered (branch : Branch) : Type 0 where
  pub first : Step
  pub method : Method
  pub rest : List Step
  pub steps_are : branch.steps ≡ first ∷ rest
  pub named : IsMethod world first.method method
  pub first_rel : method.rel ≡ 0
  pub seven : length rest ≡ 7
  pub later : AreLater rest

-- the first step has no input
no_input : (step : Step) (method : Method) → IsLawfulStep world [] 0 step method → method.rel ≡ 0
no_input step method lawful = go method.rel (own method lawful.named.0).inputs step.places (lawful.arity.width ∙ two_columns method.rel lawful.arity.relation lawful.arity.there) lawful.places
  where
    first_there : Contains {X = ℕ} (0 ∷ []) 0
    first_there = contains_here 0 []

    place : (inputs : List ℕ) (places : List Place) → Contains inputs 0 → length places ≡ 2 → AreLawfulPlaces [] inputs 0 0 0 places → ⊥
    place inputs [] there two lawful = omega (arith, two)
    place inputs (Const c ∷ places) there two lawful = let none = lawful.0 in omega arith
    place inputs (Col k ∷ places) there two lawful = let none = lawful.0 in omega (arith, none)
    place inputs (New ∷ places) there two lawful = lawful.0 there

    go : (rel : ℕ) → method.inputs ≡ inputs_at rel → (places : List Place) → length places ≡ 2 → AreLawfulPlaces [] method.inputs 0 0 0 places → rel ≡ 0
    go zero is places two lawful = refl
    go (suc rel) is places two lawful = absurd (place method.inputs places (subst (λ (ps : List ℕ). Contains ps 0) (sym is) first_there) two lawful)

module _ (branch : Branch) (rival : IsRival world [] world_statement world_select branch) (cost : ℕ) (costs : IsCost world branch cost) (few : cost ≤ 8) where
  all_there : (rels : List ℕ) → Access branch.steps rels → (rel : ℕ) → rel < 8 → Contains rels rel
  all_there rels all rel low = ⊎_elim (λ h. h)
      (λ none. absurd (accessed branch rival rel low (λ step method there named is. none (subst (Contains rels) is (access_there branch.steps rels step method all there named)))))
      (contained rels rel)

  from_rels : (first : Step) (rest : List Step) (method : Method) (rels : List ℕ) → branch.steps ≡ first ∷ rest → IsMethod world first.method method → method.rel ≡ 0 → Access rest rels → IsOrdered branch
  from_rels first rest method rels is named nought all =
      let whole : Access (first ∷ rest) (0 ∷ rels) = ((method, named, nought), all) in
      let own_all : Access branch.steps (0 ∷ rels) = subst (λ (steps : List Step). Access steps (0 ∷ rels)) (sym is) whole in
      let has : (v : ℕ) → 1 ≤ v → v ≤ 7 → Contains (0 ∷ rels) v = λ v some low. all_there (0 ∷ rels) own_all v (omega (arith, low)) in
      let crowd = crowded 7 (0 ∷ rels) has in
      let long = access_long rest rels all in
      let spent = costs_long branch.steps cost costs in
      let count = ap length is in
      let none : total is_nought rels ≡ 0 = omega (arith, crowd, long, spent, count, few) in
      record {
        first = first;
        method = method;
        rest = rest;
        steps_are = is;
        named = named;
        first_rel = nought;
        seven = omega (arith, crowd, long, spent, count, few);
        later = λ step other there its. none_nought rels other.rel none (access_there rest rels step other all there its);
      }

  from_steps : (steps : List Step) → branch.steps ≡ steps → AreLawfulFrom world [] 0 steps branch.output → IsOrdered branch
  from_steps [] is lawful = absurd (accessed branch rival 0 (omega arith) (λ step method there named same. contains_no step (subst (λ (steps : List Step). Contains steps step) is there)))
    where
      contains_no : (step : Step) → Contains [] step → ⊥
      contains_no step there = omega arith
  from_steps (first ∷ rest) is (method, lawful, more) =
      let (rels, all) = lawful_access (made 0 first.places) rest branch.output more in
      from_rels first rest method rels is lawful.named (no_input first method lawful) all

  pub ordered : IsOrdered branch
  ordered = from_steps branch.steps refl rival.lawful

-- Numbers in lists, and members that are gone through one by one.
use Rattle.std.proofs.Common.{◌≡◌, ◌↔◌, ⊎_elim, ℕ, ◌+◌, ◌<◌, ◌≤◌, max, Bool, true, false, nat_eq, List, [], ◌∷◌, ◌++◌, length, take, get_or, Option, None, Some, refl, sym, ◌∙◌, ap, subst, arith}
use Rattle.std.specs.Prelude.{Contains, slice_get}
use Rattle.std.specs.List.{list_any}
use Rattle.std.specs.List.Sorted.{IsStrictlyIncreasing}
use Rattle.std.proofs.lemmas.Bool.{both_ways, cases_lt}
use Rattle.std.proofs.lemmas.List.{take_all}
use Rattle.std.proofs.lemmas.List.Elements.{Contains-append_cases, Contains-append_left, Contains-append_right}
use Rattle.std.proofs.lemmas.Option.{slice_get_within}
use Rattle.lists.proofs.Members.{contains_here, contains_there, contains_none, contains_one, some_injective}
use Rattle.lists.proofs.Places.{got_indexed, got_member, take_indexed}
use Rattle.meaning.specs.declared.types.Plan.{Plan}
use Rattle.meaning.specs.Search.{AreDistinct}
use Rattle.access_schema.specs.declared.schema.Schema.{Schema}
use Rattle.access_schema.specs.Meaning.{meaning_of}
use Rattle.source_trait.specs.Asking.{Rises, RowList}
use Rattle.bad_numbers.specs.Numbers.{FindsBad}
use Rattle.bad_numbers.specs.Found.{of_relation}
use Rattle.bad_numbers.specs.declared.found.BadNumber.{BadNumber}
use Rattle.middleware.proofs.Lacking.{above, rises_strictly}
use Rattle.middleware.proofs.Needing.{any_of, any_to}
use Rattle.shared_rounds.specs.SharedRounds.{turns_of}
use Rattle.plan_course.specs.declared.turns.Next.{Next}
use Rattle.plan_course.specs.declared.turns.Next.TheVariants.{Wants as Asks}
use Rattle.plan_course.specs.declared.turns.Pending.{Pending}
use Rattle.plan_batches.specs.Batching.{most_steps}
use Rattle.plan_batches.specs.Naming.{IsFirstGoing}
use Rattle.plan_batches.specs.Needing.{StandsIn, IsFirstIn}
use Rattle.plan_batches.specs.Receiving.{FindsOf, GotBad, GotIntegers, HasIntegers, IsFirstBad, rows_of}
use Rattle.plan_batches.specs.declared.member.Going.{Going}
use Rattle.plan_batches.specs.declared.needs.Accessed.{Accessed}

-- ---- whether a number is in a list

-- the answer of a search in a list that is lent
pub found_in : (q : ℕ) (ks lent : List ℕ) (b : Bool) → lent ≡ ks → b ≡ list_any (λ y. nat_eq y q) lent → b ≡ true → Contains ks q
found_in q ks lent b same is test = subst (λ (l : List ℕ). Contains l q) same (any_to q lent (sym is ∙ test))

pub not_found_in : (q : ℕ) (ks lent : List ℕ) (b : Bool) → lent ≡ ks → b ≡ list_any (λ y. nat_eq y q) lent → b ≡ false → Contains ks q → ⊥
not_found_in q ks lent b same is test c = both_ways b test (is ∙ any_of q lent (subst (λ (l : List ℕ). Contains l q) (sym same) c))

-- ---- one member more, of which something holds

module _ {X : Type 0} (P : X → Type 0) (xs : List X) where
  abbrev pub EachBefore : ℕ → Type 0
  EachBefore n = (k : ℕ) (other : X) → k < n → slice_get xs k ≡ Some other → P other

  pub each_more : (n : ℕ) (x : X) → n < length xs → x ≡ get_or xs n x → EachBefore n → P x → EachBefore (n + 1)
  each_more n x under at before holds k other less got = ⊎_elim
      (λ l. before k other l got)
      (λ l.
      let e : k ≡ n = omega (arith, l, less) in
      let same : x ≡ other = some_injective x other (sym (got_indexed xs n x under at) ∙ ap (slice_get xs) (sym e) ∙ got) in
      subst P same holds)
      (cases_lt k n)

  pub each_of_all : (n : ℕ) → length xs ≤ n → EachBefore n → (x : X) → Contains xs x → P x
  each_of_all n over before x c =
      let (k, at) = got_member xs x c in
      let within = slice_get_within xs k x at in
      before k x (omega (arith, within, over)) at

-- and of which it does not

module _ {X : Type 0} (P : X → Type 0) (xs : List X) where
  abbrev pub NoneBefore : ℕ → Type 0
  NoneBefore = EachBefore (λ x. P x → ⊥) xs

  pub none_more : (n : ℕ) (x : X) → n < length xs → x ≡ get_or xs n x → NoneBefore n → (P x → ⊥) → NoneBefore (n + 1)
  none_more = each_more (λ x. P x → ⊥) xs

  pub none_at_all : (n : ℕ) → length xs ≤ n → NoneBefore n → (x : X) → Contains xs x → P x → ⊥
  none_at_all = each_of_all (λ x. P x → ⊥) xs

-- ---- the first that has a number

pub first_accessed : (each : List Accessed) (i number rel : ℕ) (one : Accessed) → i < length each → one ≡ get_or each i one → number ≡ i
    → Contains one.rels.items rel → NoneBefore (λ (a : Accessed). Contains a.rels.items rel) each i → IsFirstIn each number rel
first_accessed each i number rel one under at same c before = record {
  one = one;
  at = ap (slice_get each) same ∙ got_indexed each i one under at;
  among = c;
  before = λ k other less got h. before k other (omega (arith, less, same)) got h;
}

pub first_going : (goings : List Going) (i plan number : ℕ) (going : Going) → i < length goings → going ≡ get_or goings i going → plan ≡ i
    → Contains going.numbers.items number → NoneBefore (λ (g : Going). Contains g.numbers.items number) goings i → IsFirstGoing goings plan number
first_going goings i plan number going under at same c before = record {
  going = going;
  at = ap (slice_get goings) same ∙ got_indexed goings i going under at;
  among = c;
  before = λ k other less got h. before k other (omega (arith, less, same)) got h;
}

-- ---- what is found of a step, and of the first that has something

pub found_of : (schema : Schema) (kept : List RowList) (going : Going) (pending : Pending) → going.next ≡ Asks pending → (lent : List ℕ)
    → lent ≡ going.numbers.items → (found : Option ℕ) → FindsBad (meaning_of schema) pending.method.rel (rows_of kept lent) found
    → (bad : Option BadNumber) → bad ≡ of_relation pending.method.rel found → FindsOf schema kept going bad
found_of schema kept going pending is lent same found finds bad bad_is =
    subst (λ (b : Option BadNumber). FindsOf schema kept going b) (sym bad_is)
    (by found (subst (λ (l : List ℕ). FindsBad (meaning_of schema) pending.method.rel (rows_of kept l) found) same finds))
  where
    by : (o : Option ℕ) → FindsBad (meaning_of schema) pending.method.rel (rows_of kept going.numbers.items) o
        → FindsOf schema kept going (of_relation pending.method.rel o)
    by None each = subst (λ (nx : Next). GotIntegers schema kept nx going.numbers.items) (sym is) each
    by (Some column) least =
        subst (λ (nx : Next). GotBad schema kept nx going.numbers.items pending.method.rel column) (sym is) (refl, least)

pub first_received : (schema : Schema) (kept : List RowList) (goings : List Going) (i plan : ℕ) (going : Going) → i < length goings
    → going ≡ get_or goings i going → plan ≡ i → EachBefore (HasIntegers schema kept) goings i → (rel column : ℕ)
    → GotBad schema kept going.next going.numbers.items rel column
    → IsFirstBad schema kept goings (record { plan = plan; rel = rel; column = column })
first_received schema kept goings i plan going under at same before rel column got = record {
  going = going;
  at = ap (slice_get goings) same ∙ got_indexed goings i going under at;
  got = got;
  before = λ k other less is. before k other (omega (arith, less, same)) is;
}

-- ---- lists that are joined

pub stands_none : (rel : ℕ) → Contains [] rel ↔ StandsIn [] rel
stands_none rel = ((λ c. absurd (contains_none rel c)), (λ (one, among, c). absurd (contains_none one among)))

pub stands_more : (each : List Accessed) (i : ℕ) (one : Accessed) → i < length each → one ≡ get_or each i one → (rels next : List ℕ)
    → next ≡ rels ++ one.rels.items → ((rel : ℕ) → Contains rels rel ↔ StandsIn (take i each) rel)
    → (rel : ℕ) → Contains next rel ↔ StandsIn (take (i + 1) each) rel
stands_more each i one under at rels next is before rel =
    subst (λ (l : List Accessed). Contains next rel ↔ StandsIn l rel) (sym (take_indexed each i one under at)) (
      (λ c. ⊎_elim
          (λ l. let (a, among, h) = (before rel).0 l in (a, Contains-append_left (take i each) (one ∷ []) a among, h))
          (λ l. (one, Contains-append_right (take i each) (one ∷ []) one (contains_here one []), l))
          (Contains-append_cases rels one.rels.items rel (subst (λ (l : List ℕ). Contains l rel) is c))),
      (λ (a, among, h). subst (λ (l : List ℕ). Contains l rel) (sym is) (⊎_elim
          (λ l. Contains-append_left rels one.rels.items rel ((before rel).1 (a, l, h)))
          (λ l. Contains-append_right rels one.rels.items rel (subst (λ (x : Accessed). Contains x.rels.items rel) (sym (contains_one one a l)) h))
          (Contains-append_cases (take i each) (one ∷ []) a among))),
    )

pub stands_all : (each : List Accessed) (i : ℕ) → length each ≤ i → (rels : List ℕ) → ((rel : ℕ) → Contains rels rel ↔ StandsIn (take i each) rel)
    → (rel : ℕ) → Contains rels rel ↔ StandsIn each rel
stands_all each i over rels are rel = subst (λ (l : List Accessed). Contains rels rel ↔ StandsIn l rel) (take_all i each over) (are rel)

-- ---- rising numbers

rises_distinct : (xs : List ℕ) → Rises xs → AreDistinct xs
rises_distinct [] up = tt
rises_distinct (x ∷ xs) up = ((λ c. let less = above x xs x up.0 c in omega (arith, less)), rises_distinct xs up.1)

rises_short : (xs : List ℕ) (low most : ℕ) → Rises xs → ((x : ℕ) → Contains xs x → low ≤ x) → ((x : ℕ) → Contains xs x → x < most) → low ≤ most
    → length xs + low ≤ most
rises_short [] low most up over under fits = omega (arith, fits)
rises_short (x ∷ xs) low most up over under fits =
    let first = over x (contains_here x xs) in
    let last = under x (contains_here x xs) in
    let rest = rises_short xs (x + 1) most up.1 (λ y c. let h = above x xs y up.0 c in omega (arith, h)) (λ y c. under y (contains_there x xs y c)) (omega (arith, last)) in
    omega (arith, first, rest)

pub distinct_numbers : (xs : List ℕ) → IsStrictlyIncreasing xs → AreDistinct xs
distinct_numbers xs up = rises_distinct xs (rises_strictly xs up)

pub few_numbers : (xs : List ℕ) (most : ℕ) → IsStrictlyIncreasing xs → ((x : ℕ) → Contains xs x → x < most) → length xs ≤ most
few_numbers xs most up under =
    let h = rises_short xs 0 most (rises_strictly xs up) (λ x c. omega arith) under (omega arith) in omega (arith, h)

-- ---- how many steps

most_push : (plans : List Plan) (plan : Plan) → most_steps (plans ++ plan ∷ []) ≡ max (most_steps plans) (length (turns_of plan))
most_push [] plan = omega arith
most_push (p ∷ plans) plan = let h = most_push plans plan in omega (arith, h)

pub most_more : (plans : List Plan) (i : ℕ) (plan : Plan) → i < length plans → plan ≡ get_or plans i plan → (most steps : ℕ)
    → most ≡ most_steps (take i plans) → steps ≡ length (turns_of plan) → max most steps ≡ most_steps (take (i + 1) plans)
most_more plans i plan under at most steps is its =
    let more = ap most_steps (take_indexed plans i plan under at) in
    let push = most_push (take i plans) plan in
    omega (arith, more, push, is, its)

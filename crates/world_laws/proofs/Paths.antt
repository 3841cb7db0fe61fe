-- Answers of the statement of a world, and rows of its plan, are the ends of paths of eight facts.
use Rattle.std.proofs.Common.{◌≡◌, ◌+◌, ◌-◌, ◌<◌, ◌≤◌, ℕ, zero, suc, List, [], ◌∷◌, ◌++◌, length, slice_get, Some, refl, sym, ap, subst, ◌∙◌, ⊎_elim, append_assoc, arith}
use Rattle.std.specs.Prelude.{Contains, map, slice_index_or}
use Rattle.std.specs.List.{AllZip, AllByRecursion, range_with_len}
use Rattle.std.proofs.lemmas.Bool.{cases_lt}
use Rattle.std.proofs.lemmas.List.{length-append}
use Rattle.lists.proofs.Members.{contains_got, contains_here, contains_map, contains_there, got_push, some_injective, contains_one, all_member}
use Rattle.tgd_reader.proofs.Plain.{all_mapped}
use Rattle.meaning.specs.declared.types.Relation.{Relation}
use Rattle.meaning.specs.declared.types.Method.{Method}
use Rattle.meaning.specs.declared.types.Fact.{Fact}
use Rattle.meaning.specs.declared.types.Condition.{Condition}
use Rattle.meaning.specs.declared.types.Branch.{Branch}
use Rattle.meaning.specs.declared.types.Operand.TheVariants.{Column}
use Rattle.meaning.specs.declared.types.Place.TheVariants.{Col, New}
use Rattle.meaning.specs.declared.types.Out.TheVariants.{Col as Made}
use Rattle.meaning.specs.Values.{Value, Row}
use Rattle.meaning.specs.Instances.{IsInstance}
use Rattle.meaning.specs.Matching.{FactsOf}
use Rattle.meaning.specs.Answers.{IsChoice, MeetsConditions, operand_value, AnswersSelect}
use Rattle.meaning.specs.Plans.{IsMethod, IsLawfulStep, IsLawfulOut, IsLawfulBranch, IsLawful}
use Rattle.meaning.specs.Rows.{Joins, StepsTo, LeadsTo, IsOut, IsBranchRow}
use Rattle.meaning.specs.Claims.{IsEquivalent}
use Rattle.meaning.specs.Costs.{IsCost, IsRival}
use Rattle.world_laws.specs.World.{method_name, relation_with, method_with, world_relations, world_methods, joined, world_select, world_statement}
use Rattle.world_laws.specs.Plan.{world, first_step, next_step, world_branch, world_plan}

-- a fact of the relation with this number
abbrev pub edge : ℕ → Value → Value → Fact
edge rel from to = record { rel = rel; row = from ∷ to ∷ [] }

-- so many facts, of a relation and of those behind it, lead from the one value to the other
abbrev pub IsPath : List Fact → ℕ → ℕ → Value → Value → Type 0
IsPath facts rel zero from to = from ≡ to
IsPath facts rel (suc count) from to = (next : Value) × Contains facts (edge rel from next) × IsPath facts (rel + 1) count next to

-- the row is that of a path through all relations
abbrev pub IsEnds : List Fact → Row → Type 0
IsEnds facts row = (from : Value) × (to : Value) × IsPath facts 0 8 from to × (row ≡ from ∷ to ∷ [])

-- ---- answers

two_long : (row : Row) → length row ≡ 2 → row ≡ slice_index_or row 0 [] ∷ slice_index_or row 1 [] ∷ []
two_long [] is = absurd (omega (arith, is))
two_long (a ∷ []) is = absurd (omega (arith, is))
two_long (a ∷ b ∷ []) is = refl
two_long (a ∷ b ∷ c ∷ row) is = absurd (omega (arith, is))

abbrev HasTwo : Relation → Type 0
HasTwo relation = length relation.columns ≡ 2

all_two : AllByRecursion HasTwo world_relations
all_two = all_mapped HasTwo relation_with (range_with_len 1 8) (λ k _. refl)

pub two_columns : (rel : ℕ) (relation : Relation) → slice_get world_relations rel ≡ Some relation → length relation.columns ≡ 2
two_columns rel relation at = all_member HasTwo world_relations relation all_two (contains_got world_relations rel relation at)

-- what is so of each place of two lists
chosen : {A : Type 0} (P : A → Row → Type 0) (xs : List A) (rows : List Row) (k : ℕ) (x : A) → AllZip P xs rows → slice_get xs k ≡ Some x → P x (slice_index_or rows k [])
chosen P [] rows k x all at = absurd cc
chosen P (y ∷ xs) [] k x all at = absurd all
chosen P (y ∷ xs) (row ∷ rows) zero x all at = subst (λ z. P z row) (some_injective y x at) all.0
chosen P (y ∷ xs) (row ∷ rows) (suc k) x all at = chosen P xs rows k x all.1 at

module _ (facts : List Fact) (fits : IsInstance world facts) where
  -- a fact has two values
  pub row_is : (rel : ℕ) (row : Row) → Contains facts (record { rel = rel; row = row }) → row ≡ slice_index_or row 0 [] ∷ slice_index_or row 1 [] ∷ []
  row_is rel row there =
      let fit = fits (record { rel = rel; row = row }) there in
      two_long row (fit.width ∙ two_columns rel fit.relation fit.there)

  module _ (rows : List Row) (choice : IsChoice facts world_select.froms rows) (meets : MeetsConditions rows world_select.conditions) where
    fact_at : (k : ℕ) → slice_get world_select.froms k ≡ Some k → Contains facts (edge k (operand_value rows (Column k 0)) (operand_value rows (Column k 1)))
    fact_at k at =
        let there : Contains facts (record { rel = k; row = slice_index_or rows k [] }) = chosen (FactsOf facts) world_select.froms rows k k choice at in
        subst (λ (row : Row). Contains facts (record { rel = k; row = row })) (row_is k (slice_index_or rows k []) there) there

    next_at : (k : ℕ) → slice_get world_select.froms (k + 1) ≡ Some (k + 1) → Contains world_select.conditions (joined k) → Contains facts (edge (k + 1) (operand_value rows (Column k 1)) (operand_value rows (Column (k + 1) 1)))
    next_at k at there = subst (λ (v : Value). Contains facts (edge (k + 1) v (operand_value rows (Column (k + 1) 1)))) (sym (meets (joined k) there)) (fact_at (k + 1) at)

    path_of : IsPath facts 0 8 (operand_value rows (Column 0 0)) (operand_value rows (Column 7 1))
    path_of = (
      _,
      fact_at 0 refl,
      (
        _,
        next_at 0 refl (0, omega arith, refl),
        (
          _,
          next_at 1 refl (1, omega arith, refl),
          (
            _,
            next_at 2 refl (2, omega arith, refl),
            (
              _,
              next_at 3 refl (3, omega arith, refl),
              (_, next_at 4 refl (4, omega arith, refl), (_, next_at 5 refl (5, omega arith, refl), (_, next_at 6 refl (6, omega arith, refl), refl))),
            ),
          ),
        ),
      ),
    )

  -- an answer is the ends of a path
  pub answer_is : (row : Row) → AnswersSelect world_select facts row → IsEnds facts row
  answer_is row (rows, choice, meets, is) = (_, _, path_of rows choice meets, is)

-- the ends of a path are an answer
pub ends_answer : (facts : List Fact) (row : Row) → IsEnds facts row → AnswersSelect world_select facts row
ends_answer facts row (v0, v8, (v1, c0, (v2, c1, (v3, c2, (v4, c3, (v5, c4, (v6, c5, (v7, c6, (w, c7, e)))))))), is) =
    let rows : List Row = (v0 ∷ v1 ∷ []) ∷ (v1 ∷ v2 ∷ []) ∷ (v2 ∷ v3 ∷ []) ∷ (v3 ∷ v4 ∷ []) ∷ (v4 ∷ v5 ∷ []) ∷ (v5 ∷ v6 ∷ []) ∷ (v6 ∷ v7 ∷ []) ∷ (v7 ∷ w ∷ []) ∷ [] in (
      rows,
      (c0, (c1, (c2, (c3, (c4, (c5, (c6, (c7, tt)))))))),
      (λ condition there. all_member (λ (c : Condition). operand_value rows c.left ≡ operand_value rows c.right) world_select.conditions condition (refl, (refl, (refl, (refl, (refl, (refl, (refl, tt))))))) there),
      is ∙ ap (λ (v : Value). v0 ∷ v ∷ []) (sym e),
    )

-- ---- rows of the plan

-- the inputs of the method of a relation
abbrev pub inputs_at : ℕ → List ℕ
inputs_at zero = []
inputs_at (suc rel) = 0 ∷ []

-- what is so of a method by its relation
pub record IsOwn (method : Method) : Type 0 where
  pub few : method.rel < 8
  pub name : method.name ≡ method_name (method.rel + 1)
  pub inputs : method.inputs ≡ inputs_at method.rel
  pub cost : method.cost ≡ 1

all_own : AllByRecursion IsOwn world_methods
all_own = (
  record { few = omega arith; name = refl; inputs = refl; cost = refl },
  (
    record { few = omega arith; name = refl; inputs = refl; cost = refl },
    (
      record { few = omega arith; name = refl; inputs = refl; cost = refl },
      (
        record { few = omega arith; name = refl; inputs = refl; cost = refl },
        (
          record { few = omega arith; name = refl; inputs = refl; cost = refl },
          (
            record { few = omega arith; name = refl; inputs = refl; cost = refl },
            (record { few = omega arith; name = refl; inputs = refl; cost = refl }, (record { few = omega arith; name = refl; inputs = refl; cost = refl }, tt)),
          ),
        ),
      ),
    ),
  ),
)

pub own : (method : Method) → Contains world_methods method → IsOwn method
own method there = all_member IsOwn world_methods method all_own there

pub name_digit : (j k : ℕ) → method_name j ≡ method_name k → j ≡ k
name_digit j k same = let digit : 48 + j ≡ 48 + k = ap (λ (name : List ℕ). slice_index_or name 1 0) same in omega (arith, digit)

-- the relation of the method of a name
pub named_rel : (k : ℕ) (method : Method) → IsMethod world (method_name k) method → method.rel + 1 ≡ k
named_rel k method named = name_digit (method.rel + 1) k (sym (own method named.0).name ∙ named.1)

-- ---- rows of the plan

pub col_joins : (j : ℕ) (values row next : Row) → Joins (Col j ∷ New ∷ []) values row next → (a : Value) × (b : Value) × (values ≡ a ∷ b ∷ []) × (slice_get row j ≡ Some a) × (next ≡ row ++ b ∷ [])
col_joins j [] row next joins = absurd joins
col_joins j (a ∷ []) row next joins = absurd joins.1
col_joins j (a ∷ b ∷ []) row next joins = (a, b, refl, joins.0, joins.1)
col_joins j (a ∷ b ∷ c ∷ values) row next joins = absurd joins.1

pub new_joins : (values row next : Row) → Joins (New ∷ New ∷ []) values row next → (a : Value) × (b : Value) × (values ≡ a ∷ b ∷ []) × (next ≡ (row ++ a ∷ []) ++ b ∷ [])
new_joins [] row next joins = absurd joins
new_joins (a ∷ []) row next joins = absurd joins
new_joins (a ∷ b ∷ []) row next joins = (a, b, refl, joins)
new_joins (a ∷ b ∷ c ∷ values) row next joins = absurd joins

within_range : (a count k : ℕ) → a ≤ k → k < a + count → Contains (range_with_len a count) k
within_range a zero k low high = absurd (omega (arith, low, high))
within_range a (suc count) k low high = ⊎_elim
    (λ (below : k < a + 1). let same : a ≡ k = omega (arith, low, below) in subst (Contains (a ∷ range_with_len (a + 1) count)) same (contains_here a (range_with_len (a + 1) count)))
    (λ (above : a + 1 ≤ k). contains_there a (range_with_len (a + 1) count) k (within_range (a + 1) count k above (omega (arith, high))))
    (cases_lt k (a + 1))

method_there : (k : ℕ) → 2 ≤ k → k ≤ 8 → Contains world_methods (method_with (0 ∷ []) k)
method_there k some few = contains_there (method_with [] 1) (map (method_with (0 ∷ [])) (range_with_len 2 7)) (method_with (0 ∷ []) k) (contains_map (method_with (0 ∷ [])) (range_with_len 2 7) k (within_range 2 7 k some (omega (arith, few))))

module _ (facts : List Fact) where
  pub edge_of : (rel : ℕ) (fact : Fact) (a b : Value) → Contains facts fact → fact.rel ≡ rel → fact.row ≡ a ∷ b ∷ [] → Contains facts (edge rel a b)
  edge_of rel fact a b there is row =
      let make : ℕ → Row → Fact = λ r vs. record { rel = r; row = vs } in
      subst (Contains facts) (ap (λ r. make r fact.row) is ∙ ap (make rel) row) there

  leads : (count rel k : ℕ) (front : Row) (from : Value) (last : Row) → k ≡ rel + 1 → length front ≡ rel → LeadsTo world facts (map next_step (range_with_len k count)) (front ++ from ∷ []) last →
      (to : Value) × (between : Row) × IsPath facts rel count from to × (last ≡ front ++ from ∷ between) × (slice_get last (rel + count) ≡ Some to)
  leads zero rel k front from last number long all =
      let at : slice_get (front ++ from ∷ []) (length front) ≡ Some from = got_push front from in
      let place : length front ≡ rel + 0 = omega (arith, long) in
      (from, [], refl, all, ap (λ (row : Row). slice_get row (rel + 0)) all ∙ subst (λ j. slice_get (front ++ from ∷ []) j ≡ Some from) place at)
  leads (suc count) rel k front from last number long (next, step, more) =
      let (a, b, row, at, is) = col_joins (k - 1) step.fact.row (front ++ from ∷ []) next step.joins in
      let rel_is = named_rel k step.method step.named in
      let place : k - 1 ≡ length front = omega (arith, number, long) in
      let same : from ≡ a = some_injective from a (sym (got_push front from) ∙ ap (slice_get (front ++ from ∷ [])) (sym place) ∙ at) in
      let there : Contains facts (edge rel a b) = edge_of rel step.fact a b step.holds (step.of_relation ∙ (let e : step.method.rel ≡ rel = omega (arith, rel_is, number) in e)) row in
      let long' : length (front ++ from ∷ []) ≡ rel + 1 = length-append front (from ∷ []) ∙ ap (λ m. m + 1) long in
      let (to, between, path, last_is, slot) = leads count (rel + 1) (k + 1) (front ++ from ∷ []) b last (ap (λ m. m + 1) number) long' (subst (λ (r : Row). LeadsTo world facts (map next_step (range_with_len (k + 1) count)) r last) is more) in
      let add : rel + 1 + count ≡ rel + suc count = omega arith in
      (to, b ∷ between, (b, subst (λ (v : Value). Contains facts (edge rel v b)) (sym same) there, path), last_is ∙ append_assoc front (from ∷ []) (b ∷ between), subst (λ j. slice_get last j ≡ Some to) add slot)

  -- the steps lead along a path
  follows : (count rel k : ℕ) (front : Row) (from to : Value) → k ≡ rel + 1 → 1 ≤ rel → rel + count ≤ 8 → length front ≡ rel → IsPath facts rel count from to →
      (last : Row) × (between : Row) × LeadsTo world facts (map next_step (range_with_len k count)) (front ++ from ∷ []) last × (last ≡ front ++ from ∷ between) × (slice_get last (rel + count) ≡ Some to)
  follows zero rel k front from to number some few long path =
      let at : slice_get (front ++ from ∷ []) (length front) ≡ Some from = got_push front from in
      let place : length front ≡ rel + 0 = omega (arith, long) in
      (front ++ from ∷ [], [], refl, refl, subst (λ j. slice_get (front ++ from ∷ []) j ≡ Some from) place at ∙ ap Some path)
  follows (suc count) rel k front from to number some few long (next, there, more) =
      let place : length front ≡ k - 1 = omega (arith, number, long) in
      let long' : length (front ++ from ∷ []) ≡ rel + 1 = length-append front (from ∷ []) ∙ ap (λ m. m + 1) long in
      let (last, between, all, last_is, slot) = follows count (rel + 1) (k + 1) (front ++ from ∷ []) next to (ap (λ m. m + 1) number) (omega (arith, some)) (omega (arith, few)) long' more in
      let step : StepsTo world facts (next_step k) (front ++ from ∷ []) ((front ++ from ∷ []) ++ next ∷ []) = record {
        method = method_with (0 ∷ []) k;
        fact = edge rel from next;
        named = (method_there k (omega (arith, number, some)) (omega (arith, number, few)), refl);
        of_relation = omega (arith, number);
        holds = there;
        joins = (subst (λ j. slice_get (front ++ from ∷ []) j ≡ Some from) place (got_push front from), refl);
      } in
      let add : rel + 1 + count ≡ rel + suc count = omega arith in
      (last, next ∷ between, ((front ++ from ∷ []) ++ next ∷ [], step, all), last_is ∙ append_assoc front (from ∷ []) (next ∷ between), subst (λ j. slice_get last j ≡ Some to) add slot)

  -- a row of the branch is the ends of a path
  pub branch_row_is : (row : Row) → IsBranchRow world world_branch facts row → IsEnds facts row
  branch_row_is row (last, (next, step, more), outs) =
      let (a, b, fact_row, is) = new_joins step.fact.row [] next step.joins in
      let rel_is = named_rel 1 step.method step.named in
      let there : Contains facts (edge 0 a b) = edge_of 0 step.fact a b step.holds (step.of_relation ∙ (let e : step.method.rel ≡ 0 = omega (arith, rel_is) in e)) fact_row in
      let (to, between, path, last_is, slot) = leads 7 1 2 (a ∷ []) b last refl refl (subst (λ (r : Row). LeadsTo world facts (map next_step (range_with_len 2 7)) r last) is more) in
      (a, to, (b, there, path), out_row last a to row (ap (λ (r : Row). slice_get r 0) last_is) slot outs)
    where
      out_row : (last : Row) (a to : Value) (row : Row) → slice_get last 0 ≡ Some a → slice_get last 8 ≡ Some to → AllZip (IsOut last) (Made 0 ∷ Made 8 ∷ []) row → row ≡ a ∷ to ∷ []
      out_row last a to [] first slot outs = absurd outs
      out_row last a to (x ∷ []) first slot outs = absurd outs.1
      out_row last a to (x ∷ y ∷ []) first slot outs =
          let one : x ≡ a = some_injective x a (sym outs.0 ∙ first) in
          let two : y ≡ to = some_injective y to (sym outs.1.0 ∙ slot) in
          ap (λ (v : Value). v ∷ y ∷ []) one ∙ ap (λ (v : Value). a ∷ v ∷ []) two
      out_row last a to (x ∷ y ∷ z ∷ row) first slot outs = absurd outs.1.1

  pub ends_branch_row : (row : Row) → IsEnds facts row → IsBranchRow world world_branch facts row
  ends_branch_row row (from, to, (next, there, path), is) =
      let (last, between, all, last_is, slot) = follows 7 1 2 (from ∷ []) next to refl (omega arith) (omega arith) refl path in
      let step : StepsTo world facts first_step [] (from ∷ next ∷ []) = record { method = method_with [] 1; fact = edge 0 from next; named = ((0, omega arith, refl), refl); of_relation = refl; holds = there; joins = refl } in
      (last, (from ∷ next ∷ [], step, all), subst (AllZip (IsOut last) (Made 0 ∷ Made 8 ∷ [])) (sym is) (ap (λ (r : Row). slice_get r 0) last_is, (slot, tt)))

-- ---- the plan

module _ (k : ℕ) (few : 1 ≤ k) (at : slice_get world_relations (k - 1) ≡ Some (relation_with k)) (there : Contains world_methods (method_with (0 ∷ []) k)) where
  lawful_next : IsLawfulStep world [] k (next_step k) (method_with (0 ∷ []) k)
  lawful_next = record {
    named = (there, refl);
    arity = record { relation = relation_with k; there = at; width = refl };
    places = (omega (arith, few), (λ _. omega (arith, few)), ((λ c. absurd (apart (contains_one 0 1 c))), tt));
  }
    where
      apart : ◌≡◌ {A = ℕ} 0 1 → ⊥
      apart e = omega (arith, e)

lawful_branch : IsLawfulBranch world [] world_branch
lawful_branch = (
  method_with [] 1,
  record { named = ((0, omega arith, refl), refl); arity = record { relation = relation_with 1; there = refl; width = refl }; places = ((λ c. omega arith), ((λ c. omega arith), tt)) },
  (
    _,
    lawful_next 2 (omega arith) refl (1, omega arith, refl),
    (
      _,
      lawful_next 3 (omega arith) refl (2, omega arith, refl),
      (
        _,
        lawful_next 4 (omega arith) refl (3, omega arith, refl),
        (
          _,
          lawful_next 5 (omega arith) refl (4, omega arith, refl),
          (
            _,
            lawful_next 6 (omega arith) refl (5, omega arith, refl),
            (
              _,
              lawful_next 7 (omega arith) refl (6, omega arith, refl),
              (_, lawful_next 8 (omega arith) refl (7, omega arith, refl), (λ out there. all_member (IsLawfulOut [] 9) world_branch.output out (omega arith, (omega arith, tt)) there)),
            ),
          ),
        ),
      ),
    ),
  ),
)

pub plan_lawful : IsLawful world_plan world []
plan_lawful branch there = subst (λ (b : Branch). (length b.output ≡ 2) × IsLawfulBranch world [] b) (contains_one world_branch branch there) (refl, lawful_branch)

pub plan_equivalent : IsEquivalent world_plan world_statement world
plan_equivalent = record {
  sound = λ facts row model (branch, there, rows). (world_select, contains_here world_select [], ends_answer facts row (branch_row_is facts row (subst (λ b. IsBranchRow world b facts row) (sym (contains_one world_branch branch there)) rows)));
  complete = λ facts row model (select, there, answer). (world_branch, contains_here world_branch [], ends_branch_row facts row (answer_is facts model.fits row (subst (λ s. AnswersSelect s facts row) (sym (contains_one world_select select there)) answer)));
}

pub branch_rival : IsRival world [] world_statement world_select world_branch
branch_rival = record {
  lawful = lawful_branch;
  sound = λ facts row model rows. (world_select, contains_here world_select [], ends_answer facts row (branch_row_is facts row rows));
  complete = λ facts row model answer. ends_branch_row facts row (answer_is facts model.fits row answer);
}

pub branch_cost : IsCost world world_branch 8
branch_cost = (
  method_with [] 1,
  7,
  ((0, omega arith, refl), refl),
  (
    method_with (0 ∷ []) 2,
    6,
    ((1, omega arith, refl), refl),
    (
      method_with (0 ∷ []) 3,
      5,
      ((2, omega arith, refl), refl),
      (
        method_with (0 ∷ []) 4,
        4,
        ((3, omega arith, refl), refl),
        (
          method_with (0 ∷ []) 5,
          3,
          ((4, omega arith, refl), refl),
          (
            method_with (0 ∷ []) 6,
            2,
            ((5, omega arith, refl), refl),
            (method_with (0 ∷ []) 7, 1, ((6, omega arith, refl), refl), (method_with (0 ∷ []) 8, 0, ((7, omega arith, refl), refl), refl, refl), refl),
            refl,
          ),
          refl,
        ),
        refl,
      ),
      refl,
    ),
    refl,
  ),
  refl,
)

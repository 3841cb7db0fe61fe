-- A branch for the statement of a world accesses each relation: where one relation leads elsewhere, the answers are others.
use Rattle.std.proofs.Common.{◌≡◌, ◌+◌, ◌<◌, ◌≤◌, ℕ, zero, suc, Bool, true, false, not, List, [], ◌∷◌, Some, nat_lt, nat_eq, refl, sym, ap, subst, ◌∙◌, ⊎_elim, arith}
use Rattle.std.specs.Prelude.{Contains, codes, flat_map, slice_index_or}
use Rattle.std.specs.List.{range_with_len}
use Rattle.std.proofs.lemmas.Bool.{cases_lt, ne_eqb}
use Rattle.std.proofs.lemmas.Bool.Decides.{nat_tests}
use Rattle.lists.proofs.Members.{contains_got, contains_here, contains_there, contains_cases, contains_one, contains_joined, joined_from}
use Rattle.meaning.specs.declared.types.Method.{Method}
use Rattle.meaning.specs.declared.types.Fact.{Fact}
use Rattle.meaning.specs.declared.types.Select.{Select}
use Rattle.meaning.specs.declared.types.Step.{Step}
use Rattle.meaning.specs.declared.types.Branch.{Branch}
use Rattle.meaning.specs.Values.{Value, Row}
use Rattle.meaning.specs.Answers.{AnswersSelect}
use Rattle.meaning.specs.Plans.{IsMethod}
use Rattle.meaning.specs.Rows.{LeadsTo, IsBranchRow}
use Rattle.meaning.specs.Costs.{IsRival}
use Rattle.world_laws.specs.World.{world_select, world_statement}
use Rattle.world_laws.specs.Plan.{world}
use Rattle.world_laws.proofs.Paths.{edge, IsPath, answer_is, ends_answer}
use Rattle.world_laws.proofs.Chases.{range_bounds, range_got}
use Rattle.world_laws.proofs.Models.{IsChain, chain_is_model}

-- ---- two values, and relations that keep them or turn them round

abbrev val : Bool → Value
val false = codes "0"
val true = codes "1"

abbrev turned : Bool → Bool → Bool
turned false turns = turns
turned true turns = not turns

abbrev edges_of : (ℕ → Bool) → ℕ → List Fact
edges_of turns rel = edge rel (val false) (val (turned false (turns rel))) ∷ edge rel (val true) (val (turned true (turns rel))) ∷ []

-- each relation leads from each value to itself, or where it turns to the other
abbrev facts_with : (ℕ → Bool) → List Fact
facts_with turns = flat_map (edges_of turns) (range_with_len 0 8)

val_once : (s t : Bool) → val s ≡ val t → s ≡ t
val_once false false e = refl
val_once true true e = refl
val_once false true e = absurd (apart (ap (λ (v : Value). slice_index_or v 0 0) e))
  where
    apart : ◌≡◌ {A = ℕ} 48 49 → ⊥
    apart h = omega (arith, h)
val_once true false e = absurd (apart (ap (λ (v : Value). slice_index_or v 0 0) e))
  where
    apart : ◌≡◌ {A = ℕ} 49 48 → ⊥
    apart h = omega (arith, h)

module _ (turns : ℕ → Bool) where
  record IsEdge (fact : Fact) : Type 0 where
    rel : ℕ
    from : Bool
    few : rel < 8
    fact_is : fact ≡ edge rel (val from) (val (turned from (turns rel)))

  found : (fact : Fact) → Contains (facts_with turns) fact → IsEdge fact
  found fact there =
      let (rel, ranged, among) = joined_from (edges_of turns) (range_with_len 0 8) fact there in
      let bounds = range_bounds 0 8 rel ranged in
      let few = bounds.1 in
      ⊎_elim
      (λ is. record { rel = rel; from = false; few = omega (arith, few); fact_is = sym is })
      (λ later. record { rel = rel; from = true; few = omega (arith, few); fact_is = sym (contains_one (edge rel (val true) (val (turned true (turns rel)))) fact later) })
      (contains_cases (edge rel (val false) (val (turned false (turns rel)))) (edge rel (val true) (val (turned true (turns rel))) ∷ []) fact among)

  edge_there : (rel : ℕ) (from : Bool) → rel < 8 → Contains (facts_with turns) (edge rel (val from) (val (turned from (turns rel))))
  edge_there rel from few =
      let e : 0 + rel ≡ rel = omega arith in
      contains_joined (edges_of turns) (range_with_len 0 8) rel (edge rel (val from) (val (turned from (turns rel)))) (contains_got (range_with_len 0 8) rel rel (range_got 0 8 rel few ∙ ap Some e)) (own from)
    where
      own : (from : Bool) → Contains (edges_of turns rel) (edge rel (val from) (val (turned from (turns rel))))
      own false = (0, omega arith, refl)
      own true = (1, omega arith, refl)

  -- where an edge ends
  edge_ends : (rel : ℕ) (from : Bool) (to : Value) → Contains (facts_with turns) (edge rel (val from) to) → to ≡ val (turned from (turns rel))
  edge_ends rel from to there =
      let is = found (edge rel (val from) to) there in
      let same_rel : rel ≡ is.rel = ap (λ (f : Fact). f.rel) is.fact_is in
      let same_from : from ≡ is.from = val_once from is.from (ap (λ (f : Fact). slice_index_or f.row 0 []) is.fact_is) in
      ap (λ (f : Fact). slice_index_or f.row 1 []) is.fact_is ∙ ap (λ s. val (turned s (turns is.rel))) (sym same_from) ∙ ap (λ r. val (turned from (turns r))) (sym same_rel)

  chain : IsChain (facts_with turns)
  chain = record {
    edges = λ fact there. let is = found fact there in (is.rel, val is.from, val (turned is.from (turns is.rel)), is.few, is.fact_is);
    goes_on = λ rel a b few there.
        let is = found (edge rel a b) there in
        let to : Bool = turned is.from (turns is.rel) in
        let end : b ≡ val to = ap (λ (f : Fact). slice_index_or f.row 1 []) is.fact_is in
        (val (turned to (turns (rel + 1))), subst (λ (v : Value). Contains (facts_with turns) (edge (rel + 1) v (val (turned to (turns (rel + 1)))))) (sym end) (edge_there (rel + 1) to (omega (arith, few))));
  }

-- ---- a relation that is not accessed

-- no step is by a method of the relation
abbrev pub Skips : List Step → ℕ → Type 0
Skips steps rel = (step : Step) (method : Method) → Contains steps step → IsMethod world step.method method → method.rel ≡ rel → ⊥

module _ (rel : ℕ) (first second : List Fact) (alike : (fact : Fact) → (fact.rel ≡ rel → ⊥) → Contains first fact → Contains second fact) where
  leads_alike : (steps : List Step) (row last : Row) → Skips steps rel → LeadsTo world first steps row last → LeadsTo world second steps row last
  leads_alike [] row last skips leads = leads
  leads_alike (step ∷ steps) row last skips (next, taken, more) = (
    next,
    record {
      method = taken.method;
      fact = taken.fact;
      named = taken.named;
      of_relation = taken.of_relation;
      holds = alike taken.fact (λ is. skips step taken.method (contains_here step steps) taken.named (sym taken.of_relation ∙ is)) taken.holds;
      joins = taken.joins;
    },
    leads_alike steps next last (λ other method there. skips other method (contains_there step steps other there)) more,
  )

  row_alike : (branch : Branch) (row : Row) → Skips branch.steps rel → IsBranchRow world branch first row → IsBranchRow world branch second row
  row_alike branch row skips (last, leads, outs) = (last, leads_alike branch.steps [] last skips leads, outs)

-- ---- the one relation turned

abbrev none : ℕ → Bool
none rel = false

abbrev only : ℕ → ℕ → Bool
only one rel = nat_eq rel one

kept_elsewhere : (one : ℕ) (fact : Fact) → (fact.rel ≡ one → ⊥) → Contains (facts_with none) fact → Contains (facts_with (only one)) fact
kept_elsewhere one fact apart there =
    let is = found none fact there in
    let same : fact.rel ≡ is.rel = ap (λ (f : Fact). f.rel) is.fact_is in
    let differ : nat_eq is.rel one ≡ false = ne_eqb is.rel one (λ e. apart (same ∙ e)) in
    subst (Contains (facts_with (only one))) (ap (λ t. edge is.rel (val is.from) (val (turned is.from t))) differ ∙ sym is.fact_is) (edge_there (only one) is.rel is.from is.few)

-- the value before a relation
turns_once : (one rel : ℕ) → turned (nat_lt one rel) (nat_eq rel one) ≡ nat_lt one (rel + 1)
turns_once one rel = ⊎_elim
    (λ (below : one < rel).
    let less : nat_lt one rel ≡ true = grind (arith, nat_tests) in
    let other : nat_eq rel one ≡ false = grind (arith, nat_tests) in
    let more : nat_lt one (rel + 1) ≡ true = grind (arith, nat_tests) in
    rw (less, other, more) refl)
    (λ (not_below : rel ≤ one).
    let not_less : nat_lt one rel ≡ false = grind (arith, nat_tests) in
    ⊎_elim
    (λ (above : rel < one).
    let other : nat_eq rel one ≡ false = grind (arith, nat_tests) in
    let more : nat_lt one (rel + 1) ≡ false = grind (arith, nat_tests) in
    rw (not_less, other, more) refl)
    (λ (high : one ≤ rel).
    let same : nat_eq rel one ≡ true = grind (arith, nat_tests) in
    let more : nat_lt one (rel + 1) ≡ true = grind (arith, nat_tests) in
    rw (not_less, same, more) refl)
    (cases_lt rel one))
    (cases_lt one rel)

path_ends : (one count rel : ℕ) (to : Value) → IsPath (facts_with (only one)) rel count (val (nat_lt one rel)) to → to ≡ val (nat_lt one (rel + count))
path_ends one zero rel to path = sym path ∙ ap (λ n. val (nat_lt one n)) (let e : rel ≡ rel + 0 = omega arith in e)
path_ends one (suc count) rel to (next, there, path) =
    let here : next ≡ val (nat_lt one (rel + 1)) = edge_ends (only one) rel (nat_lt one rel) next there ∙ ap val (turns_once one rel) in
    path_ends one count (rel + 1) to (subst (λ (v : Value). IsPath (facts_with (only one)) (rel + 1) count v to) here path) ∙ ap (λ n. val (nat_lt one n)) (let e : rel + 1 + count ≡ rel + suc count = omega arith in e)

-- where no relation turns, each value leads to itself
kept_path : (count rel : ℕ) → rel + count ≤ 8 → IsPath (facts_with none) rel count (val false) (val false)
kept_path zero rel few = refl
kept_path (suc count) rel few = (val false, edge_there none rel false (omega (arith, few)), kept_path count (rel + 1) (omega (arith, few)))

-- the answer where no relation turns
still : Row
still = val false ∷ val false ∷ []

pub accessed : (branch : Branch) → IsRival world [] world_statement world_select branch → (one : ℕ) → one < 8 → Skips branch.steps one → ⊥
unfolding still
accessed branch rival one few skips =
    let model = chain_is_model (facts_with none) (chain none) in
    let other = chain_is_model (facts_with (only one)) (chain (only one)) in
    let first : AnswersSelect world_select (facts_with none) still = ends_answer (facts_with none) still (val false, val false, kept_path 8 0 (omega arith), refl) in
    let rows = row_alike one (facts_with none) (facts_with (only one)) (kept_elsewhere one) branch still skips (rival.complete (facts_with none) still model first) in
    let (select, there, answer) = rival.sound (facts_with (only one)) still other rows in
    let second : AnswersSelect world_select (facts_with (only one)) still = subst (λ (s : Select). AnswersSelect s (facts_with (only one)) still) (sym (contains_one world_select select there)) answer in
    let (from, to, path, is) = answer_is (facts_with (only one)) other.fits still second in
    let begins : from ≡ val (nat_lt one 0) = sym (ap (λ (r : Row). slice_index_or r 0 []) is) ∙ ap val (sym (let low : nat_lt one 0 ≡ false = grind (arith, nat_tests) in low)) in
    let ends : to ≡ val (nat_lt one 8) = path_ends one 8 0 to (subst (λ (v : Value). IsPath (facts_with (only one)) 0 8 v to) begins path) in
    let high : nat_lt one 8 ≡ true = grind (arith, nat_tests) in
    let apart : false ≡ true = val_once false true (ap (λ (r : Row). slice_index_or r 1 []) is ∙ ends ∙ ap val high) in
    cc

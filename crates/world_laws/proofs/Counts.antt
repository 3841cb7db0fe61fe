-- How many requests a branch makes on the instance of a world, and how many answers there are.
use Rattle.std.proofs.Common.{◌≡◌, ◌+◌, ◌*◌, ◌<◌, ◌≤◌, ℕ, zero, suc, List, [], ◌∷◌, ◌++◌, length, take, drop, slice_get, Some, refl, sym, ap, subst, ◌∙◌, ⊎_elim, arith}
use Rattle.std.specs.Prelude.{◌↔◌, Contains, map, slice_index_or}
use Rattle.std.specs.List.{range_with_len}
use Rattle.std.specs.Fmt.{decimal}
use Rattle.std.proofs.lemmas.List.{append-nil, length-append, length-map}
use Rattle.std.proofs.lemmas.List.Elements.{Contains-append_right}
use Rattle.std.proofs.lemmas.List.FromFn.{length-range_with_len}
use Rattle.std.proofs.lemmas.Bool.{cases_lt}
use Rattle.lists.proofs.Members.{contains_got, contains_here, contains_map, contains_mapped, contains_one, got_mapped, some_injective}
use Rattle.meaning.specs.declared.types.Fact.{Fact}
use Rattle.meaning.specs.declared.types.Select.{Select}
use Rattle.meaning.specs.declared.types.Step.{Step}
use Rattle.meaning.specs.declared.types.Branch.{Branch}
use Rattle.meaning.specs.declared.types.Request.{Request}
use Rattle.meaning.specs.Values.{Value, Row}
use Rattle.meaning.specs.Answers.{AnswersSelect, Answers}
use Rattle.meaning.specs.Plans.{AreLawfulFrom}
use Rattle.meaning.specs.Requests.{IsRound, AreStepsRequests}
use Rattle.meaning.specs.Claims.{IsModel}
use Rattle.meaning.specs.Costs.{IsCost, IsRival}
use Rattle.access_schema.specs.Names.{AllDiffer}
use Rattle.access_schema.proofs.Texts.{length_le}
use Rattle.tgd_reader.proofs.Again.{split_at}
use Rattle.world_laws.specs.World.{world_select, world_statement}
use Rattle.world_laws.specs.Plan.{world}
use Rattle.world_laws.specs.Instance.{world_facts}
use Rattle.world_laws.proofs.Paths.{edge, IsPath, answer_is, ends_answer}
use Rattle.world_laws.proofs.Chases.{range_bounds, range_got}
use Rattle.world_laws.proofs.Models.{chain_is_model}
use Rattle.world_laws.proofs.Counting.{AreLater, IsOrdered, named_one, costs_long, ordered}
use Rattle.world_laws.proofs.Columns as turns
use Rattle.world_laws.proofs.Columns.{numbers, numbers_differ}
use Rattle.world_laws.proofs.Rounds as rounds

-- no branch costs less than 8
pub least_cost : (branch : Branch) (cost : ℕ) → IsRival world [] world_statement world_select branch → IsCost world branch cost → 8 ≤ cost
least_cost branch cost rival costs = ⊎_elim
    (λ (less : cost < 8).
    let is = ordered branch rival cost costs (omega (arith, less)) in
    let long = costs_long branch.steps cost costs in
    let count = ap length is.steps_are in
    let seven = is.seven in
    omega (arith, long, count, seven))
    (λ (high : 8 ≤ cost). high)
    (cases_lt cost 8)

module _ (n : ℕ) (some : 1 ≤ n) (few : n ≤ 10000) where
  pub model : IsModel world (world_facts n)
  model = chain_is_model (world_facts n) (turns.chain n some few)

  -- ---- requests

  module _ (branch : Branch) (rival : IsRival world [] world_statement world_select branch) (is : IsOrdered branch) where
    -- what is so after the first step
    record IsBegun : Type 0 where
      cols : List (ℕ → ℕ)
      at : turns.IsAt n some few (is.first ∷ []) cols
      onward : AreLawfulFrom world [] (length cols) is.rest branch.output
      whole : turns.IsWhole n some few (is.first ∷ is.rest)

    lawful_first : AreLawfulFrom world [] 0 (is.first ∷ is.rest) branch.output
    lawful_first = subst (λ (steps : List Step). AreLawfulFrom world [] 0 steps branch.output) is.steps_are rival.lawful

    begun : IsBegun
    begun =
        let (method, lawful, more) = lawful_first in
        let nought : method.rel ≡ 0 = named_one is.first.method method is.method lawful.named is.named ∙ is.first_rel in
        let (cols, at, long) = turns.made_first n some few is.first method lawful nought in
        let onward : AreLawfulFrom world [] (length cols) is.rest branch.output = subst (λ columns. AreLawfulFrom world [] columns is.rest branch.output) (sym long) more in
        let end = turns.steps_at n some few is.rest (is.first ∷ []) cols branch.output at onward is.later in
        let whole = turns.branch_whole n some few branch (λ row answer. rival.complete (world_facts n) row model answer) (subst (λ (steps : List Step). turns.IsEnd n some few steps branch.output) (sym is.steps_are) end) in
        record { cols = cols; at = at; onward = onward; whole = subst (turns.IsWhole n some few) is.steps_are whole }

    -- the requests of the first step and of some of the others
    module _ (front tail : List Step) (all : is.rest ≡ front ++ tail) (requests : List Request) (are : AreStepsRequests world (world_facts n) [] (is.first ∷ front) requests) where
      record IsBehind : Type 0 where
        cols : List (ℕ → ℕ)
        at : turns.IsAt n some few (is.first ∷ front) cols
        lawful : AreLawfulFrom world [] (length cols) tail branch.output
        whole : turns.IsWhole n some few (is.first ∷ (front ++ tail))
        long : length requests ≡ length front * n + 1

      later_here : AreLater (front ++ tail)
      later_here = subst AreLater all is.later

      behind : IsBehind
      behind =
          let (now, rest, split, round, more) = are in
          let start = begun in
          let one = rounds.round_one n some few is.first is.method now is.named is.first_rel round in
          let whole = subst (λ (steps : List Step). turns.IsWhole n some few (is.first ∷ steps)) all start.whole in
          let gone = rounds.counted n some few front tail (is.first ∷ []) start.cols branch.output rest start.at whole (subst (λ (steps : List Step). AreLawfulFrom world [] (length start.cols) steps branch.output) all start.onward) later_here more in
          let count = ap length split ∙ length-append now rest in
          let others = gone.long in
          record { cols = gone.cols; at = gone.at; lawful = gone.lawful; whole = whole; long = omega (arith, one, others, count) }

    all_counted : (requests : List Request) → AreStepsRequests world (world_facts n) [] branch.steps requests → length requests ≡ 7 * n + 1
    all_counted requests are =
        let long = (behind is.rest [] (sym (append-nil is.rest)) requests (subst (λ (steps : List Step). AreStepsRequests world (world_facts n) [] steps requests) is.steps_are are)).long in
        let times : length is.rest * n ≡ 7 * n = ap (λ m. m * n) is.seven in
        omega (arith, long, times)

    -- no round passes that
    within : (k : ℕ) (step : Step) (earlier now : List Request) → slice_get (is.first ∷ is.rest) k ≡ Some step → AreStepsRequests world (world_facts n) [] (take k (is.first ∷ is.rest)) earlier → IsRound world (world_facts n) (take k (is.first ∷ is.rest)) step now →
        length earlier + length now ≤ 7 * n + 1
    within zero step earlier now at are round =
        let same : is.first ≡ step = some_injective is.first step at in
        let one = rounds.round_one n some few is.first is.method now is.named is.first_rel (subst (λ (s : Step). IsRound world (world_facts n) [] s now) (sym same) round) in
        let none = ap length are in
        omega (arith, one, none)
    within (suc m) step earlier now at are round =
        let front : List Step = take m is.rest in
        let tail : List Step = drop (suc m) is.rest in
        let all : is.rest ≡ front ++ step ∷ tail = split_at is.rest m step at in
        let state = behind front (step ∷ tail) all earlier are in
        let (method, lawful, more) = state.lawful in
        let small = later_here front (step ∷ tail) all earlier are step method (Contains-append_right front (step ∷ tail) step (contains_here step tail)) lawful.named in
        let here = rounds.counted_one n some few (is.first ∷ front) tail state.cols step method now state.at state.whole lawful small round in
        let long = state.long in
        let seven : 7 ≡ length front + suc (length tail) = sym is.seven ∙ ap length all ∙ length-append front (step ∷ tail) in
        let times : 7 * n ≡ (length front + suc (length tail)) * n = ap (λ m. m * n) seven in
        let apart : (length front + suc (length tail)) * n ≡ length front * n + n + length tail * n = grind arith in
        omega (arith, here, long, times, apart)

  pub requests_counted : (branch : Branch) (requests : List Request) → IsRival world [] world_statement world_select branch → IsCost world branch 8 → AreStepsRequests world (world_facts n) [] branch.steps requests → length requests ≡ 7 * n + 1
  requests_counted branch requests rival costs are = all_counted branch rival (ordered branch rival 8 costs (omega arith)) requests are

  pub requests_within : (branch : Branch) (k : ℕ) (step : Step) (earlier now : List Request) → IsRival world [] world_statement world_select branch → IsCost world branch 8 → slice_get branch.steps k ≡ Some step →
      AreStepsRequests world (world_facts n) [] (take k branch.steps) earlier → IsRound world (world_facts n) (take k branch.steps) step now → length earlier + length now ≤ 7 * n + 1
  requests_within branch k step earlier now rival costs at are round =
      let is = ordered branch rival 8 costs (omega arith) in
      within branch rival is k step earlier now (ap (λ (steps : List Step). slice_get steps k) (sym is.steps_are) ∙ at) (subst (λ (steps : List Step). AreStepsRequests world (world_facts n) [] (take k steps) earlier) is.steps_are are)
      (subst (λ (steps : List Step). IsRound world (world_facts n) (take k steps) step now) is.steps_are round)

  -- ---- answers

  end_from : ℕ → ℕ → ℕ → ℕ
  end_from zero rel i = i
  end_from (suc count) rel i = end_from count (rel + 1) (turns.on n some few rel i)

  path_ends : (count rel i : ℕ) (from to : Value) → i < n → from ≡ decimal i → IsPath (world_facts n) rel count from to → to ≡ decimal (end_from count rel i)
  unfolding end_from
  path_ends zero rel i from to low is path = sym path ∙ is
  path_ends (suc count) rel i from to low is (next, there, path) =
      path_ends count (rel + 1) (turns.on n some few rel i) next to (turns.on_below n some few rel i) (turns.edge_ends n some few rel i from next low is there) path

  record IsAnswer (row : Row) : Type 0 where
    i : ℕ
    low : i < n
    row_is : row ≡ decimal i ∷ decimal (end_from 8 0 i) ∷ []

  answer_numbered : (row : Row) → Answers world_statement (world_facts n) row → IsAnswer row
  answer_numbered row (select, there, answer) =
      let (from, to, (next, first, path), is) = answer_is (world_facts n) model.fits row (subst (λ (s : Select). AnswersSelect s (world_facts n) row) (sym (contains_one world_select select there)) answer) in
      let numbered = turns.found n some few (edge 0 from next) first in
      let begins : from ≡ decimal numbered.i = ap (λ (f : Fact). slice_index_or f.row 0 []) numbered.fact_is in
      let ends = path_ends 8 0 numbered.i from to numbered.below begins (next, first, path) in
      record { i = numbered.i; low = numbered.below; row_is = is ∙ ap (λ (v : Value). v ∷ to ∷ []) begins ∙ ap (λ (v : Value). decimal numbered.i ∷ v ∷ []) ends }

  numbered_answer : (i : ℕ) → i < n → (w : Value) × Answers world_statement (world_facts n) (decimal i ∷ w ∷ [])
  numbered_answer i low =
      let (m, path) = turns.path_on n some few 8 0 i (omega arith) low in
      (decimal m, (world_select, contains_here world_select [], ends_answer (world_facts n) (decimal i ∷ decimal m ∷ []) (decimal i, decimal m, path, refl)))

  abbrev first_of : Row → Value
  first_of row = slice_index_or row 0 []

  module _ (rows : List Row) (once : AllDiffer rows) (are : (row : Row) → Contains rows row ↔ Answers world_statement (world_facts n) row) where
    firsts_differ : AllDiffer (map first_of rows)
    firsts_differ i j member at_i at_j =
        let (one, got_one, is_one) = got_mapped first_of rows i member at_i in
        let (two, got_two, is_two) = got_mapped first_of rows j member at_j in
        let a = answer_numbered one ((are one).0 (contains_got rows i one got_one)) in
        let b = answer_numbered two ((are two).0 (contains_got rows j two got_two)) in
        let same : a.i ≡ b.i = turns.number_once n some few a.i b.i a.low b.low (sym (ap first_of a.row_is) ∙ is_one ∙ sym is_two ∙ ap first_of b.row_is) in
        let rows_same : one ≡ two = a.row_is ∙ ap (λ k. decimal k ∷ decimal (end_from 8 0 k) ∷ []) same ∙ sym b.row_is in
        once i j one got_one (got_two ∙ ap Some (sym rows_same))

    pub rows_counted : length rows ≡ n
    unfolding numbers
    rows_counted =
        let most = length_le (map first_of rows) (numbers n some few) firsts_differ (λ t there.
        let (row, among, is) = contains_mapped first_of rows t there in
        let a = answer_numbered row ((are row).0 among) in
        let shown : decimal a.i ≡ t = sym (ap first_of a.row_is) ∙ is in
        let low = a.low in
        let e : 0 + a.i ≡ a.i = omega arith in
        subst (Contains (numbers n some few)) shown (contains_map decimal (range_with_len 0 n) a.i (contains_got (range_with_len 0 n) a.i a.i (range_got 0 n a.i low ∙ ap Some e)))) in
        let least = length_le (numbers n some few) (map first_of rows) (numbers_differ n some few) (λ t there.
        let (m, ranged, is) = contains_mapped decimal (range_with_len 0 n) t there in
        let low = (range_bounds 0 n m ranged).1 in
        let (w, answer) = numbered_answer m (omega (arith, low)) in
        subst (Contains (map first_of rows)) is (contains_map first_of rows (decimal m ∷ w ∷ []) ((are (decimal m ∷ w ∷ [])).1 answer))) in
        let a = length-map rows first_of in
        let b = length-map (range_with_len 0 n) decimal in
        let d = length-range_with_len 0 n in
        omega (arith, most, least, a, b, d)

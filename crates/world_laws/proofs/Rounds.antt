-- The requests of a branch on the instance of a world: one, and then one for each number in each step.
use Rattle.std.proofs.Common.{◌≡◌, ◌+◌, ◌-◌, ◌*◌, ◌<◌, ◌≤◌, ℕ, zero, suc, List, [], ◌∷◌, ◌++◌, length, slice_get, Some, refl, sym, ap, subst, ◌∙◌, ⊎_elim, append_assoc, arith}
use Rattle.std.specs.Prelude.{Contains, map, slice_index_or}
use Rattle.std.specs.List.{AllZip, range_with_len}
use Rattle.std.specs.Fmt.{decimal}
use Rattle.std.proofs.lemmas.List.{append-nil, length-append, length-map}
use Rattle.std.proofs.lemmas.Option.{slice_get_within}
use Rattle.lists.proofs.Members.{contains_got, contains_here, contains_there, contains_map, contains_mapped, head_is, got_below, got_before, map_got, got_mapped, some_injective}
use Rattle.lists.proofs.Places.{got_member}
use Rattle.meaning.specs.declared.types.Method.{Method}
use Rattle.meaning.specs.declared.types.Step.{Step}
use Rattle.meaning.specs.declared.types.Place.{Place}
use Rattle.meaning.specs.declared.types.Place.TheVariants.{Const, Col, New}
use Rattle.meaning.specs.declared.types.Out.{Out}
use Rattle.meaning.specs.declared.types.Request.{Request}
use Rattle.meaning.specs.Values.{Value, Row}
use Rattle.meaning.specs.Plans.{IsMethod, IsLawfulStep, AreLawfulFrom}
use Rattle.meaning.specs.Rows.{Joins, LeadsTo}
use Rattle.std.specs.declared.cmp.Ordering.TheVariants.{Less}
use Rattle.std.proofs.lemmas.Bool.{cases_lt}
use Rattle.access_schema.specs.Names.{AllDiffer}
use Rattle.access_schema.proofs.Texts.{length_le}
use Rattle.std.proofs.lemmas.List.FromFn.{length-range_with_len}
use Rattle.lists.proofs.Orders.{rows_total}
use Rattle.meaning.specs.Requests.{rows_cmp, input_value, Wants, IsRound, AreStepsRequests}
use Rattle.world_laws.specs.Plan.{world}
use Rattle.world_laws.specs.Instance.{world_facts}
use Rattle.world_laws.proofs.Paths.{inputs_at, own}
use Rattle.world_laws.proofs.Counting.{AreLater, named_one}
use Rattle.world_laws.proofs.Chases.{range_bounds, range_got}
use Rattle.world_laws.proofs.Columns.{numbers, numbers_differ, number_once, row_at, IsAt, leads_split, turn_got, col_got, IsLaterShape, inputs_later, shape_of, step_at, IsWhole}

module _ (n : ℕ) (some : 1 ≤ n) (few : n ≤ 10000) where
  -- rows only grow
  joins_more : (places : List Place) (values row next : Row) → Joins places values row next → (more : Row) × (next ≡ row ++ more)
  joins_more [] [] row next joins = ([], joins ∙ sym (append-nil row))
  joins_more (Const c ∷ places) (v ∷ values) row next joins = joins_more places values row next joins.1
  joins_more (Col c ∷ places) (v ∷ values) row next joins = joins_more places values row next joins.1
  joins_more (New ∷ places) (v ∷ values) row next joins =
      let (more, is) = joins_more places values (row ++ v ∷ []) next joins in
      (v ∷ more, is ∙ append_assoc row (v ∷ []) more)
  joins_more [] (v ∷ values) row next joins = absurd joins
  joins_more (Const c ∷ places) [] row next joins = absurd joins
  joins_more (Col c ∷ places) [] row next joins = absurd joins
  joins_more (New ∷ places) [] row next joins = absurd joins

  leads_more : (steps : List Step) (row last : Row) → LeadsTo world (world_facts n) steps row last → (more : Row) × (last ≡ row ++ more)
  leads_more [] row last all = ([], all ∙ sym (append-nil row))
  leads_more (step ∷ steps) row last (next, taken, all) =
      let (more, is) = joins_more step.places taken.fact.row row next taken.joins in
      let (others, at) = leads_more steps next last all in
      (more ++ others, at ∙ ap (λ (r : Row). r ++ others) is ∙ append_assoc row more others)

  -- each number has its partial row
  present : (before steps : List Step) (cols : List (ℕ → ℕ)) → IsAt n some few before cols → IsWhole n some few (before ++ steps) → (t : ℕ) → t < n → LeadsTo world (world_facts n) before [] (row_at n some few cols t)
  present before steps cols is_at whole t low =
      let (last, all, begins) = whole t low in
      let (middle, first, rest) = leads_split n some few before steps [] last all in
      let (i, high, row_is) = is_at.rows middle first in
      let (more, is) = leads_more steps middle last rest in
      let own_first : slice_get (row_at n some few cols i) 0 ≡ Some (decimal i) = map_got (λ (g : ℕ → ℕ). decimal (g i)) cols 0 (λ i. i) is_at.first in
      let middle_first : slice_get middle 0 ≡ Some (decimal i) = ap (λ (r : Row). slice_get r 0) row_is ∙ own_first in
      let last_first : slice_get last 0 ≡ Some (decimal i) = ap (λ (r : Row). slice_get r 0) is ∙ got_before middle more 0 (slice_get_within middle 0 (decimal i) middle_first) ∙ middle_first in
      let same : t ≡ i = number_once n some few t i low high (some_injective (decimal t) (decimal i) (sym begins ∙ last_first)) in
      subst (LeadsTo world (world_facts n) before []) (row_is ∙ ap (row_at n some few cols) (sym same)) first

  module _ (before : List Step) (step : Step) (requests : List Request) (round : IsRound world (world_facts n) before step requests) where
    -- the requests rise
    rises : (d i : ℕ) (one two : Request) → slice_get requests i ≡ Some one → slice_get requests (i + suc d) ≡ Some two → rows_cmp one.values two.values ≡ Less
    rises zero i one two at_one at_two = round.ascending i one two at_one (let e : i + suc zero ≡ i + 1 = omega arith in subst (λ j. slice_get requests j ≡ Some two) e at_two)
    rises (suc d) i one two at_one at_two =
        let low = slice_get_within requests (i + suc (suc d)) two at_two in
        let (middle, at) = got_below requests (i + suc d) (omega (arith, low)) in
        let next : i + suc d + 1 ≡ i + suc (suc d) = omega arith in
        rows_total.trans one.values middle.values two.values (rises d i one middle at_one at) (round.ascending (i + suc d) middle two at (subst (λ j. slice_get requests j ≡ Some two) (sym next) at_two))

    apart_below : (i j : ℕ) (one two : Request) → i < j → slice_get requests i ≡ Some one → slice_get requests j ≡ Some two → one.values ≡ two.values → ⊥
    apart_below i j one two less at_one at_two same =
        let place : j ≡ i + suc (j - i - 1) = omega (arith, less) in
        let below : rows_cmp one.values two.values ≡ Less = rises (j - i - 1) i one two at_one (subst (λ k. slice_get requests k ≡ Some two) place at_two) in
        let itself : rows_cmp two.values two.values ≡ Less = subst (λ (v : Row). rows_cmp v two.values ≡ Less) same below in
        let back = rows_total.antisymm two.values two.values in
        cc

    values_once : (i j : ℕ) (one two : Request) → slice_get requests i ≡ Some one → slice_get requests j ≡ Some two → one.values ≡ two.values → i ≡ j
    values_once i j one two at_one at_two same = ⊎_elim
        (λ (less : i < j). absurd (apart_below i j one two less at_one at_two same))
        (λ (high : j ≤ i). ⊎_elim (λ (less : j < i). absurd (apart_below j i two one less at_two at_one (sym same))) (λ (low : i ≤ j). omega (arith, high, low)) (cases_lt j i))
        (cases_lt i j)

  -- a step without an input makes one request
  pub round_one : (step : Step) (method : Method) (requests : List Request) → IsMethod world step.method method → method.rel ≡ 0 → IsRound world (world_facts n) [] step requests → length requests ≡ 1
  round_one step method requests named nought round = go requests refl (got_member requests asked ((round.exactly asked).1 wanted))
    where
      asked : Request
      asked = record { rel = 0; positions = []; values = [] }

      wanted : Wants world (world_facts n) [] step (record { rel = 0; positions = []; values = [] })
      wanted = record { row = []; method = method; leads = refl; named = named; of_relation = sym nought; positions = sym ((own method named.0).inputs ∙ ap inputs_at nought); values = tt }

      no_values : {X : Type 0} (P : ℕ → X → Type 0) (positions : List ℕ) (values : List X) → positions ≡ [] → AllZip P positions values → values ≡ []
      no_values P [] [] is all = refl
      no_values P [] (v ∷ values) is all = absurd all
      no_values P (p ∷ positions) values is all = absurd cc

      empty : (request : Request) → Contains requests request → request.values ≡ []
      empty request there =
          let wants = (round.exactly request).0 there in
          let rel : wants.method.rel ≡ 0 = named_one step.method wants.method method wants.named named ∙ nought in
          no_values (λ p value. input_value wants.row (slice_get step.places p) ≡ Some value) request.positions request.values (wants.positions ∙ (own wants.method wants.named.0).inputs ∙ ap inputs_at rel) wants.values

      go : (list : List Request) → requests ≡ list → (k : ℕ) × (slice_get requests k ≡ Some asked) → length list ≡ 1
      go [] is (k, at) = absurd (let e = sym (ap (λ (l : List Request). slice_get l k) is) ∙ at in cc)
      go (one ∷ []) is there = refl
      go (one ∷ two ∷ list) is there =
          let at_one : slice_get requests 0 ≡ Some one = ap (λ (l : List Request). slice_get l 0) is in
          let at_two : slice_get requests 1 ≡ Some two = ap (λ (l : List Request). slice_get l 1) is in
          let same = values_once [] step requests round 0 1 one two at_one at_two (empty one (contains_got requests 0 one at_one) ∙ sym (empty two (contains_got requests 1 two at_two))) in
          absurd (omega (arith, same))

  -- a later step makes one request for each number
  module _ (before steps : List Step) (cols : List (ℕ → ℕ)) (step : Step) (method : Method) (requests : List Request) (is_at : IsAt n some few before cols) (whole : IsWhole n some few (before ++ steps)) (lawful : IsLawfulStep world [] (length cols) step method) (later : 1 ≤ method.rel)
      (round : IsRound world (world_facts n) before step requests) (c : ℕ) (col : ℕ → ℕ) (at : slice_get cols c ≡ Some col) (begins : slice_get step.places 0 ≡ Some (Col c)) where
    one_value : {X : Type 0} (P : ℕ → X → Type 0) (positions : List ℕ) (values : List X) → positions ≡ 0 ∷ [] → AllZip P positions values → (v : X) × (values ≡ v ∷ []) × P 0 v
    one_value P [] values is all = absurd cc
    one_value P (p ∷ positions) [] is all = absurd all
    one_value P (p ∷ []) (v ∷ []) is all = (v, refl, subst (λ q. P q v) (head_is p 0 [] [] is) all.0)
    one_value P (p ∷ []) (v ∷ w ∷ values) is all = absurd all.1
    one_value P (p ∷ q ∷ positions) values is all = absurd (let e = ap length is in omega (arith, e))

    -- each request has one of the numbers
    asked_is : (request : Request) → Contains requests request → (m : ℕ) × (m < n) × (request.values ≡ decimal m ∷ [])
    asked_is request there =
        let wants = (round.exactly request).0 there in
        let rel : wants.method.rel ≡ method.rel = named_one step.method wants.method method wants.named lawful.named in
        let inputs : wants.method.inputs ≡ 0 ∷ [] = inputs_later n some few wants.method (own wants.method wants.named.0) (omega (arith, rel, later)) in
        let (v, values_are, got) = one_value (λ p value. input_value wants.row (slice_get step.places p) ≡ Some value) request.positions request.values (wants.positions ∙ inputs) wants.values in
        let (i, low, row_is) = is_at.rows wants.row wants.leads in
        let read : slice_get (row_at n some few cols i) c ≡ Some v = sym (ap (λ (r : Row). slice_get r c) row_is) ∙ sym (ap (input_value wants.row) begins) ∙ got in
        (col i, (turn_got n some few cols c col is_at.turns at).below i low, values_are ∙ ap (λ (w : Value). w ∷ []) (col_got n some few cols c i col v at read))

    request_of : ℕ → Request
    request_of m = record { rel = method.rel; positions = method.inputs; values = decimal m ∷ [] }

    -- each number has a request
    all_asked : (m : ℕ) → m < n → Contains requests (request_of m)
    unfolding request_of
    all_asked m low =
        let (i, below, is) = (turn_got n some few cols c col is_at.turns at).onto m low in
        let inputs = inputs_later n some few method (own method lawful.named.0) later in
        let read : input_value (row_at n some few cols i) (slice_get step.places 0) ≡ Some (decimal m) = ap (input_value (row_at n some few cols i)) begins ∙ map_got (λ (g : ℕ → ℕ). decimal (g i)) cols c col at ∙ ap (λ j. Some (decimal j)) is in
        (round.exactly (request_of m)).1 (record {
          row = row_at n some few cols i;
          method = method;
          leads = present before steps cols is_at whole i below;
          named = lawful.named;
          of_relation = refl;
          positions = refl;
          values = subst (λ (positions : List ℕ). AllZip (λ p value. input_value (row_at n some few cols i) (slice_get step.places p) ≡ Some value) positions (decimal m ∷ [])) (sym inputs) (read, tt);
        })

    abbrev text : Request → Value
    text request = slice_index_or request.values 0 []

    text_only : (request : Request) → Contains requests request → request.values ≡ text request ∷ []
    text_only request there = let (m, low, is) = asked_is request there in is ∙ ap (λ (v : Value). v ∷ []) (sym (ap (λ (r : Row). slice_index_or r 0 []) is))

    texts_differ : AllDiffer (map text requests)
    texts_differ i j member at_i at_j =
        let (one, got_one, is_one) = got_mapped text requests i member at_i in
        let (two, got_two, is_two) = got_mapped text requests j member at_j in
        values_once before step requests round i j one two got_one got_two
        (text_only one (contains_got requests i one got_one) ∙ ap (λ (v : Value). v ∷ []) (is_one ∙ sym is_two) ∙ sym (text_only two (contains_got requests j two got_two)))

    round_long : length requests ≡ n
    unfolding numbers request_of
    round_long =
        let most = length_le (map text requests) (numbers n some few) texts_differ (λ t there.
        let (request, among, is) = contains_mapped text requests t there in
        let (m, low, values_are) = asked_is request among in
        let shown : decimal m ≡ t = sym (ap (λ (r : Row). slice_index_or r 0 []) values_are) ∙ is in
        let e : 0 + m ≡ m = omega arith in
        subst (Contains (numbers n some few)) shown (contains_map decimal (range_with_len 0 n) m (contains_got (range_with_len 0 n) m m (range_got 0 n m low ∙ ap Some e)))) in
        let least = length_le (numbers n some few) (map text requests) (numbers_differ n some few) (λ t there.
        let (m, ranged, is) = contains_mapped decimal (range_with_len 0 n) t there in
        let low = (range_bounds 0 n m ranged).1 in
        subst (Contains (map text requests)) is (contains_map text requests (request_of m) (all_asked m (omega (arith, low))))) in
        let a = length-map requests text in
        let b = length-map (range_with_len 0 n) decimal in
        let d = length-range_with_len 0 n in
        omega (arith, most, least, a, b, d)

  -- a later step begins with a column
  begins_with : (columns : ℕ) (places : List Place) (shape : IsLaterShape n some few columns places) → slice_get places 0 ≡ Some (Col shape.c)
  begins_with columns places shape = ⊎_elim (λ new. ap (λ (ps : List Place). slice_get ps 0) new) (λ old. ap (λ (ps : List Place). slice_get ps 0) old.1) shape.second

  -- What is so after some steps, whose requests are n for each.
  pub record IsGone (steps tail before : List Step) (output : List Out) (requests : List Request) : Type 0 where
    pub cols : List (ℕ → ℕ)
    pub at : IsAt n some few (before ++ steps) cols
    pub lawful : AreLawfulFrom world [] (length cols) tail output
    pub long : length requests ≡ length steps * n

  -- a later step makes n requests
  pub counted_one : (before tail : List Step) (cols : List (ℕ → ℕ)) (step : Step) (method : Method) (requests : List Request) → IsAt n some few before cols → IsWhole n some few (before ++ step ∷ tail) → IsLawfulStep world [] (length cols) step method → 1 ≤ method.rel →
      IsRound world (world_facts n) before step requests → length requests ≡ n
  counted_one before tail cols step method requests is_at whole lawful small round =
      let shape = shape_of n some few (length cols) step method lawful small in
      let (col, at) = got_below cols shape.c shape.low in
      round_long before (step ∷ tail) cols step method requests is_at whole lawful small round shape.c col at (begins_with (length cols) step.places shape)

  pub counted : (steps tail before : List Step) (cols : List (ℕ → ℕ)) (output : List Out) (requests : List Request) → IsAt n some few before cols → IsWhole n some few (before ++ (steps ++ tail)) → AreLawfulFrom world [] (length cols) (steps ++ tail) output → AreLater (steps ++ tail) →
      AreStepsRequests world (world_facts n) before steps requests → IsGone steps tail before output requests
  counted [] tail before cols output requests is_at whole lawful later are = record {
    cols = cols;
    at = subst (λ (steps : List Step). IsAt n some few steps cols) (sym (append-nil before)) is_at;
    lawful = lawful;
    long = ap length are ∙ (let e : 0 ≡ 0 * n = omega arith in e);
  }
  counted (step ∷ steps) tail before cols output requests is_at whole (method, own_lawful, more) later (now, rest, is, round, are) =
      let small = later step method (contains_here step (steps ++ tail)) own_lawful.named in
      let next = step_at n some few before cols is_at step method own_lawful small in
      let here = counted_one before (steps ++ tail) cols step method now is_at whole own_lawful small round in
      let behind = counted steps tail (before ++ step ∷ []) next.after output rest next.at (subst (IsWhole n some few) (sym (append_assoc before (step ∷ []) (steps ++ tail))) whole) (subst (λ columns. AreLawfulFrom world [] columns (steps ++ tail) output) (sym next.long) more) (λ other its there named. later other its (contains_there step (steps ++ tail) other there) named) are in
      let long = ap length is ∙ length-append now rest in
      let times : suc (length steps) * n ≡ n + length steps * n = grind arith in
      let others = behind.long in
      record {
        cols = behind.cols;
        at = subst (λ (all : List Step). IsAt n some few all behind.cols) (append_assoc before (step ∷ []) steps) behind.at;
        lawful = behind.lawful;
        long = omega (arith, here, others, long, times);
      }

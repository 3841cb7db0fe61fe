-- What is found of the answers to requests is what the requests receive.
use Rattle.std.proofs.Common.{◌≡◌, ◌↔◌, ◌∙◌, ℕ, List, [], ◌++◌, length, map, Option, None, Some, sym, ap, subst, ⊎_elim, arith}
use Rattle.std.specs.Prelude.{Contains, MatchOption, flat_map, slice_get}
use Rattle.std.proofs.lemmas.List.{length-map}
use Rattle.std.proofs.lemmas.List.Elements.{Contains-append_cases, Contains-append_left, Contains-append_right}
use Rattle.std.proofs.lemmas.Option.{slice_get_within}
use Rattle.lists.proofs.Members.{contains_none, contains_got, contains_mapped, contains_joined, joined_from, got_below, got_mapped}
use Rattle.lists.proofs.Places.{got_member}
use Rattle.meaning.specs.declared.types.Fact.{Fact}
use Rattle.meaning.specs.declared.types.Request.{Request}
use Rattle.meaning.specs.declared.types.SchemaParts.{SchemaParts}
use Rattle.meaning.specs.Crawls.{IsPicked, IsReceived}
use Rattle.meaning.specs.Matching.{itself}
use Rattle.meaning.specs.Sorts.{AreSorted}
use Rattle.meaning.specs.Values.{Row}
use Rattle.source_trait.specs.Asking.{RowList, pick}
use Rattle.bad_numbers.specs.declared.found.BadNumber.{BadNumber}
use Rattle.bad_numbers.specs.Numbers.{FindsBad, ReceiveIntegers, ReceiveBad, ReceiveFirstBad}
use Rattle.bad_numbers.specs.Found.{of_relation, FindsAmong}
use Rattle.bad_numbers.proofs.Among.{same_found, rows_found}
use Rattle.bad_numbers.proofs.Picking.{pick_is}

-- ---- requests that receive integers

pub integers_none : (schema : SchemaParts) (facts : List Fact) → ReceiveIntegers schema facts []
integers_none schema facts fact (request, among, picked) = absurd (contains_none request among)

pub integers_both : (schema : SchemaParts) (facts : List Fact) (xs ys : List Request)
    → ReceiveIntegers schema facts (xs ++ ys) ↔ (ReceiveIntegers schema facts xs × ReceiveIntegers schema facts ys)
integers_both schema facts xs ys = (
  (λ all. (
    (λ fact (request, among, picked). all fact (request, Contains-append_left xs ys request among, picked)),
    (λ fact (request, among, picked). all fact (request, Contains-append_right xs ys request among, picked)),
  )),
  (λ (left, right) fact (request, among, picked). ⊎_elim (λ c. left fact (request, c, picked)) (λ c. right fact (request, c, picked)) (Contains-append_cases xs ys request among)),
)

-- of facts with integers, requests receive integers, and no bad number
module _ (schema : SchemaParts) (facts : List Fact) (sorted : (fact : Fact) → Contains facts fact → AreSorted itself schema fact.rel fact.row) where
  pub integers_received : (requests : List Request) → ReceiveIntegers schema facts requests
  integers_received requests fact (request, among, picked) = sorted fact picked.holds

  pub none_received : (requests : List Request) (rel column : ℕ) → ReceiveBad schema facts requests rel column → ⊥
  none_received requests rel column (fact, received, of, (value, holds, got, other)) = other (integers_received requests fact received column value holds got)

-- ---- findings of what requests receive

-- what is found of just the facts that the requests receive
pub found_among : (schema : SchemaParts) (facts : List Fact) (requests : List Request) (IsOne : Fact → Type 0) (found : Option BadNumber)
    → ((fact : Fact) → IsOne fact ↔ IsReceived facts requests fact) → FindsAmong schema IsOne found
    → MatchOption found (ReceiveIntegers schema facts requests) (λ bad. ReceiveFirstBad schema facts requests bad.rel bad.column)
found_among schema facts requests IsOne None same found = same_found schema IsOne (IsReceived facts requests) None same found
found_among schema facts requests IsOne (Some one) same found =
    let its = same_found schema IsOne (IsReceived facts requests) (Some one) same found in
    record { bad = its.bad; first = its.first }

-- what is found of the rows of the one relation of which the requests are
pub found_of_rows : (schema : SchemaParts) (facts : List Fact) (requests : List Request) (rel : ℕ) (rows : List Row) (found : Option ℕ)
    → ((request : Request) → Contains requests request → request.rel ≡ rel)
    → ((row : Row) → Contains rows row ↔ IsReceived facts requests (record { rel = rel; row = row }))
    → FindsBad schema rel rows found → MatchOption found (ReceiveIntegers schema facts requests) (ReceiveFirstBad schema facts requests rel)
found_of_rows schema facts requests rel rows found of are finds = by found
    (found_among schema facts requests (λ fact. (rel ≡ fact.rel) × Contains rows fact.row) (of_relation rel found) same (rows_found schema rel rows found finds))
  where
    same : (fact : Fact) → ((rel ≡ fact.rel) × Contains rows fact.row) ↔ IsReceived facts requests fact
    same fact = (
      (λ (e, c). subst (λ (f : Fact). IsReceived facts requests f) (λ i. record { rel = e i; row = fact.row }) ((are fact.row).0 c)),
      (λ (request, among, picked).
          let e : rel ≡ fact.rel = sym (of request among) ∙ sym picked.of_relation in
          (e, (are fact.row).1 (subst (λ (f : Fact). IsReceived facts requests f) (λ i. record { rel = sym e i; row = fact.row }) (request, among, picked)))),
    )

    by : (o : Option ℕ) → MatchOption (of_relation rel o) (ReceiveIntegers schema facts requests) (λ bad. ReceiveFirstBad schema facts requests bad.rel bad.column)
        → MatchOption o (ReceiveIntegers schema facts requests) (ReceiveFirstBad schema facts requests rel)
    by None is = is
    by (Some column) is = is

-- There are as many answers as requests, which have a value for each position. Each answer has just the rows of the facts that its request
-- picks.
pub record AreAnswers (facts : List Fact) (requests : List Request) (answers : List RowList) : Type 0 where
  pub len : length answers ≡ length requests
  pub each : (k : ℕ) (request : Request) (rows : RowList) → slice_get requests k ≡ Some request → slice_get answers k ≡ Some rows
      → (row : Row) → Contains rows row ↔ Contains (pick facts request.rel request.positions request.values) row
  pub widths : (request : Request) → Contains requests request → length request.values ≡ length request.positions

-- the rows of the answers to requests of one relation are just those that the requests receive
pub answers_received : (facts : List Fact) (requests : List Request) (answers : List RowList) (rel : ℕ) → AreAnswers facts requests answers
    → ((request : Request) → Contains requests request → request.rel ≡ rel)
    → (row : Row) → Contains (flat_map (λ (rows : RowList). rows) answers) row ↔ IsReceived facts requests (record { rel = rel; row = row })
answers_received facts requests answers rel are of row = (
  (λ c.
      let (rows, among, has) = joined_from (λ (r : RowList). r) answers row c in
      let (k, at) = got_member answers rows among in
      let low = slice_get_within answers k rows at in
      let (request, its) = got_below requests k (omega (arith, low, are.len)) in
      let asked = contains_got requests k request its in
      let picked = (pick_is facts request (are.widths request asked) row).0 ((are.each k request rows its at row).0 has) in
      (request, asked, subst (λ (r : ℕ). IsPicked facts request (record { rel = r; row = row })) (of request asked) picked)),
  (λ (request, asked, picked).
      let (k, its) = got_member requests request asked in
      let low = slice_get_within requests k request its in
      let (rows, at) = got_below answers k (omega (arith, low, are.len)) in
      let here = subst (λ (r : ℕ). IsPicked facts request (record { rel = r; row = row })) (sym (of request asked)) picked in
      contains_joined (λ (r : RowList). r) answers rows row (contains_got answers k rows at)
      ((are.each k request rows its at row).1 ((pick_is facts request (are.widths request asked) row).1 here))),
)

-- what is found of all answers to requests of one relation
pub found_of_answers : (schema : SchemaParts) (facts : List Fact) (requests : List Request) (rel : ℕ) (answers : List RowList) (found : Option ℕ)
    → AreAnswers facts requests answers → ((request : Request) → Contains requests request → request.rel ≡ rel)
    → FindsBad schema rel (flat_map (λ (rows : RowList). rows) answers) found
    → MatchOption found (ReceiveIntegers schema facts requests) (ReceiveFirstBad schema facts requests rel)
found_of_answers schema facts requests rel answers found are of finds =
    found_of_rows schema facts requests rel (flat_map (λ (rows : RowList). rows) answers) found of (answers_received facts requests answers rel are of) finds

-- what is found of all answers to requests that differ in their values alone
pub found_of_method : (schema : SchemaParts) (facts : List Fact) (rel : ℕ) (positions : List ℕ) (requests : RowList) (answers : List RowList) (found : Option ℕ)
    → length answers ≡ length requests
    → ((k : ℕ) (values : List (List ℕ)) (rows : RowList) → slice_get requests k ≡ Some values → slice_get answers k ≡ Some rows
    → (row : List (List ℕ)) → Contains rows row ↔ Contains (pick facts rel positions values) row)
    → ((values : List (List ℕ)) → Contains requests values → length values ≡ length positions)
    → FindsBad schema rel (flat_map (λ (rows : RowList). rows) answers) found
    → MatchOption found (ReceiveIntegers schema facts (map (λ v. record { rel = rel; positions = positions; values = v }) requests))
    (ReceiveFirstBad schema facts (map (λ v. record { rel = rel; positions = positions; values = v }) requests) rel)
found_of_method schema facts rel positions requests answers found len each widths finds =
    found_of_answers schema facts (map make requests) rel answers found
    (record {
      len = len ∙ sym (length-map requests make);
      each = λ k request rows at its row.
          let (values, here, e) = got_mapped make requests k request at in
          subst (λ (r : Request). Contains rows row ↔ Contains (pick facts r.rel r.positions r.values) row) e (each k values rows here its row);
      widths = λ request c.
          let (values, among, e) = contains_mapped make requests request c in
          subst (λ (r : Request). length r.values ≡ length r.positions) e (widths values among);
    })
    (λ request c. let (values, among, e) = contains_mapped make requests request c in sym (ap (λ (r : Request). r.rel) e)) finds
  where
    make : List (List ℕ) → Request
    make v = record { rel = rel; positions = positions; values = v }

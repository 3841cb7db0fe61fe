-- Answers that are kept, and those of a plan's numbers among them.
use Rattle.std.proofs.Common.{◌≡◌, ◌∙◌, ℕ, List, [], length, get_or, Some, sym, ap, arith}
use Rattle.std.specs.Prelude.{slice_get}
use Rattle.std.proofs.lemmas.List.{length-map}
use Rattle.std.proofs.lemmas.Option.{slice_get-get_or, slice_get_within}
use Rattle.lists.proofs.Members.{contains_got, got_mapped, map_got, some_injective}
use Rattle.meaning.specs.declared.types.Fact.{Fact}
use Rattle.meaning.specs.declared.types.Method.{Method}
use Rattle.meaning.specs.declared.types.Request.{Request}
use Rattle.source_trait.specs.Asking.{RowList}
use Rattle.middleware.specs.LaneAsking.{AnswersFrom}
use Rattle.middleware.specs.Rounds.{requests_of}
use Rattle.shared_rounds.specs.Books.{AreNumbers}
use Rattle.plan_batches.specs.Kept.{answers_at, AreAnswered}
use Rattle.plan_batches.proofs.Numbering.{number_at, numbers_long}

pub answers_from : (facts : List Fact) (method : Method) (list : RowList) (asked : List Request) (kept : List RowList) (numbers : List ℕ)
    → length asked ≡ length kept → AreNumbers asked (requests_of method.rel method.inputs list) numbers
    → AreAnswered facts asked kept (requests_of method.rel method.inputs list) → AnswersFrom facts method list (answers_at kept numbers)
answers_from facts method list asked kept numbers same are answered = record {
  len = length-map numbers (λ n. get_or kept n []) ∙ numbers_long asked (requests_of method.rel method.inputs list) numbers are
      ∙ length-map list (λ (v : List (List ℕ)). record { rel = method.rel; positions = method.inputs; values = v });
  each = λ k values rows at its row.
      let request : Request = record { rel = method.rel; positions = method.inputs; values = values } in
      let here : slice_get (requests_of method.rel method.inputs list) k ≡ Some request =
      map_got (λ (v : List (List ℕ)). record { rel = method.rel; positions = method.inputs; values = v }) list k values at in
      let (n, n_at, asked_at) = number_at asked (requests_of method.rel method.inputs list) numbers are k request here in
      let (m, m_at, is) = got_mapped (λ n. get_or kept n []) numbers k rows its in
      let one : m ≡ n = some_injective m n (sym m_at ∙ n_at) in
      let less = slice_get_within asked n request asked_at in
      let found : slice_get kept n ≡ Some (get_or kept n []) = slice_get-get_or kept n [] (omega (arith, less, same)) in
      let kept_at : slice_get kept n ≡ Some rows = found ∙ ap Some (ap (λ i. get_or kept i []) (sym one) ∙ is) in
      answered n request rows (contains_got (requests_of method.rel method.inputs list) k request here) asked_at kept_at row;
}

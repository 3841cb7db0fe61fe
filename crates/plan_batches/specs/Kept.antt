-- Answers that are kept, and picked by number.
use Rattle.std.specs.Prelude.{◌≡◌, ◌↔◌, ℕ, List, [], Contains, Some, map, slice_get, slice_index_or}
use Rattle.meaning.specs.declared.types.Fact.{Fact}
use Rattle.meaning.specs.declared.types.Request.{Request}
use Rattle.source_trait.specs.Asking.{RowList, pick}

-- the answers of these numbers
abbrev pub answers_at : List RowList → List ℕ → List RowList
answers_at kept numbers = map (λ number. slice_index_or kept number []) numbers

-- On an instance: the answer to each of these requests has just the rows of the facts that it asks for, where all requests that were asked
-- and their answers stand in order.
abbrev pub AreAnswered : List Fact → List Request → List RowList → List Request → Type 0
AreAnswered instance asked kept requests = (k : ℕ) (request : Request) (rows : RowList) → Contains requests request
    → slice_get asked k ≡ Some request → slice_get kept k ≡ Some rows
    → (row : List (List ℕ)) → Contains rows row ↔ Contains (pick instance request.rel request.positions request.values) row

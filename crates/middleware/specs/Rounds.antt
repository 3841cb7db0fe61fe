-- The requests of one round, and what asking them does.
use Rattle.std.specs.Prelude.{◌≡◌, ◌≤◌, ◌↔◌, ℕ, List, ◌++◌, length, map, flat_map, take, Contains, Option, Some, option_map, slice_get, IfOk, IfSome, Result, Ok, Err}
use Rattle.std.specs.List.Sorted.{IsStrictlySortedBy}
use Rattle.meaning.specs.declared.types.Fact.{Fact}
use Rattle.meaning.specs.declared.types.Method.{Method}
use Rattle.meaning.specs.declared.types.Place.{Place}
use Rattle.meaning.specs.declared.types.Request.{Request}
use Rattle.source_trait.specs.Asking.{RowList, Seen, FaultsGoOn, Attached, CanAsk, CallGives, pick}
use Rattle.source_trait.specs.Lanes.{StepsOn}
use Rattle.source_trait.specs.declared.source.CallFault.{CallFault}
use Rattle.source_trait.specs.declared.source.CallFault.TheVariants as call
use Rattle.source_trait.specs.declared.lanes.Kind.{Kind}
use Rattle.row_text.specs.RowText.{row_cmp}
use Rattle.middleware.specs.Joining.{grown, input_row_of}

-- a relation, positions and each list of values
abbrev pub requests_of : ℕ → List ℕ → RowList → List Request
requests_of rel positions values = map (λ v. record { rel = rel; positions = positions; values = v }) values

-- the distinct input rows of the partial rows, ascending
pub record IsWanted (places : List Place) (inputs : List ℕ) (rows list : RowList) : Type 0 where
  pub ascends : IsStrictlySortedBy row_cmp list
  pub same : (values : List (List ℕ)) → Contains list values ↔ Contains (map (input_row_of places inputs) rows) values

-- A source was asked these requests in order, up to the one that was refused. The answers are just what it holds.
pub record AnswersAll (rel : ℕ) (positions : List ℕ) (requests : RowList) (result : Result (List RowList) CallFault) (old new : Seen) : Type 0 where
  pub count : ℕ
  pub within : count ≤ length requests
  pub asked : new.asked ≡ option_map (λ list. list ++ requests_of rel positions (take count requests)) old.asked
  pub whole : IfOk result (λ answers. count ≡ length requests)
  pub answers : IfOk result (λ answers. IfSome old.held (λ facts. answers ≡ map (pick facts rel positions) requests))
  pub held : new.held ≡ old.held
  pub attached : new.attached ≡ old.attached
  pub offers : new.offer ≡ old.offer
  pub passes : new.passes ≡ old.passes
  pub faults : FaultsGoOn old new

-- The requests before one were answered in order by the source of the kind, and then its call failed. So it is the last that was asked.
pub record CallBreaks {S : Type 0} (seen : S → Seen) (rel : ℕ) (positions : List ℕ) (requests : RowList) (kind : List ℕ)
    (old new : List (Kind S)) : Type 0 where
  pub n : ℕ
  pub values : List (List ℕ)
  pub at : slice_get requests n ≡ Some values
  pub answers : List RowList
  pub middle : List (Kind S)
  pub answered : StepsOn old middle kind (λ s t. AnswersAll rel positions (take n requests) (Ok answers) (seen s) (seen t))
  pub failed : StepsOn middle new kind (λ s t. CallGives (seen s) (seen t) rel positions values (Err call.Failed))

-- each request of the method may be asked
abbrev pub CanAskAll : Option Attached → Method → Type 0
CanAskAll attached method = (values : List (List ℕ)) → length values ≡ length method.inputs → CanAsk attached method.inputs values

-- the next partial rows: each one grown by the rows of the facts that its request asks for
abbrev pub next_rows : List Place → Method → List Fact → RowList → RowList
next_rows places method facts rows = flat_map (λ row. grown places (pick facts method.rel method.inputs (input_row_of places method.inputs row)) row) rows

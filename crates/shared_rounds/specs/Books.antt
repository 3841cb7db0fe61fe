-- A book of requests: what was asked, each request once, and by which number a request is found there.
use Rattle.std.specs.Prelude.{◌≡◌, ◌<◌, ◌⊎◌, ◌&&◌, ◌++◌, ◌∷◌, [], ℕ, List, Bool, false, Contains, MatchOption, Option, None, Some, map, nat_eq, slice_get, if◌then◌else◌, length}
use Rattle.std.specs.BTreeMap.{get, is_at}
use Rattle.std.specs.Cmp.Lexicographic.{pointwise}
use Rattle.meaning.specs.declared.types.Request.{Request}
use Rattle.row_text.specs.RowText.{row_cmp}
use Rattle.source_trait.specs.declared.work.Ask.{Ask}
use Rattle.shared_rounds.specs.SharedRounds.{Once, to_ask}
use Rattle.shared_rounds.specs.declared.book.Shelf.{Shelf}
use Rattle.shared_rounds.specs.declared.book.Book.{Book}

abbrev pub asked_in : List Ask → List Request
asked_in asks = map (λ ask. ask.request) asks

-- a relation, positions and each list of values
abbrev pub requests_with : ℕ → List ℕ → List (List (List ℕ)) → List Request
requests_with rel positions list = map (λ values. record { rel = rel; positions = positions; values = values }) list

-- what is asked behind some requests, with these
abbrev pub with_asked : List Request → List Request → List Request
with_asked asked requests = asked ++ to_ask Once asked requests

-- the shelf has the requests of the relation and the positions
abbrev pub is_for : ℕ → List ℕ → Shelf → Bool
is_for rel positions shelf = nat_eq shelf.rel rel && pointwise nat_eq shelf.positions positions

-- the number of a request, by the first shelf for it
abbrev pub number_in : List Shelf → Request → Option ℕ
number_in [] request = None
number_in (shelf ∷ shelves) request =
    if is_for request.rel request.positions shelf then get row_cmp shelf.numbers request.values else number_in shelves request

-- each request that was asked is found by its number there, and no other one is found
abbrev pub FindsEach : List Shelf → List Request → Type 0
FindsEach shelves asked = (request : Request) → MatchOption (number_in shelves request) (Contains asked request → ⊥) (λ number. slice_get asked number ≡ Some request)

abbrev pub IsBook : Book → Type 0
IsBook book = FindsEach book.shelves.items (asked_in book.asked.items)

-- the first shelf for the relation and the positions stands at the place
pub record IsPlace (shelves : List Shelf) (rel : ℕ) (positions : List ℕ) (place : ℕ) : Type 0 where
  pub shelf : Shelf
  pub at : slice_get shelves place ≡ Some shelf
  pub rel_is : shelf.rel ≡ rel
  pub positions_are : shelf.positions ≡ positions
  pub first : (k : ℕ) (other : Shelf) → k < place → slice_get shelves k ≡ Some other → is_for rel positions other ≡ false

-- there is a shelf for them, and requests are found as before
pub record HasShelf (rel : ℕ) (positions : List ℕ) (old new : List Shelf) (place : ℕ) : Type 0 where
  pub is_place : IsPlace new rel positions place
  pub same : (request : Request) → number_in new request ≡ number_in old request

-- a request of the shelf for a source of the kind
abbrev pub ask_at : Shelf → List ℕ → List (List ℕ) → Ask
ask_at shelf kind values = record { kind = kind; request = record { rel = shelf.rel; positions = shelf.positions; values = values } }

-- The request with these values was added, with the next number.
pub record Adds (kind : List ℕ) (values : List (List ℕ)) (old new : Shelf) (asked after : List Ask) (number : ℕ) : Type 0 where
  pub number_is : number ≡ length asked
  pub after_is : after ≡ asked ++ ask_at old kind values ∷ []
  pub finds : (other : List (List ℕ)) → get row_cmp new.numbers other ≡ (if is_at (row_cmp values) other then Some number else get row_cmp old.numbers other)
  pub rel_is : new.rel ≡ old.rel
  pub positions_are : new.positions ≡ old.positions

-- The number by which the request with these values is found, or the next one, with which it was added.
pub data Notes (kind : List ℕ) (values : List (List ℕ)) (old new : Shelf) (asked after : List Ask) (number : ℕ) : Type 0 where
  found : get row_cmp old.numbers values ≡ Some number → new ≡ old → after ≡ asked → Notes kind values old new asked after number
  added : get row_cmp old.numbers values ≡ None → Adds kind values old new asked after number → Notes kind values old new asked after number

-- the numbers are those of the requests, in order
abbrev pub AreNumbers : List Request → List Request → List ℕ → Type 0
AreNumbers asked requests numbers = map (slice_get asked) numbers ≡ map (λ request. Some request) requests

-- The requests of a relation with these values were noted.
pub record NotesAll (kind : List ℕ) (rel : ℕ) (positions : List ℕ) (list : List (List (List ℕ))) (old new : Book) (numbers : List ℕ) : Type 0 where
  pub is_book : IsBook new
  pub asked : asked_in new.asked.items ≡ with_asked (asked_in old.asked.items) (requests_with rel positions list)
  pub are : AreNumbers (asked_in new.asked.items) (requests_with rel positions list) numbers
  -- those that were added are for a source of the kind
  pub kinds : (ask : Ask) → Contains new.asked.items ask → Contains old.asked.items ask ⊎ ((ask.kind ≡ kind) × (ask.request.rel ≡ rel) × (ask.request.positions ≡ positions) × Contains list ask.request.values)
  pub onward : (more : List Ask) × (new.asked.items ≡ old.asked.items ++ more)

-- What a log of requests holds: the shapes of its requests, and the values of all requests one after another.
use Rattle.std.specs.Prelude.{◌≡◌, ◌-◌, ℕ, List, [], ◌∷◌, ◌++◌, IsSomeAnd, length, replicate, slice_get, sum_by, take, drop}
use Rattle.csv.specs.Records.{AllText, Rising, cut_from, last_end}
use Rattle.meaning.specs.declared.types.Request.{Request}
use Rattle.source_trait.specs.declared.request_log.Run.{Run}
use Rattle.source_trait.specs.declared.request_log.Shape.{Shape}

-- texts lie one after another in bytes, and end at these ends
pub record ArePacked (ends bytes : List ℕ) (texts : List (List ℕ)) : Type 0 where
  -- the ends rise
  pub rising : Rising 0 ends (length bytes)
  -- no byte lies behind the last one
  pub last : last_end 0 ends ≡ length bytes
  -- the texts are the parts up to the ends
  pub are : cut_from 0 ends bytes ≡ texts
  -- each is UTF-8
  pub text : AllText texts

-- the shape of each request
abbrev pub shapes_of : List Run → List Shape
shapes_of [] = []
shapes_of (run ∷ runs) = replicate run.count run.shape ++ shapes_of runs

-- the requests of these shapes, each with its part of the values
abbrev pub requests_in : List Shape → List (List ℕ) → List Request
requests_in [] values = []
requests_in (shape ∷ shapes) values = record { rel = shape.rel; positions = shape.positions; values = take shape.width values } ∷ requests_in shapes (drop shape.width values)

-- how many values requests of these shapes have
abbrev pub width_of : List Shape → ℕ
width_of shapes = sum_by (λ shape. shape.width) shapes

-- there are as many values as these shapes take, and so many shapes
pub record IsLog (shapes : List Shape) (values : List (List ℕ)) (count : ℕ) : Type 0 where
  pub wide : width_of shapes ≡ length values
  pub counted : length shapes ≡ count

-- the last run is of this shape
abbrev pub EndsWith : List Run → Shape → Type 0
EndsWith runs shape = IsSomeAnd (slice_get runs (length runs - 1)) (λ run. run.shape ≡ shape)

-- Where the tokens of a text stand: their spans are in order, and the text may be sliced at each.
use Rattle.std.specs.Prelude.{◌<◌, ◌≤◌, ◌-◌, ℕ, List, [], ◌∷◌, length, slice_index}
use Rattle.pq_text.specs.declared.token.Token.{Token}

-- Some bytes of the text, of which the first and the last are ASCII: so no character is cut there.
pub record IsSpan (text : List ℕ) (t : Token) : Type 0 where
  pub some : t.start < t.end
  pub within : t.end ≤ length text
  pub opens : slice_index text t.start < 128
  pub closes : slice_index text (t.end - 1) < 128

-- The spans stand one behind another from this place on.
abbrev pub InOrder : ℕ → List Token → Type 0
InOrder from [] = Unit {0}
InOrder from (t ∷ ts) = (from ≤ t.start) × InOrder t.end ts

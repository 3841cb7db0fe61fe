-- What a sink took of a text.
use Rattle.std.specs.Prelude.{◌≡◌, ℕ, ◌<◌, ◌≤◌, List, ◌++◌, length, take, Option, option_map}

-- all of the text came behind what it had taken before, where that is told
abbrev pub TookAll : Option (List ℕ) → Option (List ℕ) → List ℕ → Type 0
TookAll old new text = new ≡ option_map (λ bytes. bytes ++ text) old

-- a first part of the text came behind what it had taken before, where that is told
abbrev pub TookPrefix : Option (List ℕ) → Option (List ℕ) → List ℕ → Type 0
TookPrefix old new text = (n : ℕ) × (n ≤ length text) × (new ≡ option_map (λ bytes. bytes ++ take n text) old)

-- a first part of the text came behind it, and the text was not taken whole
abbrev pub TookPart : Option (List ℕ) → Option (List ℕ) → List ℕ → Type 0
TookPart old new text = (n : ℕ) × (n < length text) × (new ≡ option_map (λ bytes. bytes ++ take n text) old)

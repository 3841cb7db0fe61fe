-- Lists of names: whether a name is among them, its first place, repetitions, and each name once.
use Rattle.std.specs.Prelude.{ℕ, List, [], ◌∷◌, ◌++◌, ◌||◌, Bool, false, if◌then◌else◌, nat_eq}
use Rattle.std.specs.List.{list_any, position_or_len}
use Rattle.std.specs.Cmp.Lexicographic.{pointwise}

-- whether the text is one of the list
abbrev pub is_among : List (List ℕ) → List ℕ → Bool
is_among texts text = list_any (λ other. pointwise nat_eq other text) texts

-- the first place of the text, or the length of a list that lacks it
abbrev pub place_of : List (List ℕ) → List ℕ → ℕ
place_of texts text = position_or_len (λ other. pointwise nat_eq other text) texts

-- whether a text stands twice in the list
abbrev pub repeats : List (List ℕ) → Bool
repeats [] = false
repeats (text ∷ texts) = is_among texts text || repeats texts

-- the known texts, and then each other text of the list at its first place
abbrev pub once_after : List (List ℕ) → List (List ℕ) → List (List ℕ)
once_after known [] = known
once_after known (text ∷ texts) = once_after (if is_among known text then known else (known ++ text ∷ [])) texts

-- each text of the list once, in the order of the first places
abbrev pub each_once : List (List ℕ) → List (List ℕ)
each_once texts = once_after [] texts

-- How names and values are printed.
use Rattle.std.specs.Prelude.{◌≡◌, ◌&&◌, ◌||◌, ◌++◌, ℕ, Bool, true, false, List, [], ◌∷◌, nat_eq, nat_le, cond, if◌then◌else◌}
use Rattle.pq_text.specs.declared.token.TokenKind.{TokenKind}
use Rattle.pq_text.specs.declared.token.TokenKind.TheVariants.{Word, Quoted}
use Rattle.pq_text.specs.Tokens.{is_digit, is_word_byte}

-- a letter that is no capital, or _
abbrev pub is_small : ℕ → Bool
is_small b = (nat_le 97 b && nat_le b 122) || nat_eq b 95

abbrev pub all_small : List ℕ → Bool
all_small [] = true
all_small (b ∷ bs) = (is_small b || is_digit b) && all_small bs

-- the name has the form of a Word without capitals
abbrev pub is_bare : List ℕ → Bool
is_bare [] = false
is_bare (b ∷ bs) = is_small b && all_small bs

-- each quote twice
abbrev pub doubled : ℕ → List ℕ → List ℕ
doubled quote [] = []
doubled quote (b ∷ bs) = if nat_eq b quote then quote ∷ quote ∷ doubled quote bs else b ∷ doubled quote bs

abbrev pub between : ℕ → List ℕ → List ℕ
between quote bytes = quote ∷ (doubled quote bytes ++ quote ∷ [])

-- bare where that is a Word, and in double quotes otherwise
abbrev pub printed_name : List ℕ → List ℕ
printed_name name = if is_bare name then name else between 34 name

-- the kind of the token that a printed name is
abbrev pub printed_kind : List ℕ → TokenKind
printed_kind name = cond (is_bare name) Word Quoted

abbrev pub printed_value : List ℕ → List ℕ
printed_value value = between 39 value

-- the bytes begin with none of these
abbrev pub Stops : (ℕ → Bool) → List ℕ → Type 0
Stops p [] = Unit {0}
Stops p (b ∷ bs) = p b ≡ false

-- what may not follow a printed name, lest it goes on
abbrev pub follows_name : ℕ → Bool
follows_name b = is_word_byte b || nat_eq b 34

-- what may not follow a printed value
abbrev pub follows_value : ℕ → Bool
follows_value b = nat_eq b 39

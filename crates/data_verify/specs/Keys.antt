-- Sets of keys, which find a key by a code. No proof rests on that codes tell keys apart.
use Rattle.std.specs.Prelude.{◌≡◌, ◌↔◌, ◌⊎◌, ℕ, List, [], ◌∷◌, map, true, if◌then◌else◌, ◌==◌, IsSomeAnd, option_copied}
use Rattle.std.specs.List.{fold}
use Rattle.std.specs.Ordering.{nat_cmp}
use Rattle.std.specs.Cmp.Lexicographic.{slice_cmp}
use Rattle.std.specs.BTreeMap.{get}
use Rattle.std.specs.BTreeSet.{contains}
use Rattle.std.specs.declared.cmp.Ordering.{Ordering}
use Rattle.lists.specs.Hash.{mix}
use Rattle.meaning.specs.declared.types.Term.{Term}
use Rattle.meaning.specs.declared.types.Term.TheVariants.{Var, Const}
use Rattle.meaning.specs.Values.{Value, Row}
use Rattle.data_verify.specs.declared.key_set.KeySet.{KeySet}

-- A row gives a variable of the terms the value at its first place, and other variables the empty value.
abbrev pub reading : List Term → Row → ℕ → Value
reading [] row x = []
reading (Var y ∷ terms) [] x = []
reading (Const c ∷ terms) [] x = []
reading (Var y ∷ terms) (value ∷ row) x = if y == x then value else reading terms row x
reading (Const c ∷ terms) (value ∷ row) x = reading terms row x

-- The key of a row has the values that it gives the variables.
abbrev pub key_of : List Term → List ℕ → Row → Row
key_of terms variables row = map (reading terms row) variables

-- A code with a value mixed in, and behind it a byte that no text has.
abbrev pub mixed : ℕ → Value → ℕ
mixed code value = mix (mix code value) (255 ∷ [])

-- The code of a key has its values mixed in, one after another.
unfoldable pub key_code : Row → ℕ
key_code key = fold mixed 14695981039346656037 key

-- Rows are ordered column by column, and values by their bytes.
abbrev pub row_cmp : Row → Row → Ordering
row_cmp = slice_cmp (slice_cmp nat_cmp)

-- A key is that of the first row of its code.
abbrev pub IsFirst : List Term → List ℕ → KeySet → Row → Type 0
IsFirst terms variables keys key =
    IsSomeAnd (option_copied (get nat_cmp keys.firsts (key_code key))) (λ row. key_of terms variables row ≡ key)

-- The set holds a key, where its rows are read by these terms: it is that of the first row of its code, or one of the others.
abbrev pub Holds : List Term → List ℕ → KeySet → Row → Type 0
Holds terms variables keys key = IsFirst terms variables keys key ⊎ (contains row_cmp keys.others key ≡ true)

-- One set holds what another does, and this key.
abbrev pub Adds : List Term → List ℕ → KeySet → Row → KeySet → Type 0
Adds terms variables old added new =
    (key : Row) → Holds terms variables new key ↔ (Holds terms variables old key ⊎ (added ≡ key))

-- The numbers of the facts that have a key, which is a relation, or a relation with a value at a position.
use Rattle.std.specs.Prelude.{◌≡◌, ◌⊎◌, ℕ, ◌+◌, ◌*◌, List, [], ◌∷◌, ◌++◌, Option, Some, None, Bool, true, false, length, Contains, ◌&&◌, ◌||◌, nat_eq, nat_lt, slice_get, slice_index_or, if◌then◌else◌, unwrap_or}
use Rattle.std.specs.declared.cmp.Ordering.{Ordering}
use Rattle.std.specs.BTreeMap.{BTreeMap, get, is_at}
use Rattle.std.specs.Ordering.{nat_cmp}
use Rattle.meaning.specs.declared.types.Val.{Val}
use Rattle.meaning.specs.declared.types.Ground.{Ground}
use Rattle.meaning.specs.declared.types.Atom.{Atom}
use Rattle.meaning.specs.Added.{is_same_val}
use Rattle.meaning.specs.Triggers.{ground}
use Rattle.homomorphism.specs.Bindings.{Agrees}
use Rattle.homomorphism.specs.Codes.{key_code}
use Rattle.homomorphism.specs.declared.key.Key.{Key}
use Rattle.homomorphism.specs.declared.key.Key.TheVariants.{Relation, Value}
use Rattle.homomorphism.specs.declared.coded_lists.KeyList.{KeyList}
use Rattle.homomorphism.specs.declared.coded_lists.CodedLists.{CodedLists}
use Rattle.homomorphism.specs.declared.key_lists.KeyLists.{KeyLists}
use Rattle.homomorphism.specs.declared.positions.Positions.{Positions}
use Rattle.homomorphism.specs.declared.fact_index.FactIndex.{FactIndex}
use Rattle.homomorphism.specs.contracts.key.KeyOrd.TheImpl as key_ord

-- The keys of a row of the relation, from a position on.
abbrev pub value_keys : ℕ → ℕ → List Val → List Key
value_keys rel position [] = []
value_keys rel position (val ∷ vals) = Value rel position val ∷ value_keys rel (position + 1) vals

-- The keys of a fact are its relation and its value at each position.
abbrev pub keys_of : Ground → List Key
keys_of fact = Relation fact.rel ∷ value_keys fact.rel 0 fact.vals

-- Whether the position of the relation is marked: each relation has 64 marks.
abbrev pub has_mark : List Bool → ℕ → ℕ → Bool
has_mark marked rel position = nat_lt position 64 && slice_index_or marked (rel * 64 + position) false

-- Whether facts are found by their values at the position of the relation.
abbrev pub has_position : Positions → ℕ → ℕ → Bool
has_position positions rel position = positions.all || has_mark positions.marked.items rel position

-- Whether facts are found by the key: by each relation, and by values at these positions.
abbrev pub is_found_by : Positions → Key → Bool
is_found_by positions (Relation rel) = true
is_found_by positions (Value rel position val) = has_position positions rel position

-- Whether the value is this one.
abbrev pub is_val : Option Val → Val → Bool
is_val None val = false
is_val (Some other) val = is_same_val other val

-- Whether the key is one of the fact's.
abbrev pub has_key : Key → Ground → Bool
has_key (Relation rel) fact = nat_eq fact.rel rel
has_key (Value rel position val) fact = nat_eq fact.rel rel && is_val (slice_get fact.vals position) val

-- The numbers of the facts that have the key, where the first fact has the given number.
abbrev pub numbers_from : ℕ → Key → List Ground → List ℕ
numbers_from first key [] = []
numbers_from first key (fact ∷ facts) =
    if has_key key fact then first ∷ numbers_from (first + 1) key facts else numbers_from (first + 1) key facts

abbrev pub key_cmp : Key → Key → Ordering
key_cmp = (key_ord.ghosts).cmp

-- The numbers of a list, if it is that of the key.
unfoldable pub own_list : Key → Option KeyList → List ℕ
own_list key None = []
own_list key (Some list) = if is_at (key_cmp key) list.key then list.numbers else []

-- The list at the key's code, if it is that of the key.
unfoldable pub coded_list : BTreeMap ℕ KeyList → Key → List ℕ
coded_list coded key = own_list key (get nat_cmp coded (key_code key))

-- The list of a key by its code: the one that it has among the others, or else the one at its code.
unfoldable pub found_at : CodedLists → Key → List ℕ
found_at lists key = unwrap_or (get key_cmp lists.others key) (coded_list lists.coded key)

-- The list of a relation.
unfoldable pub of_relation : BTreeMap ℕ (List ℕ) → ℕ → List ℕ
of_relation relations rel = unwrap_or (get nat_cmp relations rel) []

-- The list of a key: that of the relation, or the one by the key's code.
unfoldable pub listed : KeyLists → Key → List ℕ
listed lists (Relation rel) = of_relation lists.relations rel
listed lists (Value rel position val) = found_at lists.values (Value rel position val)

-- The key is a value at a position.
abbrev pub IsValue : Key → Type 0
IsValue key = (rel : ℕ) × (position : ℕ) × (val : Val) × (key ≡ Value rel position val)

-- An index of facts has for each key that facts are found by exactly the numbers of the facts that have it.
pub record IsIndexOf (facts : List Ground) (index : FactIndex) : Type 0 where
  pub lists : (key : Key) → is_found_by index.positions key ≡ true → listed index.lists key ≡ numbers_from 0 key facts

-- A list is as before, or, where a condition holds, ends in the number in addition.
abbrev pub MayEndIn : Type 0 → ℕ → List ℕ → List ℕ → Type 0
MayEndIn Condition number before now = (now ≡ before) ⊎ (Condition × (now ≡ before ++ number ∷ []))

-- An index of facts in which the fact behind them may be noted by some of its keys.
pub record MayHaveNoted (facts : List Ground) (fact : Ground) (index : FactIndex) : Type 0 where
  pub lists : (key : Key) → is_found_by index.positions key ≡ true →
      MayEndIn (Contains (keys_of fact) key) (length facts) (numbers_from 0 key facts) (listed index.lists key)

-- The numbers are those of the facts that have some key, and the atom has it under each assignment that agrees with
-- what is given.
abbrev pub AreCandidates : List Ground → Atom → List (Option Val) → List ℕ → Type 0
AreCandidates facts atom given numbers =
    (key : Key) × (numbers ≡ numbers_from 0 key facts)
    × ((a : ℕ → Val) → Agrees given a → has_key key (ground a atom) ≡ true)

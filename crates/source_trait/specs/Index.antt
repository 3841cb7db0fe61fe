-- A hash index of rows on positions, by chains of rows that hash alike (Knuth, The Art of Computer Programming 3, 6.4), or where
-- many do, of rows with the same values.
use Rattle.std.specs.Prelude.{◌≡◌, ◌≢◌, ◌<◌, ◌≤◌, ◌+◌, ◌%◌, ◌&&◌, ℕ, false, List, [], ◌∷◌, ◌++◌, ◌⊎◌, length, map, take, Option, None, Some, IfSome, IsSomeAnd, unwrap_or, slice_get, slice_index, slice_index_or, nat_eq, if◌then◌else◌}
use Rattle.std.specs.List.{AllByRecursion}
use Rattle.std.specs.Cmp.Lexicographic.{pointwise}
use Rattle.std.specs.BTreeMap.{BTreeMap, get}
use Rattle.lists.specs.Hash.{mix}
use Rattle.row_text.specs.RowText.{row_cmp}
use Rattle.source_trait.specs.Asking.{RowList}
use Rattle.source_trait.specs.Holding.{attachment_in}
use Rattle.source_trait.specs.declared.holding.Attachment.{Attachment}
use Rattle.source_trait.specs.declared.crowded.Crowded.{Crowded}
use Rattle.source_trait.specs.declared.index.Index.{Index}

-- a hash with a value mixed in, if there is one
abbrev pub mix_some : ℕ → Option (List ℕ) → ℕ
mix_some hash None = hash
mix_some hash (Some value) = mix hash value

-- the hash of a row's values at the positions
abbrev pub row_hash : ℕ → List ℕ → List (List ℕ) → ℕ
row_hash hash [] row = hash
row_hash hash (p ∷ ps) row = row_hash (mix_some hash (slice_get row p)) ps row

-- the hash of values that are asked for, one a position
abbrev pub key_hash : ℕ → List ℕ → List (List ℕ) → ℕ
key_hash hash [] values = hash
key_hash hash (p ∷ ps) [] = hash
key_hash hash (p ∷ ps) (v ∷ vs) = key_hash (mix hash v) ps vs

-- a place in a list of codes, from which on the next one with the code stands at another place, or nowhere before the end
pub record Leads (codes : List ℕ) (code : ℕ) (start place : ℕ) : Type 0 where
  -- it does not lead back
  pub onward : start ≤ place
  -- it leads within the list or to its end
  pub within : place ≤ length codes
  -- no place on the way has the code
  pub skips : (k : ℕ) → start ≤ k → k < place → slice_index codes k ≢ code
  -- the place has the code
  pub meets : place < length codes → slice_index codes place ≡ code

-- chains of the places with one code: the head of each, and behind each place the next one of its chain
pub record AreChains (codes heads next : List ℕ) : Type 0 where
  pub long : length next ≡ length codes
  pub first : (code : ℕ) → code < length heads → Leads codes code 0 (slice_index heads code)
  pub later : (k : ℕ) → k < length codes → Leads codes (slice_index codes k) (k + 1) (slice_index next k)

-- the codes of rows: their hashes, cut down to the number of codes
abbrev pub codes_of : List ℕ → ℕ → RowList → List ℕ
codes_of positions count rows = map (λ row. row_hash 0 positions row % count) rows

-- a row's values at the positions
abbrev pub row_values : List ℕ → List (List ℕ) → List (List ℕ)
row_values positions row = map (λ p. unwrap_or (slice_get row p) []) positions

-- the row of a number, or an earlier one with its code and its values
pub record IsTwin (positions codes : List ℕ) (rows : RowList) (number twin : ℕ) : Type 0 where
  pub before : twin ≤ number
  pub code : slice_index codes twin ≡ slice_index codes number
  pub values : row_values positions (slice_index_or rows twin []) ≡ row_values positions (slice_index_or rows number [])

-- the chain of values with a code: that of the code, or where the code is crowded their own
abbrev pub chain_of : Crowded → ℕ → List (List ℕ) → ℕ
chain_of crowded code values = if slice_index_or crowded.codes.items code false then unwrap_or (get row_cmp crowded.chains values) code else code

-- the chains of rows
abbrev pub chains_of : List ℕ → ℕ → Crowded → RowList → List ℕ
chains_of positions count crowded rows = map (λ row. chain_of crowded (row_hash 0 positions row % count) (row_values positions row)) rows

-- the chain of values that are asked for, one a position
abbrev pub key_chain : List ℕ → ℕ → Crowded → List (List ℕ) → ℕ
key_chain positions count crowded values = chain_of crowded (key_hash 0 positions values % count) (take (length positions) values)

-- each chain of values has a number below the bound
abbrev pub AreChainsBelow : ℕ → BTreeMap (List (List ℕ)) ℕ → Type 0
AreChainsBelow bound chains = (values : List (List ℕ)) → IfSome (get row_cmp chains values) (λ chain. chain < bound)

-- whatever values have one of so many codes, their chain has a head
abbrev pub HaveHeads : ℕ → Crowded → List ℕ → Type 0
HaveHeads count crowded heads = (code : ℕ) (values : List (List ℕ)) → code < count → chain_of crowded code values < length heads

-- the index has some codes and the heads of their chains, which are those of the rows
abbrev pub Indexes : Index → RowList → Type 0
Indexes index rows = (0 < index.count) × HaveHeads index.count index.crowded index.heads.items × AreChains (chains_of index.positions index.count index.crowded rows) index.heads.items index.next.items

-- the first index of a relation on the positions
abbrev pub index_in : List Index → ℕ → List ℕ → Option Index
index_in [] rel positions = None
index_in (x ∷ xs) rel positions = if nat_eq x.rel rel && pointwise nat_eq x.positions positions then Some x else index_in xs rel positions

-- each index is of the rows of an attached relation
abbrev pub AreIndexes : List Attachment → List Index → Type 0
AreIndexes list indexes = AllByRecursion (λ x. IsSomeAnd (attachment_in list x.rel) (λ a. Indexes x a.rows)) indexes

-- each index of the relation is one of these rows
abbrev pub IndexesOf : ℕ → RowList → List Index → Type 0
IndexesOf rel rows indexes = AllByRecursion (λ x. x.rel ≡ rel → Indexes x rows) indexes

-- the same indexes, or one more, of the relation and these rows
abbrev pub OneMore : ℕ → RowList → List Index → List Index → Type 0
OneMore rel rows old new = (new ≡ old) ⊎ ((x : Index) × (new ≡ old ++ x ∷ []) × (x.rel ≡ rel) × Indexes x rows)

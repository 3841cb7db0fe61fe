-- Chains of values with crowded codes: their numbers, and the chain of each row.
use Rattle.std.proofs.Common.{◌≡◌, ◌<◌, ◌+◌, ◌%◌, ℕ, List, [], ◌∷◌, ◌++◌, length, take, get_or, Option, None, Some, unwrap_or, slice_get, Bool, true, false, cond, refl, sym, ◌∙◌, ap, subst, arith}
use Rattle.std.specs.List.{AllByRecursion}
use Rattle.std.specs.Option.{IfSome}
use Rattle.std.specs.BTreeMap.{BTreeMap, Updates, get, is_at}
use Rattle.std.specs.Map.{lookup}
use Rattle.std.proofs.lemmas.List.{get_or-map, get_or-take, length-map, length-take-le, map_more}
use Rattle.row_text.specs.RowText.{row_cmp}
use Rattle.source_trait.specs.Asking.{RowList}
use Rattle.source_trait.specs.Index.{AreChainsBelow, IsTwin, chain_of, chains_of, codes_of, row_hash, row_values}
use Rattle.source_trait.specs.declared.crowded.Crowded.{Crowded}
use Rattle.source_trait.proofs.Indexing.{code_at, read_at}

-- a chain below the bound is noted
pub noted_below : (old new : BTreeMap (List (List ℕ)) ℕ) (key : List (List ℕ)) (chain bound : ℕ) → Updates row_cmp old new key (Some chain) → chain < bound → AreChainsBelow bound old → AreChainsBelow bound new
noted_below old new key chain bound updates below all values =
    subst (λ (o : Option ℕ). IfSome o (λ v. v < bound)) (sym (updates.0 values)) (by (is_at (row_cmp key) values) (get row_cmp old values) (all values))
  where
    by : (t : Bool) (o : Option ℕ) → IfSome o (λ v. v < bound) → IfSome (cond t (Some chain) o) (λ v. v < bound)
    by true o h = below
    by false o h = h

no_codes : (codes : List Bool) → length codes ≡ 0 → codes ≡ []
no_codes [] none = refl
no_codes (code ∷ codes) none = absurd (omega (arith, none))

-- where no code is crowded, the chain is that of the code
chain_none : (crowded : Crowded) (code : ℕ) (values : List (List ℕ)) → length crowded.codes.items ≡ 0 → chain_of crowded code values ≡ code
chain_none crowded code values none = ap (λ (codes : List Bool). cond (get_or codes code false) (unwrap_or (get row_cmp crowded.chains values) code) code) (no_codes crowded.codes.items none)

pub chains_none : (ps : List ℕ) (count : ℕ) (crowded : Crowded) (rows : RowList) → length crowded.codes.items ≡ 0 → codes_of ps count rows ≡ chains_of ps count crowded rows
chains_none ps count crowded [] none = refl
chains_none ps count crowded (row ∷ rows) none =
    ap (λ h. h ∷ codes_of ps count rows) (sym (chain_none crowded (row_hash 0 ps row % count) (row_values ps row) none))
    ∙ ap (λ (l : List ℕ). chain_of crowded (row_hash 0 ps row % count) (row_values ps row) ∷ l) (chains_none ps count crowded rows none)

-- the rows have the same value at one position more
pub values_more : (ps : List ℕ) (row other : List (List ℕ)) (i : ℕ) → i < length ps → unwrap_or (slice_get row (get_or ps i 0)) [] ≡ unwrap_or (slice_get other (get_or ps i 0)) []
    → row_values (take i ps) row ≡ row_values (take i ps) other → row_values (take (i + 1) ps) row ≡ row_values (take (i + 1) ps) other
values_more ps row other i below here so_far =
    map_more (λ p. unwrap_or (slice_get row p) []) ps i 0 below
    ∙ ap (λ (l : List (List ℕ)). l ++ unwrap_or (slice_get row (get_or ps i 0)) [] ∷ []) so_far
    ∙ ap (λ (v : List ℕ). row_values (take i ps) other ++ v ∷ []) here
    ∙ sym (map_more (λ p. unwrap_or (slice_get other p) []) ps i 0 below)

pub many_codes : (ps : List ℕ) (count : ℕ) (rows : RowList) → length (codes_of ps count rows) ≡ length rows
many_codes ps count rows = length-map rows (λ row. row_hash 0 ps row % count)

-- the chain of one row more
pub chosen_more : (ps : List ℕ) (count : ℕ) (crowded : Crowded) (rows : RowList) (codes chains : List ℕ) (k chain : ℕ) → codes ≡ codes_of ps count rows → k < length rows
    → chain ≡ chain_of crowded (get_or codes k 0) (row_values ps (get_or rows k [])) → chains ≡ chains_of ps count crowded (take k rows) → chains ++ chain ∷ [] ≡ chains_of ps count crowded (take (k + 1) rows)
chosen_more ps count crowded rows codes chains k chain are below is so_far =
    let at : get_or codes k 0 ≡ row_hash 0 ps (get_or rows k []) % count = ap (λ (l : List ℕ). get_or l k 0) are ∙ code_at ps count rows k below in
    ap (λ (l : List ℕ). l ++ chain ∷ []) so_far
    ∙ ap (λ m. chains_of ps count crowded (take k rows) ++ m ∷ []) (is ∙ ap (λ m. chain_of crowded m (row_values ps (get_or rows k []))) at)
    ∙ sym (map_more (λ row. chain_of crowded (row_hash 0 ps row % count) (row_values ps row)) rows k [] below)

-- a row has the chain of its twin
pub chosen_twin : (ps : List ℕ) (count : ℕ) (crowded : Crowded) (rows : RowList) (codes chains : List ℕ) (k twin chain : ℕ) → codes ≡ codes_of ps count rows → k < length rows → IsTwin ps codes rows k twin → twin < k
    → chain ≡ get_or chains twin chain → chains ≡ chains_of ps count crowded (take k rows) → chain ≡ chain_of crowded (get_or codes k 0) (row_values ps (get_or rows k []))
chosen_twin ps count crowded rows codes chains k twin chain are below is_twin earlier read so_far =
    let cut : length (take k rows) ≡ k = length-take-le k rows (omega (arith, below)) in
    let long : length chains ≡ k = ap length so_far ∙ length-map (take k rows) (λ row. chain_of crowded (row_hash 0 ps row % count) (row_values ps row)) ∙ cut in
    let at : get_or codes twin 0 ≡ row_hash 0 ps (get_or rows twin []) % count = ap (λ (l : List ℕ). get_or l twin 0) are ∙ code_at ps count rows twin (omega (arith, below, earlier)) in
    read_at chains twin chain 0 (omega (arith, long, earlier)) read
    ∙ ap (λ (l : List ℕ). get_or l twin 0) so_far
    ∙ get_or-map (λ row. chain_of crowded (row_hash 0 ps row % count) (row_values ps row)) (take k rows) twin [] 0 (omega (arith, cut, earlier))
    ∙ ap (λ row. chain_of crowded (row_hash 0 ps row % count) (row_values ps row)) (get_or-take k rows twin [] earlier)
    ∙ ap (λ m. chain_of crowded m (row_values ps (get_or rows twin []))) (sym at ∙ is_twin.code)
    ∙ ap (λ (values : List (List ℕ)). chain_of crowded (get_or codes k 0) values) is_twin.values

-- the chains of rows are below what bounds those of any values
pub chains_small : (ps : List ℕ) (count bound : ℕ) (crowded : Crowded) (rows : RowList) → 0 < count → ((code : ℕ) (values : List (List ℕ)) → code < count → chain_of crowded code values < bound)
    → AllByRecursion (λ chain. chain < bound) (chains_of ps count crowded rows)
chains_small ps count bound crowded [] some all = tt
chains_small ps count bound crowded (row ∷ rows) some all = (all (row_hash 0 ps row % count) (row_values ps row) (omega (arith, some)), chains_small ps count bound crowded rows some all)

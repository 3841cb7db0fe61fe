-- Joins of tables, and blocks that stay those of the partial rows.
use Rattle.std.proofs.Common.{◌≡◌, ◌⊎◌, inl, inr, ⊎_elim, ℕ, zero, suc, ◌+◌, ◌<◌, List, [], ◌∷◌, ◌++◌, length, map, Option, None, Some, get_or, refl, sym, ◌∙◌, ap, subst, arith}
use Rattle.std.specs.Prelude.{Contains, slice_get, flat_map}
use Rattle.std.specs.List.{range_with_len}
use Rattle.std.proofs.lemmas.List.{same_lists}
use Rattle.std.proofs.lemmas.List.FromFn.{length-map-range_with_len, get_or-map-range_with_len}
use Rattle.std.proofs.lemmas.Option.{slice_get-get_or}
use Rattle.lists.proofs.Members.{contains_here, contains_cases, contains_got, contains_joined, joined_from, map_same}
use Rattle.meaning.specs.declared.types.Place.{Place}
use Rattle.meaning.specs.declared.types.Place.TheVariants.{Const, Col, New}
use Rattle.meaning.specs.Plans.{made}
use Rattle.meaning.specs.Rows.{Joins}
use Rattle.meaning_laws.proofs.Conjoining.{range_at, in_range as within_range}
use Rattle.meaning_laws.proofs.Frozen.{made_grows}
use Rattle.source_trait.specs.Asking.{RowList}
use Rattle.middleware.specs.Joining.{grown, text_or, input_row_of}
use Rattle.middleware.specs.Naming.{Texts, Fits, AreOfTexts, AreNamed, AreAsked, IsLocal, Matches, text_of, inputs_of}
use Rattle.middleware.proofs.TableJoins.{joins_of, of_joins, local_keeps, same_at, inputs_same, Below}
use Rattle.middleware.proofs.Steps.{in_append, append_second, grown_joins, joins_grown}

-- ---- columns that places name

-- it holds of each column that a place names or makes
abbrev pub OfNames : (ℕ → Type 0) → ℕ → List Place → Type 0
OfNames P n [] = Unit {0}
OfNames P n (Const c ∷ places) = OfNames P n places
OfNames P n (Col k ∷ places) = P k × OfNames P n places
OfNames P n (New ∷ places) = P n × OfNames P (n + 1) places

pub names_along : (P Q : ℕ → Type 0) → ((k : ℕ) → P k → Q k) → (n : ℕ) (places : List Place) → OfNames P n places → OfNames Q n places
names_along P Q along n [] o = tt
names_along P Q along n (Const c ∷ places) o = names_along P Q along n places o
names_along P Q along n (Col k ∷ places) o = (along k o.0, names_along P Q along n places o.1)
names_along P Q along n (New ∷ places) o = (along n o.0, names_along P Q along (n + 1) places o.1)

pub names_below : (n : ℕ) (places : List Place) → AreNamed n places → OfNames (λ k. k < made n places) n places
names_below n [] a = tt
names_below n (Const c ∷ places) a = names_below n places a
names_below n (Col k ∷ places) a = let l = made_grows n places in let b = a.0 in (omega (arith, l, b), names_below n places a.1)
names_below n (New ∷ places) a = let l = made_grows (n + 1) places in (omega (arith, l), names_below (n + 1) places a)

pub names_after : (columns : List ℕ) (n : ℕ) (places locals : List Place) (after : List ℕ) → IsLocal columns n places locals after → OfNames (Contains after) n places
names_after columns n [] locals after i = tt
names_after columns n (Const a ∷ places) [] after i = absurd i
names_after columns n (Const a ∷ places) (Const b ∷ locals) after i = names_after columns n places locals after i.1
names_after columns n (Const a ∷ places) (Col b ∷ locals) after i = absurd i
names_after columns n (Const a ∷ places) (New ∷ locals) after i = absurd i
names_after columns n (Col a ∷ places) [] after i = absurd i
names_after columns n (Col a ∷ places) (Const b ∷ locals) after i = absurd i
names_after columns n (Col a ∷ places) (Col b ∷ locals) after i = (local_keeps columns n places locals after i.1 a (contains_got columns b a i.0), names_after columns n places locals after i.1)
names_after columns n (Col a ∷ places) (New ∷ locals) after i =
    (local_keeps (columns ++ a ∷ []) n places locals after i.1 a (append_second columns (a ∷ []) a (contains_here a [])), names_after (columns ++ a ∷ []) n places locals after i.1)
names_after columns n (New ∷ places) [] after i = absurd i
names_after columns n (New ∷ places) (Const b ∷ locals) after i = absurd i
names_after columns n (New ∷ places) (Col b ∷ locals) after i = absurd i
names_after columns n (New ∷ places) (New ∷ locals) after i =
    (local_keeps (columns ++ n ∷ []) (n + 1) places locals after i n (append_second columns (n ∷ []) n (contains_here n [])), names_after (columns ++ n ∷ []) (n + 1) places locals after i)

pushed_from : (P : ℕ → Type 0) (columns : List ℕ) (m k : ℕ) → P m → Contains (columns ++ m ∷ []) k ⊎ P k → Contains columns k ⊎ P k
pushed_from P columns m k of c =
    ⊎_elim (λ h. ⊎_elim inl (λ new. ⊎_elim (λ (e : m ≡ k). inr (subst P e of)) (λ none. absurd (omega (arith, none))) (contains_cases m [] k new)) (in_append columns (m ∷ []) k h)) inr c

-- a column of the table after is one of those before, or one that a place names or makes
pub local_from : (P : ℕ → Type 0) (columns : List ℕ) (n : ℕ) (places locals : List Place) (after : List ℕ) → OfNames P n places → IsLocal columns n places locals after → (k : ℕ) → Contains after k → Contains columns k ⊎ P k
local_from P columns n [] [] after o i k c = inl (subst (λ (l : List ℕ). Contains l k) i c)
local_from P columns n [] (l ∷ locals) after o i k c = absurd i
local_from P columns n (Const a ∷ places) [] after o i k c = absurd i
local_from P columns n (Const a ∷ places) (Const b ∷ locals) after o i k c = local_from P columns n places locals after o i.1 k c
local_from P columns n (Const a ∷ places) (Col b ∷ locals) after o i k c = absurd i
local_from P columns n (Const a ∷ places) (New ∷ locals) after o i k c = absurd i
local_from P columns n (Col a ∷ places) [] after o i k c = absurd i
local_from P columns n (Col a ∷ places) (Const b ∷ locals) after o i k c = absurd i
local_from P columns n (Col a ∷ places) (Col b ∷ locals) after o i k c = local_from P columns n places locals after o.1 i.1 k c
local_from P columns n (Col a ∷ places) (New ∷ locals) after o i k c = pushed_from P columns a k o.0 (local_from P (columns ++ a ∷ []) n places locals after o.1 i.1 k c)
local_from P columns n (New ∷ places) [] after o i k c = absurd i
local_from P columns n (New ∷ places) (Const b ∷ locals) after o i k c = absurd i
local_from P columns n (New ∷ places) (Col b ∷ locals) after o i k c = absurd i
local_from P columns n (New ∷ places) (New ∷ locals) after o i k c = pushed_from P columns n k o.0 (local_from P (columns ++ n ∷ []) (n + 1) places locals after o.1 i k c)

-- what matches texts matches others that are the same at the names
pub matches_same : (P : ℕ → Type 0) (texts others : Texts) → ((k : ℕ) → P k → others k ≡ texts k) → (n : ℕ) (places : List Place) (values : List (List ℕ)) → OfNames P n places → Matches texts n places values → Matches others n places values
matches_same P texts others same n [] [] o m = tt
matches_same P texts others same n [] (v ∷ values) o m = absurd m
matches_same P texts others same n (Const c ∷ places) [] o m = absurd m
matches_same P texts others same n (Const c ∷ places) (v ∷ values) o m = (m.0, matches_same P texts others same n places values o m.1)
matches_same P texts others same n (Col k ∷ places) [] o m = absurd m
matches_same P texts others same n (Col k ∷ places) (v ∷ values) o m = (m.0 ∙ sym (same k o.0), matches_same P texts others same n places values o.1 m.1)
matches_same P texts others same n (New ∷ places) [] o m = absurd m
matches_same P texts others same n (New ∷ places) (v ∷ values) o m = (m.0 ∙ sym (same n o.0), matches_same P texts others same (n + 1) places values o.1 m.1)

-- the same inputs, where the columns that are asked for are the same
pub asked_same : (texts others : Texts) (places : List Place) (inputs : List ℕ) → ((p k : ℕ) → Contains inputs p → slice_get places p ≡ Some (Col k) → others k ≡ texts k) → inputs_of others places inputs ≡ inputs_of texts places inputs
asked_same texts others places inputs same =
    map_same (λ p. text_of others (slice_get places p)) (λ p. text_of texts (slice_get places p)) inputs (λ p c. go (slice_get places p) (λ k e. same p k c e))
  where
    go : (o : Option Place) → ((k : ℕ) → o ≡ Some (Col k) → others k ≡ texts k) → text_of others o ≡ text_of texts o
    go None s = refl
    go (Some (Const c)) s = refl
    go (Some (Col k)) s = s k refl
    go (Some New) s = refl

-- ---- the join of a table with answers

-- an answer to the request of the texts has values that match them
abbrev pub Hits : (List (List ℕ) → RowList) → List Place → List ℕ → ℕ → Texts → Type 0
Hits answer places inputs n texts = (values : List (List ℕ)) × Contains (answer (inputs_of texts places inputs)) values × Matches texts n places values

module _ (columns : List ℕ) (n : ℕ) (places locals : List Place) (after inputs : List ℕ) (below : Below columns n) (named : AreNamed n places) (local : IsLocal columns n places locals after)
    (has : AreAsked columns places inputs) (answer : List (List ℕ) → RowList) (rows : RowList) where
  abbrev grow : List (List ℕ) → RowList
  grow row = grown locals (answer (input_row_of locals inputs row)) row

  abbrev pub next_table : RowList
  next_table = flat_map grow rows

  asks : (texts : Texts) → input_row_of locals inputs (map texts columns) ≡ inputs_of texts places inputs
  asks texts = inputs_same texts columns n places locals after inputs below named local has

  pub fits_next : (texts : Texts) → Fits texts columns rows → Hits answer places inputs n texts → Fits texts after next_table
  fits_next texts fits (values, among, m) =
      let there : Contains (answer (input_row_of locals inputs (map texts columns))) values = subst (λ (v : List (List ℕ)). Contains (answer v) values) (sym (asks texts)) among in
      contains_joined grow rows (map texts columns) (map texts after) fits
      (joins_grown locals (answer (input_row_of locals inputs (map texts columns))) (map texts columns) (map texts after) values there (joins_of texts columns n places locals after values local m))

  module _ (of_texts : AreOfTexts columns rows) where
    pub next_of : (row : List (List ℕ)) → Contains next_table row → (texts : Texts) × (row ≡ map texts after) × Fits texts columns rows × Hits answer places inputs n texts
    next_of row c =
        let (old, among, g) = joined_from grow rows row c in
        let (texts, is) = of_texts old among in
        let (values, answered, j) = grown_joins locals (answer (input_row_of locals inputs old)) old row g in
        let r = of_joins texts columns n places locals after values row below named local (subst (λ (o : List (List ℕ)). Joins locals values o row) is j) in
        let asked : inputs_of r.more places inputs ≡ input_row_of locals inputs old = asked_same texts r.more places inputs (λ p k i e. r.keeps k (has p k i e)) ∙ sym (asks texts) ∙ ap (input_row_of locals inputs) (sym is) in
        let kept : map r.more columns ≡ old = map_same r.more texts columns r.keeps ∙ sym is in (
          r.more,
          r.is,
          subst (Contains rows) (sym kept) among,
          (values, subst (λ (v : List (List ℕ)). Contains (answer v) values) (sym asked) answered, r.matches),
        )

    pub next_fits : (texts : Texts) → Fits texts after next_table → Fits texts columns rows × Hits answer places inputs n texts
    next_fits texts fits =
        let (its, is, old, (values, answered, m)) = next_of (map texts after) fits in
        let same : (k : ℕ) → Contains after k → texts k ≡ its k = same_at texts its after is in
        let keeps : (k : ℕ) → Contains columns k → texts k ≡ its k = λ k c. same k (local_keeps columns n places locals after local k c) in (
          subst (Contains rows) (sym (map_same texts its columns keeps)) old,
          (
            values,
            subst (λ (v : List (List ℕ)). Contains (answer v) values) (sym (asked_same its texts places inputs (λ p k i e. keeps k (has p k i e)))) answered,
            matches_same (Contains after) its texts same n places values (names_after columns n places locals after local) m,
          ),
        )

    pub next_of_texts : AreOfTexts after next_table
    next_of_texts row c = let (texts, is, old, hit) = next_of row c in (texts, is)

-- ---- whole partial rows are a table

pub in_range : (n k : ℕ) → k < n → Contains (range_with_len 0 n) k
in_range n k l = contains_got (range_with_len 0 n) k k (range_at n k l)

pub range_below : (n : ℕ) → Below (range_with_len 0 n) n
range_below n k among = within_range n k among

range_push : (a n j : ℕ) → a + n ≡ j → range_with_len a n ++ j ∷ [] ≡ range_with_len a (suc n)
range_push a zero j e = let is : j ≡ a = omega (arith, e) in ap (λ m. m ∷ []) is
range_push a (suc n) j e = ap (λ (l : List ℕ). a ∷ l) (range_push (a + 1) n j (omega (arith, e)))

range_more : (n : ℕ) → range_with_len 0 n ++ n ∷ [] ≡ range_with_len 0 (n + 1)
range_more n = let next : n + 1 ≡ suc n = omega arith in range_push 0 n n (omega arith) ∙ ap (range_with_len 0) (sym next)

pub range_local : (n : ℕ) (places : List Place) → AreNamed n places → IsLocal (range_with_len 0 n) n places places (range_with_len 0 (made n places))
range_local n [] a = refl
range_local n (Const c ∷ places) a = (refl, range_local n places a)
range_local n (Col k ∷ places) a = (range_at n k a.0, range_local n places a.1)
range_local n (New ∷ places) a = subst (λ (l : List ℕ). IsLocal l (n + 1) places places (range_with_len 0 (made (n + 1) places))) (sym (range_more n)) (range_local (n + 1) places a)

-- the texts of a row
abbrev pub texts_of : List (List ℕ) → Texts
texts_of row k = text_or (slice_get row k)

pub row_is : (n : ℕ) (row : List (List ℕ)) → length row ≡ n → map (texts_of row) (range_with_len 0 n) ≡ row
row_is n row long = same_lists (map (texts_of row) (range_with_len 0 n)) row (length-map-range_with_len (texts_of row) 0 n ∙ sym long) (λ k d l.
    let wide = length-map-range_with_len (texts_of row) 0 n in
    let here : get_or (map (texts_of row) (range_with_len 0 n)) k d ≡ texts_of row k = get_or-map-range_with_len (texts_of row) 0 n k k d (omega (arith, l, wide)) (omega arith) in
    let got = slice_get-get_or row k d (omega (arith, l, wide, long)) in
    here ∙ ap text_or got)

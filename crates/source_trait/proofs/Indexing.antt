-- A hash index answers the rows that have the values.
use Rattle.std.proofs.Common.{◌≡◌, ◌≢◌, ◌<◌, ◌≤◌, ◌+◌, ◌-◌, ◌%◌, ◌&&◌, ◌⊎◌, inl, inr, ℕ, zero, suc, List, [], ◌∷◌, ◌++◌, length, take, get_or, set, Option, None, Some, unwrap_or, slice_get, Bool, true, false, not, nat_eq, cond, refl, sym, ◌∙◌, ap, subst, arith}
use Rattle.std.specs.List.{AllByRecursion, filter}
use Rattle.std.specs.Option.{IsSomeAnd}
use Rattle.std.specs.Cmp.Lexicographic.{pointwise, bytes_decides}
use Rattle.std.proofs.Math.ListN.{length-set}
use Rattle.std.proofs.Math.Seq.{take-length}
use Rattle.std.proofs.lemmas.List.{append-nil, get_or_default, length-map, get_or-map, get_or-set_same, get_or-set_other}
use Rattle.std.proofs.lemmas.List.Elements.{filter_more}
use Rattle.std.proofs.lemmas.Bool.{cases_eq}
use Rattle.std.proofs.lemmas.Bool.Decides.{nat_tests}
use Rattle.lists.specs.Hash.{mix}
use Rattle.lists.proofs.Booleans.{both_true}
use Rattle.source_trait.specs.Asking.{RowList, agrees}
use Rattle.source_trait.specs.Holding.{attachment_in, others_than}
use Rattle.source_trait.specs.Index.{AreChains, AreIndexes, Indexes, IndexesOf, Leads, OneMore, chain_of, chains_of, codes_of, index_in, key_chain, key_hash, mix_some, row_hash, row_values}
use Rattle.source_trait.specs.declared.holding.Attachment.{Attachment}
use Rattle.source_trait.specs.declared.crowded.Crowded.{Crowded}
use Rattle.source_trait.specs.declared.index.Index.{Index}
use Rattle.source_trait.proofs.Stores.{others_push, others_stay}

-- with no position every row has the values
pub all_agree : (ps : List ℕ) (vs : List (List ℕ)) (rows : RowList) → length ps ≡ 0 → rows ≡ filter (agrees ps vs) rows
all_agree [] vs [] none = refl
all_agree [] vs (row ∷ rows) none = ap (λ (l : RowList). row ∷ l) (all_agree [] vs rows none)
all_agree (p ∷ ps) vs rows none = absurd (omega (arith, none))

-- values that a row has hash as the row does
pub agree_hash : (ps : List ℕ) (vs row : List (List ℕ)) (h : ℕ) → agrees ps vs row ≡ true → key_hash h ps vs ≡ row_hash h ps row
agree_hash [] vs row h same = refl
agree_hash (p ∷ ps) [] row h same = absurd (cc)
agree_hash (p ∷ ps) (v ∷ vs) row h same = by (slice_get row p) refl (agree_hash ps vs row)
  where
    by : (o : Option (List ℕ)) → slice_get row p ≡ o → ((k : ℕ) → agrees ps vs row ≡ true → key_hash k ps vs ≡ row_hash k ps row) → key_hash (mix h v) ps vs ≡ row_hash (mix_some h (slice_get row p)) ps row
    by None e later = let same2 = rw e at same in absurd (cc)
    by (Some w) e later =
        let same2 = rw e at same in
        let both = both_true (pointwise nat_eq w v) (agrees ps vs row) same2 in
        let is : w ≡ v = (bytes_decides w v).0 both.0 in
        later (mix h v) both.1 ∙ ap (λ x. row_hash (mix h x) ps row) (sym is) ∙ ap (λ o. row_hash (mix_some h o) ps row) (sym e)

-- values that a row has are the row's
pub agree_values : (ps : List ℕ) (vs row : List (List ℕ)) → agrees ps vs row ≡ true → take (length ps) vs ≡ row_values ps row
agree_values [] vs row same = refl
agree_values (p ∷ ps) [] row same = absurd (cc)
agree_values (p ∷ ps) (v ∷ vs) row same = by (slice_get row p) refl (agree_values ps vs row)
  where
    by : (o : Option (List ℕ)) → slice_get row p ≡ o → (agrees ps vs row ≡ true → take (length ps) vs ≡ row_values ps row) → v ∷ take (length ps) vs ≡ unwrap_or (slice_get row p) [] ∷ row_values ps row
    by None e later = let same2 = rw e at same in absurd (cc)
    by (Some w) e later =
        let same2 = rw e at same in
        let both = both_true (pointwise nat_eq w v) (agrees ps vs row) same2 in
        let is : w ≡ v = (bytes_decides w v).0 both.0 in
        ap (λ (l : List (List ℕ)). v ∷ l) (later both.1) ∙ ap (λ (x : List ℕ). x ∷ row_values ps row) (sym is) ∙ ap (λ (o : Option (List ℕ)). unwrap_or o [] ∷ row_values ps row) (sym e)

-- values that a row has have the row's chain
pub agree_chain : (ps : List ℕ) (vs row : List (List ℕ)) (count : ℕ) (crowded : Crowded) → agrees ps vs row ≡ true
    → key_chain ps count crowded vs ≡ chain_of crowded (row_hash 0 ps row % count) (row_values ps row)
agree_chain ps vs row count crowded same =
    ap (λ h. chain_of crowded (h % count) (take (length ps) vs)) (agree_hash ps vs row 0 same)
    ∙ ap (λ (values : List (List ℕ)). chain_of crowded (row_hash 0 ps row % count) values) (agree_values ps vs row same)

-- rows that do not pass add nothing to those that do
filter_skip : (P : List (List ℕ) → Bool) (rows : RowList) (i n : ℕ) → i + n ≤ length rows → ((k : ℕ) → i ≤ k → k < i + n → P (get_or rows k []) ≡ false) → filter P (take (i + n) rows) ≡ filter P (take i rows)
filter_skip P rows i zero within none = let e : i + zero ≡ i = omega arith in rw e refl
filter_skip P rows i (suc n) within none =
    let e : i + suc n ≡ (i + n) + 1 = omega arith in
    let fails : P (get_or rows (i + n) []) ≡ false = none (i + n) (omega arith) (omega arith) in
    ap (λ m. filter P (take m rows)) e
    ∙ filter_more P rows (i + n) [] (omega (arith, within))
    ∙ ap (λ b. filter P (take (i + n) rows) ++ cond b (get_or rows (i + n) [] ∷ []) []) fails
    ∙ append-nil (filter P (take (i + n) rows))
    ∙ filter_skip P rows i n (omega (arith, within)) (λ k low high. none k low (omega (arith, high)))

-- the code of a row
pub code_at : (ps : List ℕ) (count : ℕ) (rows : RowList) (k : ℕ) → k < length rows → get_or (codes_of ps count rows) k 0 ≡ row_hash 0 ps (get_or rows k []) % count
code_at ps count rows k below = get_or-map (λ row. row_hash 0 ps row % count) rows k [] 0 below

-- the chain of a row
pub chain_at : (ps : List ℕ) (count : ℕ) (crowded : Crowded) (rows : RowList) (k : ℕ) → k < length rows
    → get_or (chains_of ps count crowded rows) k 0 ≡ chain_of crowded (row_hash 0 ps (get_or rows k []) % count) (row_values ps (get_or rows k []))
chain_at ps count crowded rows k below = get_or-map (λ row. chain_of crowded (row_hash 0 ps row % count) (row_values ps row)) rows k [] 0 below

pub many_chains : (ps : List ℕ) (count : ℕ) (crowded : Crowded) (rows : RowList) → length (chains_of ps count crowded rows) ≡ length rows
many_chains ps count crowded rows = length-map rows (λ row. chain_of crowded (row_hash 0 ps row % count) (row_values ps row))

-- where a chain leads on, no row on the way has the values
pub lead_on : (ps : List ℕ) (vs : List (List ℕ)) (rows : RowList) (count : ℕ) (crowded : Crowded) (start place code : ℕ) (found : RowList) → Leads (chains_of ps count crowded rows) code start place → code ≡ key_chain ps count crowded vs
    → found ≡ filter (agrees ps vs) (take start rows) → found ≡ filter (agrees ps vs) (take place rows)
lead_on ps vs rows count crowded start place code found leads is so_far =
    let long : length (chains_of ps count crowded rows) ≡ length rows = many_chains ps count crowded rows in
    let whole : start + (place - start) ≡ place = omega (arith, leads.onward) in
    so_far ∙ sym (ap (λ m. filter (agrees ps vs) (take m rows)) (sym whole) ∙ filter_skip (agrees ps vs) rows start (place - start) (omega (arith, leads.within, leads.onward, long))
    (λ k low high. by (agrees ps vs (get_or rows k [])) k refl low (omega (arith, high, whole)) (omega (arith, high, whole, leads.within, long))))
  where
    by : (b : Bool) → (k : ℕ) → agrees ps vs (get_or rows k []) ≡ b → start ≤ k → k < place → k < length rows → b ≡ false
    by true k same low high below = absurd (leads.skips k low high (chain_at ps count crowded rows k below ∙ sym (agree_chain ps vs (get_or rows k []) count crowded same) ∙ sym is))
    by false k same low high below = refl

-- the rows before a place of the chain that have the values were found
pub record FoundTo (ps : List ℕ) (vs : List (List ℕ)) (rows : RowList) (count : ℕ) (crowded : Crowded) (place : ℕ) (found : RowList) : Type 0 where
  pub is : found ≡ filter (agrees ps vs) (take place rows)
  pub within : place ≤ length rows
  pub meets : place < length rows → get_or (chains_of ps count crowded rows) place 0 ≡ key_chain ps count crowded vs

leads_to : (ps : List ℕ) (vs : List (List ℕ)) (rows : RowList) (count : ℕ) (crowded : Crowded) (start place code : ℕ) (found : RowList) → Leads (chains_of ps count crowded rows) code start place → code ≡ key_chain ps count crowded vs
    → found ≡ filter (agrees ps vs) (take start rows) → FoundTo ps vs rows count crowded place found
leads_to ps vs rows count crowded start place code found leads is so_far =
    let long : length (chains_of ps count crowded rows) ≡ length rows = many_chains ps count crowded rows in
    record {
      is = lead_on ps vs rows count crowded start place code found leads is so_far;
      within = omega (arith, leads.within, long);
      meets = λ below. leads.meets (omega (arith, below, long)) ∙ is;
    }

pub found_first : (ps : List ℕ) (vs : List (List ℕ)) (rows : RowList) (count : ℕ) (crowded : Crowded) (heads next : List ℕ) (code place : ℕ) → code < length heads → AreChains (chains_of ps count crowded rows) heads next → code ≡ key_chain ps count crowded vs
    → place ≡ get_or heads code 0 → FoundTo ps vs rows count crowded place []
found_first ps vs rows count crowded heads next code place low chains is at =
    leads_to ps vs rows count crowded 0 place code [] (subst (λ m. Leads (chains_of ps count crowded rows) code 0 m) (sym at) (chains.first code low)) is refl

pub found_more : (ps : List ℕ) (vs : List (List ℕ)) (rows : RowList) (count : ℕ) (crowded : Crowded) (heads next : List ℕ) (number place : ℕ) (found : RowList) → FoundTo ps vs rows count crowded number found → AreChains (chains_of ps count crowded rows) heads next
    → number < length rows → place ≡ get_or next number 0 → FoundTo ps vs rows count crowded place (found ++ filter (agrees ps vs) (get_or rows number [] ∷ []))
found_more ps vs rows count crowded heads next number place found so_far chains below at =
    let long : length (chains_of ps count crowded rows) ≡ length rows = many_chains ps count crowded rows in
    leads_to ps vs rows count crowded (number + 1) place (get_or (chains_of ps count crowded rows) number 0) (found ++ filter (agrees ps vs) (get_or rows number [] ∷ []))
    (subst (λ m. Leads (chains_of ps count crowded rows) (get_or (chains_of ps count crowded rows) number 0) (number + 1) m) (sym at) (chains.later number (omega (arith, below, long))))
    (so_far.meets below)
    (ap (λ (l : RowList). l ++ filter (agrees ps vs) (get_or rows number [] ∷ [])) so_far.is ∙ sym (filter_more (agrees ps vs) rows number [] below))

pub found_all : (ps : List ℕ) (vs : List (List ℕ)) (rows : RowList) (count : ℕ) (crowded : Crowded) (place : ℕ) (found : RowList) → FoundTo ps vs rows count crowded place found → length rows ≤ place → found ≡ filter (agrees ps vs) rows
found_all ps vs rows count crowded place found so_far end =
    let whole : place ≡ length rows = omega (arith, so_far.within, end) in
    so_far.is ∙ ap (λ m. filter (agrees ps vs) (take m rows)) whole ∙ ap (filter (agrees ps vs)) (take-length rows)

-- what a read of a list gave, whatever stands for the places behind its end
pub read_at : {X : Type 0} (xs : List X) (i : ℕ) (v d : X) → i < length xs → v ≡ get_or xs i v → v ≡ get_or xs i d
read_at xs i v d below is = is ∙ get_or_default xs i v d below

all_at : (count : ℕ) (codes : List ℕ) (i : ℕ) → AllByRecursion (λ code. code < count) codes → i < length codes → get_or codes i 0 < count
all_at count [] i all below = absurd (omega (arith, below))
all_at count (code ∷ codes) zero all below = all.0
all_at count (code ∷ codes) (suc i) all below = all_at count codes i all.1 (omega (arith, below))

-- one place more at the front of the chains
pub first_more : (codes : List ℕ) (code n head : ℕ) → n < length codes → Leads codes code (n + 1) head → get_or codes n 0 ≢ code → Leads codes code n head
first_more codes code n head below leads apart = record {
  onward = omega (arith, leads.onward);
  within = leads.within;
  skips = λ k low high. elim (cases_eq k n) [
    | inl same ↦ subst (λ m. get_or codes m 0 ≢ code) (sym same) apart
    | inr other ↦ leads.skips k (omega (arith, low, other)) high
  ];
  meets = leads.meets;
}

pub first_here : (codes : List ℕ) (code n : ℕ) → n < length codes → get_or codes n 0 ≡ code → Leads codes code n n
first_here codes code n below is = record {
  onward = omega arith;
  within = omega (arith, below);
  skips = λ k low high. absurd (omega (arith, low, high));
  meets = λ _. is;
}

pub at_end : (codes : List ℕ) (code n : ℕ) → n ≡ length codes → Leads codes code n n
at_end codes code n end = record {
  onward = omega arith;
  within = omega (arith, end);
  skips = λ k low high. absurd (omega (arith, low, high));
  meets = λ below. absurd (omega (arith, below, end));
}

-- the chains of the places from a number on
pub record ChainsFrom (codes : List ℕ) (count n : ℕ) (heads next : List ℕ) : Type 0 where
  pub heads_long : length heads ≡ count
  pub next_long : length next ≡ length codes
  pub within : n ≤ length codes
  pub first : (code : ℕ) → code < count → Leads codes code n (get_or heads code 0)
  pub later : (k : ℕ) → n ≤ k → k < length codes → Leads codes (get_or codes k 0) (k + 1) (get_or next k 0)

pub chains_more : (codes : List ℕ) (count n : ℕ) (heads next : List ℕ) → ChainsFrom codes count (n + 1) heads next → get_or codes n 0 < count
    → ChainsFrom codes count n (set heads (get_or codes n 0) n) (set next n (get_or heads (get_or codes n 0) 0))
chains_more codes count n heads next made small = record {
  heads_long = length-set heads (get_or codes n 0) n ∙ made.heads_long;
  next_long = length-set next n (get_or heads (get_or codes n 0) 0) ∙ made.next_long;
  within = omega (arith, made.within);
  first = λ code few. elim (cases_eq code (get_or codes n 0)) [
    | inl same ↦ subst (λ m. Leads codes code n m) (sym (ap (λ m. get_or (set heads (get_or codes n 0) n) m 0) same ∙ get_or-set_same heads (get_or codes n 0) n 0 (omega (arith, small, made.heads_long)))) (first_here codes code n (omega (arith, made.within)) (sym same))
    | inr other ↦ subst (λ m. Leads codes code n m) (sym (get_or-set_other heads (get_or codes n 0) code n 0 other)) (first_more codes code n (get_or heads code 0) (omega (arith, made.within)) (made.first code few) (λ e. other (sym e)))
  ];
  later = λ k low high. elim (cases_eq k n) [
    | inl same ↦
        let here : get_or (set next n (get_or heads (get_or codes n 0) 0)) k 0 ≡ get_or heads (get_or codes n 0) 0 =
        ap (λ m. get_or (set next n (get_or heads (get_or codes n 0) 0)) m 0) same ∙ get_or-set_same next n (get_or heads (get_or codes n 0) 0) 0 (omega (arith, made.next_long, made.within)) in
        subst (λ m. Leads codes (get_or codes k 0) (k + 1) m) (sym here)
        (subst (λ m. Leads codes (get_or codes m 0) (m + 1) (get_or heads (get_or codes n 0) 0)) (sym same) (made.first (get_or codes n 0) small))
    | inr other ↦ subst (λ m. Leads codes (get_or codes k 0) (k + 1) m) (sym (get_or-set_other next n k (get_or heads (get_or codes n 0) 0) 0 other)) (made.later k (omega (arith, low, other)) high)
  ];
}

pub chains_step : (codes : List ℕ) (count number : ℕ) (heads next : List ℕ) (v : ℕ) → 0 < number → AllByRecursion (λ code. code < count) codes → ChainsFrom codes count number heads next → v ≡ get_or heads (get_or codes (number - 1) 0) v
    → ChainsFrom codes count (number - 1) (set heads (get_or codes (number - 1) 0) (number - 1)) (set next (number - 1) v)
chains_step codes count number heads next v some all made at =
    let whole : number ≡ (number - 1) + 1 = omega (arith, some) in
    let small : get_or codes (number - 1) 0 < count = all_at count codes (number - 1) all (omega (arith, some, made.within)) in
    let read : v ≡ get_or heads (get_or codes (number - 1) 0) 0 = read_at heads (get_or codes (number - 1) 0) v 0 (omega (arith, small, made.heads_long)) at in
    subst (λ m. ChainsFrom codes count (number - 1) (set heads (get_or codes (number - 1) 0) (number - 1)) (set next (number - 1) m)) (sym read)
    (chains_more codes count (number - 1) heads next (subst (λ m. ChainsFrom codes count m heads next) whole made) small)

-- the places before the number have their codes
abbrev pub KeepCodes : List ℕ → ℕ → List ℕ → Type 0
KeepCodes codes number next = (k : ℕ) → k < number → get_or next k 0 ≡ get_or codes k 0

-- a step where what stands behind a place takes the place of its code
pub chains_in_place : (codes : List ℕ) (count number : ℕ) (heads next : List ℕ) (code v : ℕ) → 0 < number → AllByRecursion (λ code. code < count) codes → ChainsFrom codes count number heads next
    → KeepCodes codes number next → code ≡ get_or next (number - 1) code → v ≡ get_or heads code v → ChainsFrom codes count (number - 1) (set heads code (number - 1)) (set next (number - 1) v)
chains_in_place codes count number heads next code v some all made kept at read =
    let is : code ≡ get_or codes (number - 1) 0 = read_at next (number - 1) code 0 (omega (arith, some, made.next_long, made.within)) at ∙ kept (number - 1) (omega (arith, some)) in
    let same : v ≡ get_or heads (get_or codes (number - 1) 0) v = read ∙ ap (λ m. get_or heads m v) is in
    subst (λ m. ChainsFrom codes count (number - 1) (set heads m (number - 1)) (set next (number - 1) v)) (sym is) (chains_step codes count number heads next v some all made same)

pub codes_kept : (codes next : List ℕ) (number v : ℕ) → KeepCodes codes number next → KeepCodes codes (number - 1) (set next (number - 1) v)
codes_kept codes next number v kept = λ k low. get_or-set_other next (number - 1) k v 0 (λ e. absurd (omega (arith, e, low))) ∙ kept k (omega (arith, low))

-- the indexes of attached relations
pub indexes_without : (rel : ℕ) (list : List Attachment) (xs : List Index) → AreIndexes list xs → AreIndexes (others_than rel list) (filter (λ x. not (nat_eq x.rel rel)) xs)
indexes_without rel list [] h = tt
indexes_without rel list (x ∷ xs) h = by (cases_eq x.rel rel) (indexes_without rel list xs h.1)
  where
    by : (x.rel ≡ rel) ⊎ (x.rel ≢ rel) → AreIndexes (others_than rel list) (filter (λ y. not (nat_eq y.rel rel)) xs) → AreIndexes (others_than rel list) (filter (λ y. not (nat_eq y.rel rel)) (x ∷ xs))
    by (inl same) rest = let test : nat_eq x.rel rel ≡ true = grind (arith, nat_tests, same) in rw test rest
    by (inr other) rest =
        let test : nat_eq x.rel rel ≡ false = grind (arith, nat_tests, other) in
        rw test (subst (λ (o : Option Attachment). IsSomeAnd o (λ a. Indexes x a.rows)) (sym (others_stay rel x.rel list other)) h.0, rest)

pub indexes_push : (list : List Attachment) (a : Attachment) (xs : List Index) → attachment_in list a.rel ≡ None → AreIndexes list xs → AreIndexes (list ++ a ∷ []) xs
indexes_push list a [] absent h = tt
indexes_push list a (x ∷ xs) absent h = (
  subst (λ (o : Option Attachment). IsSomeAnd o (λ b. Indexes x b.rows))
      (sym (others_push list a x.rel (λ same. subst (λ (o : Option Attachment). IsSomeAnd o (λ b. Indexes x b.rows)) (ap (attachment_in list) same ∙ absent) h.0)))
      h.0,
  indexes_push list a xs absent h.1,
)

pub indexes_of : (list : List Attachment) (rel : ℕ) (a : Attachment) (xs : List Index) → AreIndexes list xs → attachment_in list rel ≡ Some a → IndexesOf rel a.rows xs
indexes_of list rel a [] h at = tt
indexes_of list rel a (x ∷ xs) h at =
    (λ same. subst (λ (o : Option Attachment). IsSomeAnd o (λ b. Indexes x b.rows)) (ap (attachment_in list) same ∙ at) h.0, indexes_of list rel a xs h.1 at)

all_push : (list : List Attachment) (xs : List Index) (y : Index) → AreIndexes list xs → IsSomeAnd (attachment_in list y.rel) (λ a. Indexes y a.rows) → AreIndexes list (xs ++ y ∷ [])
all_push list [] y h one = (one, tt)
all_push list (x ∷ xs) y h one = (h.0, all_push list xs y h.1 one)

pub are_more : (list : List Attachment) (rel : ℕ) (a : Attachment) (old new : List Index) → AreIndexes list old → attachment_in list rel ≡ Some a → OneMore rel a.rows old new → AreIndexes list new
are_more list rel a old new h at (inl same) = subst (AreIndexes list) (sym same) h
are_more list rel a old new h at (inr more) =
    subst (AreIndexes list) (sym more.1) (all_push list old more.0 h (subst (λ (o : Option Attachment). IsSomeAnd o (λ b. Indexes more.0 b.rows)) (sym (ap (attachment_in list) more.2 ∙ at)) more.3))

-- an index that is found is of the relation, on the positions
pub index_found : (xs : List Index) (rel : ℕ) (rows : RowList) (ps : List ℕ) (x : Index) → IndexesOf rel rows xs → index_in xs rel ps ≡ Some x → Indexes x rows × (x.positions ≡ ps)
index_found [] rel rows ps x h at = absurd (cc)
index_found (y ∷ ys) rel rows ps x h at = by (nat_eq y.rel rel && pointwise nat_eq y.positions ps) refl (index_found ys rel rows ps x h.1)
  where
    by : (b : Bool) → (nat_eq y.rel rel && pointwise nat_eq y.positions ps) ≡ b → (index_in ys rel ps ≡ Some x → Indexes x rows × (x.positions ≡ ps)) → Indexes x rows × (x.positions ≡ ps)
    by true test later =
        let both = both_true (nat_eq y.rel rel) (pointwise nat_eq y.positions ps) test in
        let same : y.rel ≡ rel = grind (arith, nat_tests, both.0) in
        let at2 = rw test at at in
        let is : y ≡ x = cc in
        subst (λ (z : Index). Indexes z rows × (z.positions ≡ ps)) is (h.0 same, (bytes_decides y.positions ps).0 both.1)
    by false test later = let at2 = rw test at at in later at2

-- Rows of an answer in chains, one for each key.
use Rattle.std.proofs.Common.{◌≡◌, ◌≢◌, ◌≤◌, ◌<◌, ◌+◌, ◌∙◌, ℕ, List, [], ◌∷◌, ◌++◌, Some, Bool, true, false, cond, drop, take, length, map, get_or, set, replicate, inl, inr, refl, sym, ap, subst, arith}
use Rattle.std.specs.Prelude.{Contains, slice_get}
use Rattle.std.specs.List.Sorted.{IsStrictlySortedBy}
use Rattle.std.specs.declared.cmp.Ordering.TheVariants.{Less}
use Rattle.std.proofs.Math.ListN.{length-set}
use Rattle.std.proofs.lemmas.Bool.{cases_eq, cases_lt}
use Rattle.std.proofs.lemmas.List.{append-nil, append_assoc, drop_all, get_or-replicate, get_or-set_same, get_or-set_other, map_more}
use Rattle.std.proofs.lemmas.Map.Keys.{Less-from_sorted}
use Rattle.std.proofs.lemmas.Option.{slice_get-get_or, slice_get_within, get_or_from_slice_get}
use Rattle.lists.proofs.Members.{contains_got, some_injective}
use Rattle.lists.proofs.Orders.{rows_equiv, rows_same_equal}
use Rattle.row_text.specs.Packed.{AreEnds, cut_at}
use Rattle.row_text.specs.RowText.{row_cmp, row_eq}
use Rattle.row_text.proofs.Comparing.{drop_got}
use Rattle.row_text.proofs.Orders.{not_itself}
use Rattle.row_text.proofs.Packing.{packed_more}
use Rattle.source_trait.specs.Asking.{RowList}
use Rattle.source_trait.proofs.Indexing.{read_at}
use Rattle.middleware.specs.Parts.{HaveChains, IsChain, key_of, part_of}

-- ---- one chain

-- a chain from a number on is one from a smaller number on
chain_below : (rows : RowList) (next : List ℕ) (low high place : ℕ) (part : RowList) → low ≤ high → IsChain rows next high place part → IsChain rows next low place part
chain_below rows next low high place [] less chain = chain
chain_below rows next low high place (row ∷ part) less chain = (omega (arith, chain.0), chain.1, chain.2, chain.3)

-- what stands behind a place before it does not matter
chain_kept : (rows : RowList) (next : List ℕ) (n v low place : ℕ) (part : RowList) → n < low → IsChain rows next low place part → IsChain rows (set next n v) low place part
chain_kept rows next n v low place [] less chain = chain
chain_kept rows next n v low place (row ∷ part) less chain = (
  chain.0,
  chain.1,
  chain.2,
  subst (λ m. IsChain rows (set next n v) (place + 1) m part) (sym (get_or-set_other next n place v 0 (λ e. absurd (omega (arith, e, less, chain.0)))))
      (chain_kept rows next n v (place + 1) (get_or next place 0) part (omega (arith, less, chain.0)) chain.3),
)

-- the rows that are not yet added stand in a chain
pub record IsLeft (rows : RowList) (next : List ℕ) (place : ℕ) (all more : RowList) : Type 0 where
  pub left : RowList
  pub chain : IsChain rows next 0 place left
  pub is : all ≡ more ++ left

pub left_first : (rows : RowList) (next : List ℕ) (place : ℕ) (before part : RowList) → IsChain rows next 0 place part → IsLeft rows next place (before ++ part) before
left_first rows next place before part chain = record { left = part; chain = chain; is = refl }

chain_up : (rows : RowList) (next : List ℕ) (low place : ℕ) (part : RowList) → low ≤ length rows → IsChain rows next low place part → low ≤ place
chain_up rows next low place [] within chain = omega (arith, within, chain)
chain_up rows next low place (row ∷ part) within chain = chain.0

-- the next place is behind this one
pub left_onward : (rows : RowList) (next : List ℕ) (place : ℕ) (all more : RowList) → IsLeft rows next place all more → place < length rows → place < get_or next place 0
left_onward rows next place all more so_far within = by so_far.left so_far.chain
  where
    by : (left : RowList) → IsChain rows next 0 place left → place < get_or next place 0
    by [] chain = absurd (omega (arith, within, chain))
    by (row ∷ left) chain = let up = chain_up rows next (place + 1) (get_or next place 0) left (omega (arith, within)) chain.3 in omega (arith, up)

-- one row was added
pub left_more : (rows : RowList) (next : List ℕ) (place : ℕ) (all more longer : RowList) → IsLeft rows next place all more → place < length rows → longer ≡ more ++ get_or rows place [] ∷ []
    → IsLeft rows next (get_or next place 0) all longer
left_more rows next place all more longer so_far within added = by so_far.left so_far.chain so_far.is
  where
    by : (left : RowList) → IsChain rows next 0 place left → all ≡ more ++ left → IsLeft rows next (get_or next place 0) all longer
    by [] chain is = absurd (omega (arith, within, chain))
    by (row ∷ left) chain is = record {
      left = left;
      chain = chain_below rows next 0 (place + 1) (get_or next place 0) left (omega arith) chain.3;
      is = is ∙ sym (append_assoc more (row ∷ []) left) ∙ ap (λ (r : List (List ℕ)). (more ++ r ∷ []) ++ left) chain.2 ∙ ap (λ (l : RowList). l ++ left) (sym added);
    }

-- behind the last row all are added
pub left_none : (rows : RowList) (next : List ℕ) (place : ℕ) (all more : RowList) → IsLeft rows next place all more → length rows ≤ place → more ≡ all
left_none rows next place all more so_far past = by so_far.left so_far.chain so_far.is
  where
    by : (left : RowList) → IsChain rows next 0 place left → all ≡ more ++ left → more ≡ all
    by [] chain is = sym (is ∙ append-nil more)
    by (row ∷ left) chain is = absurd (omega (arith, past, chain.1))

-- ---- the chains of the keys

-- a row stands at one place of ascending rows alone
not_below : (keys : RowList) (i j : ℕ) (key : List (List ℕ)) → IsStrictlySortedBy row_cmp keys → slice_get keys i ≡ Some key → slice_get keys j ≡ Some key → i < j → ⊥
not_below keys i j key ascends at there less =
    let first : get_or keys i [] ≡ key = get_or_from_slice_get keys i key [] at in
    let second : get_or keys j [] ≡ key = get_or_from_slice_get keys j key [] there in
    let below : row_cmp (get_or keys i []) (get_or keys j []) ≡ Less = Less-from_sorted row_cmp keys i j [] ascends less (slice_get_within keys j key there) in
    not_itself key (rw (first, second) at below)

one_place : (keys : RowList) (i j : ℕ) (key : List (List ℕ)) → IsStrictlySortedBy row_cmp keys → slice_get keys i ≡ Some key → slice_get keys j ≡ Some key → i ≡ j
one_place keys i j key ascends at there = elim (cases_lt i j) [
  | inl less ↦ absurd (not_below keys i j key ascends at there less)
  | inr more ↦ elim (cases_lt j i) [
    | inl less ↦ absurd (not_below keys j i key ascends there at less)
    | inr other ↦ omega (arith, more, other)
  ]
]

module _ (positions : List ℕ) (answer keys : RowList) where
  -- no row is in a chain yet
  pub chains_none : (n : ℕ) (heads next : List ℕ) → n ≡ length answer → heads ≡ replicate (length keys) n → length next ≡ n → length heads ≡ length keys → HaveChains positions answer keys n heads next
  chains_none n heads next all empty long count = record {
    heads_long = count;
    next_long = long ∙ all;
    each = λ k key at.
        let head : get_or heads k 0 ≡ n = ap (λ (l : List ℕ). get_or l k 0) empty ∙ get_or-replicate (length keys) k n 0 (slice_get_within keys k key at) in
        let none : drop n answer ≡ [] = drop_all n answer (omega (arith, all)) in
        subst (λ (l : RowList). IsChain answer next n (get_or heads k 0) (part_of positions l key)) (sym none) (omega (arith, head, all));
  }

  module _ (n : ℕ) (row values : List (List ℕ)) (heads next : List ℕ) (less : n < length answer) (is : row ≡ get_or answer n []) (has : values ≡ key_of positions row)
      (so_far : HaveChains positions answer keys (n + 1) heads next) where
    opened : drop n answer ≡ row ∷ drop (n + 1) answer
    opened = drop_got answer n row (slice_get-get_or answer n [] less ∙ ap Some (sym is))

    part_front : (key : List (List ℕ)) (b : Bool) → row_eq (key_of positions row) key ≡ b
        → part_of positions (drop n answer) key ≡ cond b (row ∷ part_of positions (drop (n + 1) answer) key) (part_of positions (drop (n + 1) answer) key)
    part_front key b e =
        ap (λ (l : RowList). part_of positions l key) opened
        ∙ ap (λ (c : Bool). cond c (row ∷ part_of positions (drop (n + 1) answer) key) (part_of positions (drop (n + 1) answer) key)) e

    -- the row has the key
    part_here : (key : List (List ℕ)) → values ≡ key → part_of positions (drop n answer) key ≡ row ∷ part_of positions (drop (n + 1) answer) key
    part_here key e = part_front key true (subst (λ (k : List (List ℕ)). row_eq (key_of positions row) k ≡ true) (sym has ∙ e) (rows_equiv.refl (key_of positions row)))

    -- the row has another one
    part_other : (key : List (List ℕ)) → (values ≡ key → ⊥) → part_of positions (drop n answer) key ≡ part_of positions (drop (n + 1) answer) key
    part_other key other = go (row_eq (key_of positions row) key) refl
      where
        go : (b : Bool) → row_eq (key_of positions row) key ≡ b → part_of positions (drop n answer) key ≡ part_of positions (drop (n + 1) answer) key
        go true e = absurd (other (has ∙ rows_same_equal (key_of positions row) key e))
        go false e = part_front key false e

    same_chain : (k : ℕ) (key : List (List ℕ)) → slice_get keys k ≡ Some key → (values ≡ key → ⊥) → IsChain answer next n (get_or heads k 0) (part_of positions (drop n answer) key)
    same_chain k key at other =
        subst (λ (l : RowList). IsChain answer next n (get_or heads k 0) l) (sym (part_other key other))
        (chain_below answer next n (n + 1) (get_or heads k 0) (part_of positions (drop (n + 1) answer) key) (omega arith) (so_far.each k key at))

    -- the row has none of the keys
    pub chains_without : (Contains keys values → ⊥) → HaveChains positions answer keys n heads next
    chains_without absent = record {
      heads_long = so_far.heads_long;
      next_long = so_far.next_long;
      each = λ k key at. same_chain k key at (λ e. absent (subst (λ (v : List (List ℕ)). Contains keys v) (sym e) (contains_got keys k key at)));
    }

    -- the row stands in front of the chain of its key
    module _ (place v : ℕ) (ascends : IsStrictlySortedBy row_cmp keys) (found : slice_get keys place ≡ Some values) (was : v ≡ get_or heads place v) where
      within : place < length heads
      within = let k = slice_get_within keys place values found in let l = so_far.heads_long in omega (arith, k, l)

      read : v ≡ get_or heads place 0
      read = read_at heads place v 0 within was

      here : (key : List (List ℕ)) → values ≡ key → IsChain answer (set next n v) n n (part_of positions (drop n answer) key)
      here key e =
          let part = part_of positions (drop (n + 1) answer) key in
          let at : slice_get keys place ≡ Some key = found ∙ ap Some e in
          let kept : IsChain answer (set next n v) (n + 1) (get_or heads place 0) part =
          chain_kept answer next n v (n + 1) (get_or heads place 0) part (omega arith) (so_far.each place key at) in
          let behind : get_or (set next n v) n 0 ≡ get_or heads place 0 = get_or-set_same next n v 0 (let l = so_far.next_long in omega (arith, l, less)) ∙ read in
          subst (λ (l : RowList). IsChain answer (set next n v) n n l) (sym (part_here key e))
          (omega arith, less, is, subst (λ m. IsChain answer (set next n v) (n + 1) m part) (sym behind) kept)

      other_chain : (k : ℕ) (key : List (List ℕ)) → slice_get keys k ≡ Some key → k ≢ place → IsChain answer (set next n v) n (get_or heads k 0) (part_of positions (drop n answer) key)
      other_chain k key at apart =
          let other : values ≡ key → ⊥ = λ e. apart (one_place keys k place key ascends at (found ∙ ap Some e)) in
          subst (λ (l : RowList). IsChain answer (set next n v) n (get_or heads k 0) l) (sym (part_other key other))
          (chain_below answer (set next n v) n (n + 1) (get_or heads k 0) (part_of positions (drop (n + 1) answer) key) (omega arith)
          (chain_kept answer next n v (n + 1) (get_or heads k 0) (part_of positions (drop (n + 1) answer) key) (omega arith) (so_far.each k key at)))

      pub chains_with : HaveChains positions answer keys n (set heads place n) (set next n v)
      chains_with = record {
        heads_long = length-set heads place n ∙ so_far.heads_long;
        next_long = length-set next n v ∙ so_far.next_long;
        each = λ k key at. elim (cases_eq k place) [
          | inl same ↦
              let e : values ≡ key = some_injective values key (sym found ∙ ap (slice_get keys) (sym same) ∙ at) in
              let head : get_or (set heads place n) k 0 ≡ n = ap (λ m. get_or (set heads place n) m 0) same ∙ get_or-set_same heads place n 0 within in
              subst (λ m. IsChain answer (set next n v) n m (part_of positions (drop n answer) key)) (sym head) (here key e)
          | inr apart ↦
              subst (λ m. IsChain answer (set next n v) n m (part_of positions (drop n answer) key)) (sym (get_or-set_other heads place k n 0 apart)) (other_chain k key at apart)
        ];
      }

  -- ---- the parts, which lie one behind another

  -- the chain of a key leads to its part
  pub chain_at : (heads next lent : List ℕ) (k head : ℕ) → HaveChains positions answer keys 0 heads next → lent ≡ next → head ≡ get_or heads k head → k < length keys
      → IsChain answer lent 0 head (part_of positions answer (get_or keys k []))
  chain_at heads next lent k head chains same is within =
      let part = part_of positions answer (get_or keys k []) in
      let first : head ≡ get_or heads k 0 = read_at heads k head 0 (let l = chains.heads_long in omega (arith, l, within)) is in
      subst (λ (l : List ℕ). IsChain answer l 0 head part) (sym same)
      (subst (λ m. IsChain answer next 0 m part) (sym first) (chains.each k (get_or keys k []) (slice_get-get_or keys k [] within)))

  pub parts_next : (ends more_ends : List ℕ) (rows more : RowList) (k count : ℕ) → k < length keys → AreEnds 0 ends (length rows) → cut_at 0 ends rows ≡ map (part_of positions answer) (take k keys)
      → more ≡ rows ++ part_of positions answer (get_or keys k []) → count ≡ length more → more_ends ≡ ends ++ count ∷ []
      → AreEnds 0 more_ends (length more) × (cut_at 0 more_ends more ≡ map (part_of positions answer) (take (k + 1) keys))
  parts_next ends more_ends rows more k count within are cut grown counted ended =
      let step = packed_more ends more_ends rows more (part_of positions answer (get_or keys k [])) count are grown counted ended in (
        step.0,
        step.1 ∙ ap (λ (l : List RowList). l ++ part_of positions answer (get_or keys k []) ∷ []) cut ∙ sym (map_more (part_of positions answer) keys k [] within),
      )

-- A step of blocks is one of the partial rows.
use Rattle.std.proofs.Common.{◌≡◌, ◌⊎◌, ◌↔◌, inl, inr, ⊎_elim, ℕ, zero, suc, ◌+◌, ◌<◌, ◌≤◌, List, [], ◌∷◌, ◌++◌, length, map, Some, Bool, true, refl, sym, ◌∙◌, ap, subst, arith}
use Rattle.std.specs.Prelude.{Contains, slice_get, flat_map}
use Rattle.std.specs.List.{range_with_len}
use Rattle.std.proofs.lemmas.List.FromFn.{length-map-range_with_len}
use Rattle.lists.proofs.Members.{contains_here, contains_map, contains_mapped, map_same, contains_none, contains_one}
use Rattle.meaning.specs.declared.types.Place.{Place}
use Rattle.meaning.specs.declared.types.Place.TheVariants.{Const, Col, New}
use Rattle.meaning.specs.Plans.{made}
use Rattle.source_trait.specs.Asking.{RowList}
use Rattle.middleware.specs.Joining.{grown, input_row_of}
use Rattle.middleware.specs.Naming.{Texts, Fits, AreOfTexts, AreNamed, AreAsked, IsLocal, inputs_of}
use Rattle.middleware.specs.Blocks.{FitsBlock, FitsAll, HasColumn, IsApart, IsWhole, AreWhole, AreTables, HaveColumn, HaveLive, AreBlocks, GathersRows, Gathers, IsCut}
use Rattle.middleware.specs.declared.blocks.Block.{Block}
use Rattle.middleware.proofs.TableJoins.{inputs_same, local_keeps}
use Rattle.middleware.proofs.Blocking.{OfNames, names_after, matches_same, asked_same, Hits, fits_next, next_fits, next_of_texts, in_range, range_below, range_local, texts_of, row_is}
use Rattle.middleware.proofs.Gathering.{SameRows, over, over_in, over_out, fits_beside, blocks_cut, tables_cut, live_cut, all_push, fits_split, has_first, has_last}

-- ---- partial rows as a table

abbrev pub first_columns : ℕ → List ℕ
first_columns n = range_with_len 0 n

-- partial rows of n columns have a value for each
pub wide_whole : (n : ℕ) (rows : RowList) → ((row : List (List ℕ)) → Contains rows row → length row ≡ n) → AreOfTexts (first_columns n) rows
wide_whole n rows wide row c = (texts_of row, sym (row_is n row (wide row c)))

-- ---- the table that asks

-- what blocks that share no column with a table leave of the values that it has: just what the partial rows have
module _ (live : ℕ → Bool) (n : ℕ) (partial : RowList) (blocks : List Block) (m : AreBlocks live n partial blocks) (columns : List ℕ) (first table : Block) (rest : List Block)
    (g : Gathers n columns first blocks table [] rest) (first_rows : first.rows ≡ [] ∷ []) (first_columns_are : first.columns ≡ []) where
  first_whole : IsWhole first
  first_whole row c =
      let is : [] ≡ row = contains_one [] row (subst (λ (l : RowList). Contains l row) first_rows c) in
      ((λ k. []), sym is ∙ ap (map (λ k. [])) (sym first_columns_are))

  first_fits : (texts : Texts) → FitsBlock texts first
  first_fits texts =
      subst (λ (l : RowList). Contains l (map texts first.columns)) (sym first_rows)
      (subst (λ (l : List ℕ). Contains ([] ∷ []) (map texts l)) (sym first_columns_are) (contains_here [] []))

  rows_of : GathersRows first blocks table [] rest
  rows_of = g.rows first_whole m.whole

  pub table_whole : IsWhole table
  table_whole = rows_of.both_whole

  pub rest_whole : AreWhole rest
  rest_whole = rows_of.rest_whole

  pub rest_apart : (b : Block) → Contains rest b → IsApart b.columns table.columns
  rest_apart b c k h j = ⊎_elim (λ i. contains_none k (subst (λ (l : List ℕ). Contains l k) first_columns_are i)) (λ (not_left, not_rest). not_rest (b, c, h)) (g.from k j)

  pub table_fits : (texts : Texts) → FitsAll texts blocks → FitsBlock texts table × FitsAll texts rest
  table_fits texts f = let (a, b, c) = (rows_of.fits texts).0 (first_fits texts, f) in (a, c)

  pub fits_table : (texts : Texts) → FitsBlock texts table → FitsAll texts rest → FitsAll texts blocks
  fits_table texts a c = ((rows_of.fits texts).1 (a, (λ b i. absurd (contains_none b i)), c)).1

  -- the values of a row of the table are those of a partial row at the live columns
  pub row_beside : (texts : Texts) → FitsBlock texts table → (its : Texts) × Fits its (first_columns n) partial × ((k : ℕ) → k < n → live k ≡ true → HasColumn table k → its k ≡ texts k)
  row_beside texts f =
      let (all, fits, fits_it, same) = fits_beside table texts rest f g.rest_tables.apart rest_whole g.some rest_apart in
      let (its, there, at_live) = m.back all (fits_table all fits_it fits) in
      (its, there, (λ k l is h. at_live k l is ∙ same k h))

  -- the images of the partial rows are those of the rows of the table
  module _ (of_row of_table : List (List ℕ) → List (List ℕ)) (of_texts : Texts → List (List ℕ))
      (row_texts : (texts : Texts) → of_row (map texts (first_columns n)) ≡ of_texts texts) (table_texts : (texts : Texts) → of_table (map texts table.columns) ≡ of_texts texts)
      (same_texts : (texts others : Texts) → ((k : ℕ) → k < n → live k ≡ true → HasColumn table k → others k ≡ texts k) → of_texts others ≡ of_texts texts) where
    pub same_images : (y : List (List ℕ)) → Contains (map of_table table.rows) y ↔ Contains (map of_row partial) y
    same_images y = (
      (λ c.
          let (row, among, e) = contains_mapped of_table table.rows y c in
          let (texts, is) = table_whole row among in
          let (its, there, same) = row_beside texts (subst (Contains table.rows) is among) in
          let value : of_row (map its (first_columns n)) ≡ y = row_texts its ∙ same_texts texts its same ∙ sym (table_texts texts) ∙ ap of_table (sym is) ∙ e in
          subst (Contains (map of_row partial)) value (contains_map of_row partial (map its (first_columns n)) there)),
      (λ c.
          let (row, among, e) = contains_mapped of_row partial y c in
          let is = row_is n row (m.wide row among) in
          let fits = (table_fits (texts_of row) (m.there (texts_of row) (subst (Contains partial) (sym is) among))).0 in
          let value : of_table (map (texts_of row) table.columns) ≡ y = table_texts (texts_of row) ∙ sym (row_texts (texts_of row)) ∙ ap of_row is ∙ e in
          subst (Contains (map of_table table.rows)) value (contains_map of_table table.rows (map (texts_of row) table.columns) fits)),
    )

-- the table has each live column that it was to have
pub has_asked : (live : ℕ → Bool) (n : ℕ) (blocks : List Block) (columns : List ℕ) (first table : Block) (rest : List Block) → Gathers n columns first blocks table [] rest → HaveLive live n blocks
    → (k : ℕ) → k < n → live k ≡ true → Contains columns k → HasColumn table k
has_asked live n blocks columns first table rest g have k l is among =
    ⊎_elim (λ h. h) (⊎_elim (λ (b, c, h). absurd (contains_none b c)) (λ (b, c, h). absurd (g.lacks b c k h among))) (g.keeps k (inr (have k l is)))

-- ---- one step

-- it holds of each column that the places make
made_named : (P : ℕ → Type 0) (n : ℕ) (places : List Place) → OfNames P n places → (k : ℕ) → n ≤ k → k < made n places → P k
made_named P n [] o k low high = absurd (omega (arith, low, high))
made_named P n (Const c ∷ places) o k low high = made_named P n places o k low high
made_named P n (Col j ∷ places) o k low high = made_named P n places o.1 k low high
made_named P n (New ∷ places) o k low high = ⊎_elim (λ (e : n ≡ k). subst P e o.0) (λ l. made_named P (n + 1) places o.1 k l high) (here_or n k low)
  where
    here_or : (n k : ℕ) → n ≤ k → (n ≡ k) ⊎ (n + 1 ≤ k)
    here_or zero zero l = inl refl
    here_or zero (suc k) l = inr (omega arith)
    here_or (suc n) zero l = absurd (omega (arith, l))
    here_or (suc n) (suc k) l = ⊎_elim (λ e. inl (ap suc e)) (λ h. inr (omega (arith, h))) (here_or n k (omega (arith, l)))

below_or : (n k : ℕ) → (k < n) ⊎ (n ≤ k)
below_or zero k = inr (omega arith)
below_or (suc n) zero = inl (omega arith)
below_or (suc n) (suc k) = ⊎_elim (λ l. inl (omega (arith, l))) (λ l. inr (omega (arith, l))) (below_or n k)

module _ (live less : ℕ → Bool) (n : ℕ) (places : List Place) (inputs : List ℕ) (named : AreNamed n places)
    (named_live : OfNames (λ k. k < n → live k ≡ true) n places) (less_live : (k : ℕ) → less k ≡ true → live k ≡ true)
    (input_live : (p k : ℕ) → Contains inputs p → slice_get places p ≡ Some (Col k) → (k < n) × (live k ≡ true))
    (blocks : List Block) (columns : List ℕ) (first table : Block) (rest : List Block)
    (g : Gathers n columns first blocks table [] rest) (first_rows : first.rows ≡ [] ∷ []) (first_columns_are : first.columns ≡ [])
    (has : AreAsked table.columns places inputs) (locals : List Place) (after : List ℕ) (local : IsLocal table.columns n places locals after) where
  abbrev next_n : ℕ
  next_n = made n places

  whole_inputs : AreAsked (first_columns n) places inputs
  whole_inputs p k c e = in_range n k ((input_live p k c e).0)

  -- what a step asks of the table is what it asks of the partial rows
  pub asks_same : (partial : RowList) → AreBlocks live n partial blocks → (values : List (List ℕ)) → Contains (map (input_row_of locals inputs) table.rows) values ↔ Contains (map (input_row_of places inputs) partial) values
  asks_same partial m = same_images live n partial blocks m columns first table rest g first_rows first_columns_are (input_row_of places inputs) (input_row_of locals inputs) (λ texts. inputs_of texts places inputs)
      (λ texts. inputs_same texts (first_columns n) n places places (first_columns (made n places)) inputs (range_below n) named (range_local n places named) whole_inputs)
      (λ texts. inputs_same texts table.columns n places locals after inputs g.below named local has)
      (λ texts others same. asked_same texts others places inputs (λ p k c e. let (l, is) = input_live p k c e in same k l is (has p k c e)))

  module _ (grown_block both cut : Block) (others : List Block) (grown_columns : grown_block.columns ≡ after) (g2 : Gathers next_n after grown_block rest both [] others) (cuts : IsCut less both cut) where
    both_apart : (b : Block) → Contains others b → IsApart b.columns both.columns
    both_apart b c k h j =
        ⊎_elim (λ i. g2.lacks b c k h (subst (λ (l : List ℕ). Contains l k) grown_columns i)) (λ (not_left, not_rest). not_rest (b, c, h)) (g2.from k j)

    pub tables_next : AreTables next_n (others ++ cut ∷ [])
    tables_next = tables_cut less next_n others both cut cuts g2.below g2.rest_tables both_apart

    pub live_next : HaveLive live n blocks → HaveLive less next_n (others ++ cut ∷ [])
    live_next have = live_cut less next_n others both cut cuts (λ k l is.
        let joined : HasColumn grown_block k ⊎ HaveColumn rest k → HaveColumn (others ++ both ∷ []) k = λ c.
        ⊎_elim (λ h. has_last others both k h) (⊎_elim (λ (b, i, h). absurd (contains_none b i)) (λ h. has_first others both k h)) (g2.keeps k c) in
        let grew : Contains after k → HasColumn grown_block k = λ h. subst (λ (c : List ℕ). Contains c k) (sym grown_columns) h in
        ⊎_elim
        (λ old. ⊎_elim (λ h. joined (inl (grew (local_keeps table.columns n places locals after local k h)))) (⊎_elim (λ (b, i, h). absurd (contains_none b i)) (λ h. joined (inr h)))
        (g.keeps k (inr (have k old (less_live k is)))))
        (λ new. joined (inl (grew (made_named (Contains after) n places (names_after table.columns n places locals after local) k new l))))
        (below_or n k))

    -- an answer that matches texts, in terms of the answer to each request
    module _ (partial : RowList) (answer : List (List ℕ) → RowList) (m : AreBlocks live n partial blocks)
        (next_is : SameRows (flat_map (λ row. grown locals (answer (input_row_of locals inputs row)) row) table.rows) grown_block.rows) where
      abbrev whole_next : RowList
      whole_next = flat_map (λ row. grown places (answer (input_row_of places inputs row)) row) partial

      pub blocks_next : AreBlocks less next_n whole_next (others ++ cut ∷ [])
      blocks_next = blocks_cut less next_n whole_next others both cut both_apart cuts (record {
        wide = λ row c.
            let (texts, is) = next_of_texts (first_columns n) n places places (first_columns next_n) inputs (range_below n) named (range_local n places named) whole_inputs answer partial (wide_whole n partial m.wide) row c in
            ap length is ∙ length-map-range_with_len texts 0 next_n;
        whole = all_push IsWhole others both gathered.rest_whole gathered.both_whole;
        there = λ texts f.
            let (old, hit) = next_fits (first_columns n) n places places (first_columns next_n) inputs (range_below n) named (range_local n places named) whole_inputs answer partial (wide_whole n partial m.wide) texts f in
            let (t, r) = table_fits live n partial blocks m columns first table rest g first_rows first_columns_are texts (m.there texts old) in
            let (b, none, o) = (gathered.fits texts).0 (grew texts t hit, r) in
            all_push (FitsBlock texts) others both o b;
        back = λ texts f.
            let (o, b) = fits_split texts others both f in
            let (grown_fits, r) = (gathered.fits texts).1 (b, (λ d i. absurd (contains_none d i)), o) in
            let (t, (values, answered, matches)) = grew_from texts grown_fits in
            let (its, there, same) = m.back texts (fits_table live n partial blocks m columns first table rest g first_rows first_columns_are texts t r) in
            let mix = over (first_columns n) its texts in
            let at : (k : ℕ) → (k < n → live k ≡ true) → mix k ≡ texts k = mixed its texts same in
            let old : Fits mix (first_columns n) partial = subst (Contains partial) (sym (map_same mix its (first_columns n) (λ k h. over_in (first_columns n) its texts k h))) there in
            let asked = asked_same texts mix places inputs (λ p k c e. at k (λ l. (input_live p k c e).1)) in (
              mix,
              fits_next (first_columns n) n places places (first_columns next_n) inputs (range_below n) named (range_local n places named) whole_inputs answer partial mix old (
                values,
                subst (λ (v : List (List ℕ)). Contains (answer v) values) (sym asked) answered,
                matches_same (λ k. k < n → live k ≡ true) texts mix at n places values named_live matches,
              ),
              (λ k l is. at k (λ h. less_live k is)),
            );
      })
        where
          table_of_texts : IsWhole table
          table_of_texts = table_whole live n partial blocks m columns first table rest g first_rows first_columns_are

          grown_whole : IsWhole grown_block
          grown_whole row c = subst (λ (l : List ℕ). (texts : Texts) × (row ≡ map texts l)) (sym grown_columns)
              (next_of_texts table.columns n places locals after inputs g.below named local has answer table.rows table_of_texts row ((next_is row).0 c))

          gathered : GathersRows grown_block rest both [] others
          gathered = g2.rows grown_whole (rest_whole live n partial blocks m columns first table rest g first_rows first_columns_are)

          grew : (texts : Texts) → FitsBlock texts table → Hits answer places inputs n texts → FitsBlock texts grown_block
          grew texts t hit = subst (λ (l : List ℕ). Contains grown_block.rows (map texts l)) (sym grown_columns)
              ((next_is (map texts after)).1 (fits_next table.columns n places locals after inputs g.below named local has answer table.rows texts t hit))

          grew_from : (texts : Texts) → FitsBlock texts grown_block → FitsBlock texts table × Hits answer places inputs n texts
          grew_from texts f = next_fits table.columns n places locals after inputs g.below named local has answer table.rows table_of_texts texts
              ((next_is (map texts after)).0 (subst (λ (l : List ℕ). Contains grown_block.rows (map texts l)) grown_columns f))

          mixed : (its texts : Texts) → ((k : ℕ) → k < n → live k ≡ true → its k ≡ texts k) → (k : ℕ) → (k < n → live k ≡ true) → over (first_columns n) its texts k ≡ texts k
          mixed its texts same k is = ⊎_elim
              (λ l. over_in (first_columns n) its texts k (in_range n k l) ∙ same k l (is l))
              (λ l. over_out (first_columns n) its texts k (λ h. let b = range_below n k h in omega (arith, l, b)))
              (below_or n k)

-- before the first step
pub no_blocks : (live : ℕ → Bool) → AreBlocks live 0 ([] ∷ []) []
no_blocks live = record {
  wide = λ row c. ap length (sym (contains_one [] row c));
  whole = λ b c. absurd (contains_none b c);
  there = λ texts f b c. absurd (contains_none b c);
  back = λ texts f. (texts, contains_here [] [], (λ k l is. absurd (omega (arith, l))));
}

-- Blocks joined with a table, and cut.
use Rattle.std.proofs.Common.{◌≡◌, ◌⊎◌, ◌↔◌, inl, inr, ⊎_elim, ℕ, ◌+◌, ◌<◌, List, [], ◌∷◌, ◌++◌, length, map, take, get_or, Bool, true, false, cond, nat_eq, refl, sym, ◌∙◌, subst, arith}
use Rattle.std.specs.Prelude.{Contains, flat_map}
use Rattle.std.proofs.lemmas.Bool.Decides.{nat_tests}
use Rattle.std.proofs.lemmas.List.{take_more}
use Rattle.lists.proofs.Members.{contains_here, contains_there, contains_cases, map_same, contains_none, contains_one}
use Rattle.lists.proofs.Booleans.{cond_true}
use Rattle.meaning.specs.declared.types.Place.{Place}
use Rattle.meaning.specs.declared.types.Place.TheVariants.{Col}
use Rattle.source_trait.specs.Asking.{RowList}
use Rattle.middleware.specs.Joining.{grown}
use Rattle.middleware.specs.Naming.{Texts, AreOfTexts, AreNamed, AreAsked, IsLocal, Matches}
use Rattle.middleware.specs.Blocks.{FitsBlock, FitsAll, HasColumn, IsApart, AreApart, IsWhole, AreWhole, IsBelow, AreTables, HaveColumn, HaveLive, AreBlocks, IsJoin, Gathers, IsCut}
use Rattle.middleware.specs.declared.blocks.Block.{Block}
use Rattle.middleware.proofs.TableJoins.{local_keeps}
use Rattle.middleware.proofs.Blocking.{OfNames, local_from, names_after, fits_next, next_fits, next_of_texts}
use Rattle.middleware.proofs.Steps.{in_append, append_first, append_second}

-- ---- a block joined with a table

-- places that name the columns
abbrev pub named_places : List ℕ → List Place
named_places columns = map Col columns

columns_named : (n : ℕ) (columns : List ℕ) → ((k : ℕ) → Contains columns k → k < n) → AreNamed n (named_places columns)
columns_named n [] below = tt
columns_named n (k ∷ columns) below = (below k (contains_here k columns), columns_named n columns (λ j c. below j (contains_there k columns j c)))

columns_of_names : (P : ℕ → Type 0) (n : ℕ) (columns : List ℕ) → ((k : ℕ) → Contains columns k → P k) → OfNames P n (named_places columns)
columns_of_names P n [] are = tt
columns_of_names P n (k ∷ columns) are = (are k (contains_here k columns), columns_of_names P n columns (λ j c. are j (contains_there k columns j c)))

names_of_columns : (P : ℕ → Type 0) (n : ℕ) (columns : List ℕ) → OfNames P n (named_places columns) → (k : ℕ) → Contains columns k → P k
names_of_columns P n [] o k c = absurd (omega (arith, c))
names_of_columns P n (j ∷ columns) o k c = ⊎_elim (λ (e : j ≡ k). subst P e o.0) (λ there. names_of_columns P n columns o.1 k there) (contains_cases j columns k c)

matched : (texts : Texts) (n : ℕ) (columns : List ℕ) (values : List (List ℕ)) → Matches texts n (named_places columns) values → values ≡ map texts columns
matched texts n [] [] m = refl
matched texts n [] (v ∷ values) m = absurd m
matched texts n (k ∷ columns) [] m = absurd m
matched texts n (k ∷ columns) (v ∷ values) m = let rest = matched texts n columns values m.1 in let here = m.0 in cc

match : (texts : Texts) (n : ℕ) (columns : List ℕ) → Matches texts n (named_places columns) (map texts columns)
match texts n [] = tt
match texts n (k ∷ columns) = (refl, match texts n columns)

-- rows with the same members
abbrev pub SameRows : RowList → RowList → Type 0
SameRows rows others = (row : List (List ℕ)) → Contains others row ↔ Contains rows row

module _ (n : ℕ) (table block both : Block) (table_below : IsBelow n table) (block_below : IsBelow n block) (first second : RowList)
    (first_same : SameRows table.rows first) (second_same : SameRows block.rows second) (locals : List Place)
    (local : IsLocal table.columns n (named_places block.columns) locals both.columns)
    (rows_are : both.rows ≡ flat_map (grown locals second) first) where
  abbrev names : AreNamed n (named_places block.columns)
  names = columns_named n block.columns block_below

  no_inputs : AreAsked table.columns (named_places block.columns) []
  no_inputs p k c e = absurd (contains_none p c)

  first_whole : IsWhole table → AreOfTexts table.columns first
  first_whole whole row c = whole row ((first_same row).0 c)

  pub is_join : IsJoin table block both
  is_join = record {
    columns = λ k. (
      (λ c. local_from (HasColumn block) table.columns n (named_places block.columns) locals both.columns (columns_of_names (HasColumn block) n block.columns (λ j h. h)) local k c),
      ⊎_elim (λ c. local_keeps table.columns n (named_places block.columns) locals both.columns local k c)
          (λ c. names_of_columns (HasColumn both) n block.columns (names_after table.columns n (named_places block.columns) locals both.columns local) k c),
    );
    whole = λ whole other row c.
        next_of_texts table.columns n (named_places block.columns) locals both.columns [] table_below names local no_inputs (λ v. second) first (first_whole whole) row
        (subst (λ (l : RowList). Contains l row) rows_are c);
    fits = λ whole texts. (
      (λ c.
          let (old, (values, among, m)) = next_fits table.columns n (named_places block.columns) locals both.columns [] table_below names local no_inputs (λ v. second) first (first_whole whole) texts
          (subst (λ (l : RowList). Contains l (map texts both.columns)) rows_are c) in (
            (first_same (map texts table.columns)).0 old,
            (second_same (map texts block.columns)).0 (subst (Contains second) (matched texts n block.columns values m) among),
          )),
      (λ (f, s). subst (λ (l : RowList). Contains l (map texts both.columns)) (sym rows_are)
          (fits_next table.columns n (named_places block.columns) locals both.columns [] table_below names local no_inputs (λ v. second) first texts
          ((first_same (map texts table.columns)).1 f)
          (map texts block.columns, (second_same (map texts block.columns)).1 s, match texts n block.columns))),
    );
  }

-- the row without columns
no_texts : (texts : Texts) (block : Block) → block.rows ≡ [] ∷ [] → block.columns ≡ [] → FitsBlock texts block
no_texts texts block rows_are none =
    subst (λ (l : RowList). Contains l (map texts block.columns)) (sym rows_are)
    (subst (λ (l : List ℕ). Contains ([] ∷ []) (map texts l)) (sym none) (contains_here [] []))

pub join_first : (table block : Block) → table.rows ≡ [] ∷ [] → table.columns ≡ [] → IsJoin table block block
join_first table block rows_are none = record {
  columns = λ k. ((λ c. inr c), ⊎_elim (λ c. absurd (contains_none k (subst (λ (l : List ℕ). Contains l k) none c))) (λ c. c));
  whole = λ whole other. other;
  fits = λ whole texts. ((λ f. (no_texts texts table rows_are none, f)), (λ (f, s). s));
}

pub join_second : (table block : Block) → block.rows ≡ [] ∷ [] → block.columns ≡ [] → IsJoin table block table
join_second table block rows_are none = record {
  columns = λ k. ((λ c. inl c), ⊎_elim (λ c. c) (λ c. absurd (contains_none k (subst (λ (l : List ℕ). Contains l k) none c))));
  whole = λ whole other. whole;
  fits = λ whole texts. ((λ f. (f, no_texts texts block rows_are none)), (λ (f, s). f));
}

-- ---- lists of blocks

pub fits_split : (texts : Texts) (blocks : List Block) (last : Block) → FitsAll texts (blocks ++ last ∷ []) → FitsAll texts blocks × FitsBlock texts last
fits_split texts blocks last f = ((λ b c. f b (append_first blocks (last ∷ []) b c)), f last (append_second blocks (last ∷ []) last (contains_here last [])))

pub all_push : (P : Block → Type 0) (blocks : List Block) (last : Block) → ((b : Block) → Contains blocks b → P b) → P last → (b : Block) → Contains (blocks ++ last ∷ []) b → P b
all_push P blocks last are is b c = ⊎_elim (λ h. are b h) (λ h. subst P (contains_one last b h) is) (in_append blocks (last ∷ []) b c)

pub has_last : (blocks : List Block) (last : Block) (k : ℕ) → HasColumn last k → HaveColumn (blocks ++ last ∷ []) k
has_last blocks last k c = (last, append_second blocks (last ∷ []) last (contains_here last []), c)

pub has_first : (blocks : List Block) (last : Block) (k : ℕ) → HaveColumn blocks k → HaveColumn (blocks ++ last ∷ []) k
has_first blocks last k (b, among, c) = (b, append_first blocks (last ∷ []) b among, c)

pub has_cases : (blocks : List Block) (last : Block) (k : ℕ) → HaveColumn (blocks ++ last ∷ []) k → HaveColumn blocks k ⊎ HasColumn last k
has_cases blocks last k (b, among, c) = ⊎_elim (λ h. inl (b, h, c)) (λ h. inr (subst (λ d. HasColumn d k) (sym (contains_one last b h)) c)) (in_append blocks (last ∷ []) b among)

apart_first : (blocks : List Block) (last : Block) → AreApart (blocks ++ last ∷ []) → AreApart blocks
apart_first [] last a = tt
apart_first (b ∷ blocks) last a = ((λ other c. a.0 other (append_first blocks (last ∷ []) other c)), apart_first blocks last a.1)

apart_last : (blocks : List Block) (last : Block) → AreApart (blocks ++ last ∷ []) → (b : Block) → Contains blocks b → IsApart b.columns last.columns
apart_last [] last a b c = absurd (contains_none b c)
apart_last (d ∷ blocks) last a b c =
    ⊎_elim (λ (e : d ≡ b). subst (λ x. IsApart x.columns last.columns) e (a.0 last (append_second blocks (last ∷ []) last (contains_here last []))))
    (λ there. apart_last blocks last a.1 b there) (contains_cases d blocks b c)

apart_push : (blocks : List Block) (last : Block) → AreApart blocks → ((b : Block) → Contains blocks b → IsApart b.columns last.columns) → AreApart (blocks ++ last ∷ [])
apart_push [] last a are = ((λ other c. absurd (contains_none other c)), tt)
apart_push (b ∷ blocks) last a are = (
  all_push (λ other. IsApart b.columns other.columns) blocks last a.0 (are b (contains_here b blocks)),
  apart_push blocks last a.1 (λ d c. are d (contains_there b blocks d c)),
)

pub tables_push : (n : ℕ) (blocks : List Block) (last : Block) → AreTables n blocks → IsBelow n last → ((b : Block) → Contains blocks b → IsApart b.columns last.columns) → AreTables n (blocks ++ last ∷ [])
tables_push n blocks last t below apart = record { below = all_push (IsBelow n) blocks last t.below below; apart = apart_push blocks last t.apart apart }

tables_first : (n : ℕ) (blocks : List Block) (last : Block) → AreTables n (blocks ++ last ∷ []) → AreTables n blocks
tables_first n blocks last t = record { below = λ b c. t.below b (append_first blocks (last ∷ []) b c); apart = apart_first blocks last t.apart }

pub tables_none : (n : ℕ) → AreTables n []
tables_none n = record { below = λ b c. absurd (contains_none b c); apart = tt }

pub apart_more : (columns others : List ℕ) (i d : ℕ) → i < length columns → (Contains others (get_or columns i d) → ⊥) → IsApart (take i columns) others → IsApart (take (i + 1) columns) others
apart_more columns others i d less not apart k here there = ⊎_elim
    (λ h. apart k h there)
    (λ h. not (subst (Contains others) (sym (contains_one (get_or columns i d) k h)) there))
    (in_append (take i columns) (get_or columns i d ∷ []) k (subst (λ (l : List ℕ). Contains l k) (take_more columns i d less) here))

-- ---- blocks gathered

pub gathers_none : (n : ℕ) (columns : List ℕ) (table : Block) (blocks : List Block) → IsBelow n table → AreTables n blocks → Gathers n columns table blocks table blocks []
gathers_none n columns table blocks below tables = record {
  below = below;
  left_tables = tables;
  rest_tables = tables_none n;
  apart = λ b d c h. absurd (contains_none b c);
  some = λ b c. absurd (contains_none b c);
  lacks = λ b c. absurd (contains_none b c);
  from = λ k c. inl c;
  keeps = λ k. ⊎_elim (λ c. inl c) (λ c. inr (inl c));
  rows = λ whole others. record {
    both_whole = whole;
    left_whole = others;
    rest_whole = λ b c. absurd (contains_none b c);
    fits = λ texts. ((λ (f, s). (f, s, (λ b c. absurd (contains_none b c)))), (λ (f, s, r). (f, s)));
  };
}

module _ (n : ℕ) (columns : List ℕ) (table : Block) (blocks : List Block) (both : Block) (left rest : List Block) (last : Block)
    (g : Gathers n columns table blocks both (left ++ last ∷ []) rest) where
  last_among : Contains (left ++ last ∷ []) last
  last_among = append_second left (last ∷ []) last (contains_here last [])

  pub last_below : IsBelow n last
  last_below = g.left_tables.below last last_among

  rest_apart : (b : Block) → Contains rest b → IsApart b.columns last.columns
  rest_apart b c = g.apart b last c last_among

  left_apart : (b : Block) → Contains left b → IsApart b.columns last.columns
  left_apart = apart_last left last g.left_tables.apart

  pub gathers_rest : ((row : List (List ℕ)) × Contains last.rows row) → IsApart last.columns columns → Gathers n columns table blocks both left (rest ++ last ∷ [])
  gathers_rest some lacks = record {
    below = g.below;
    left_tables = tables_first n left last g.left_tables;
    rest_tables = tables_push n rest last g.rest_tables (g.left_tables.below last last_among) rest_apart;
    apart = λ b d c h k here there.
        all_push (λ x. IsApart x.columns d.columns) rest last (λ x i. g.apart x d i (append_first left (last ∷ []) d h)) (λ j in_last in_d. left_apart d h j in_d in_last) b c k here there;
    some = all_push (λ b. (row : List (List ℕ)) × Contains b.rows row) rest last g.some some;
    lacks = all_push (λ b. IsApart b.columns columns) rest last g.lacks lacks;
    from = λ k c. ⊎_elim (λ h. inl h) (λ (not_left, not_rest). inr (
      (λ h. not_left (has_first left last k h)),
      (λ h. ⊎_elim not_rest (λ i. not_left (has_last left last k i)) (has_cases rest last k h)),
    )) (g.from k c);
    keeps = λ k c. ⊎_elim (λ h. inl h)
        (⊎_elim (λ h. ⊎_elim (λ i. inr (inl i)) (λ i. inr (inr (has_last rest last k i))) (has_cases left last k h)) (λ h. inr (inr (has_first rest last k h)))) (g.keeps k c);
    rows = λ whole others.
        let r = g.rows whole others in record {
          both_whole = r.both_whole;
          left_whole = λ b c. r.left_whole b (append_first left (last ∷ []) b c);
          rest_whole = all_push IsWhole rest last r.rest_whole (r.left_whole last last_among);
          fits = λ texts. (
            (λ f. let (a, b, c) = (r.fits texts).0 f in let (d, e) = fits_split texts left last b in (a, d, all_push (FitsBlock texts) rest last c e)),
            (λ (a, b, c). let (d, e) = fits_split texts rest last c in (r.fits texts).1 (a, all_push (FitsBlock texts) left last b e, d)),
          );
        };
  }

  pub gathers_join : (more : Block) → IsJoin both last more → Gathers n columns table blocks more left rest
  gathers_join more j = record {
    below = λ k c. ⊎_elim (λ h. g.below k h) (λ h. g.left_tables.below last last_among k h) ((j.columns k).0 c);
    left_tables = tables_first n left last g.left_tables;
    rest_tables = g.rest_tables;
    apart = λ b d c h. g.apart b d c (append_first left (last ∷ []) d h);
    some = g.some;
    lacks = g.lacks;
    from = λ k c. ⊎_elim
        (λ h. ⊎_elim (λ i. inl i) (λ (not_left, not_rest). inr ((λ i. not_left (has_first left last k i)), not_rest)) (g.from k h))
        (λ h. inr ((λ (b, among, i). left_apart b among k i h), (λ (b, among, i). rest_apart b among k i h)))
        ((j.columns k).0 c);
    keeps = λ k c. ⊎_elim (λ h. inl ((j.columns k).1 (inl h)))
        (⊎_elim (λ h. ⊎_elim (λ i. inr (inl i)) (λ i. inl ((j.columns k).1 (inr i))) (has_cases left last k h)) (λ h. inr (inr h))) (g.keeps k c);
    rows = λ whole others.
        let r = g.rows whole others in record {
          both_whole = j.whole r.both_whole (r.left_whole last last_among);
          left_whole = λ b c. r.left_whole b (append_first left (last ∷ []) b c);
          rest_whole = r.rest_whole;
          fits = λ texts. (
            (λ f. let (a, b, c) = (r.fits texts).0 f in let (d, e) = fits_split texts left last b in ((j.fits r.both_whole texts).1 (a, e), d, c)),
            (λ (a, b, c). let (d, e) = (j.fits r.both_whole texts).0 a in (r.fits texts).1 (d, all_push (FitsBlock texts) left last b e, c)),
          );
        };
  }

-- ---- texts that are of a row of each block

abbrev among : List ℕ → ℕ → Bool
among [] k = false
among (j ∷ columns) k = cond (nat_eq j k) true (among columns k)

is_among : (columns : List ℕ) (k : ℕ) → Contains columns k → among columns k ≡ true
is_among [] k c = absurd (contains_none k c)
is_among (j ∷ columns) k c =
    ⊎_elim (λ (e : j ≡ k). let test : nat_eq j k ≡ true = grind (arith, nat_tests, e) in rw test refl) (λ h. cond_true (nat_eq j k) (among columns k) (is_among columns k h)) (contains_cases j columns k c)

among_is : (columns : List ℕ) (k : ℕ) → among columns k ≡ true → Contains columns k
among_is [] k e = absurd (cc)
among_is (j ∷ columns) k e = go (nat_eq j k) refl e (λ f. among_is columns k f)
  where
    go : (b : Bool) → nat_eq j k ≡ b → cond b true (among columns k) ≡ true → (among columns k ≡ true → Contains columns k) → Contains (j ∷ columns) k
    go true is f more = let same : j ≡ k = grind (arith, nat_tests, is) in subst (Contains (j ∷ columns)) same (contains_here j columns)
    go false is f more = contains_there j columns k (more f)

-- the first texts at the columns, and the others elsewhere
abbrev pub over : List ℕ → Texts → Texts → Texts
over columns first second k = cond (among columns k) (first k) (second k)

pub over_in : (columns : List ℕ) (first second : Texts) (k : ℕ) → Contains columns k → over columns first second k ≡ first k
over_in columns first second k c = rw (is_among columns k c) refl

pub over_out : (columns : List ℕ) (first second : Texts) (k : ℕ) → (Contains columns k → ⊥) → over columns first second k ≡ second k
over_out columns first second k not = go (among columns k) refl
  where
    go : (b : Bool) → among columns k ≡ b → cond (among columns k) (first k) (second k) ≡ second k
    go true e = absurd (not (among_is columns k e))
    go false e = rw e refl

fits_same : (texts others : Texts) (block : Block) → ((k : ℕ) → HasColumn block k → others k ≡ texts k) → FitsBlock texts block → FitsBlock others block
fits_same texts others block same f = subst (Contains block.rows) (sym (map_same others texts block.columns same)) f

-- blocks that have rows and share no column have a row each of some texts, which are any ones elsewhere
pub fits_some : (columns : List ℕ) (texts : Texts) (blocks : List Block) → AreApart blocks → AreWhole blocks → ((b : Block) → Contains blocks b → (row : List (List ℕ)) × Contains b.rows row)
    → ((b : Block) → Contains blocks b → IsApart b.columns columns) → (its : Texts) × FitsAll its blocks × ((k : ℕ) → Contains columns k → its k ≡ texts k)
fits_some columns texts [] a w some apart = (texts, (λ b c. absurd (contains_none b c)), (λ k c. refl))
fits_some columns texts (b ∷ blocks) a w some apart =
    let (its, fits, same) = fits_some columns texts blocks a.1 (λ d c. w d (contains_there b blocks d c)) (λ d c. some d (contains_there b blocks d c)) (λ d c. apart d (contains_there b blocks d c)) in
    let (row, there) = some b (contains_here b blocks) in
    let (own, is) = w b (contains_here b blocks) row there in
    let all = over b.columns own its in (
      all,
      (λ d c. ⊎_elim
          (λ (e : b ≡ d). subst (FitsBlock all) e (fits_same own all b (λ k h. over_in b.columns own its k h) (subst (Contains b.rows) is there)))
          (λ h. fits_same its all d (λ k i. over_out b.columns own its k (λ j. a.0 d h k j i)) (fits d h))
          (contains_cases b blocks d c)),
      (λ k c. over_out b.columns own its k (λ h. apart b (contains_here b blocks) k h c) ∙ same k c),
    )

-- texts of a table, and of a row of each of the blocks that it shares no column with
pub fits_beside : (table : Block) (texts : Texts) (blocks : List Block) → FitsBlock texts table → AreApart blocks → AreWhole blocks → ((b : Block) → Contains blocks b → (row : List (List ℕ)) × Contains b.rows row)
    → ((b : Block) → Contains blocks b → IsApart b.columns table.columns) → (its : Texts) × FitsAll its blocks × FitsBlock its table × ((k : ℕ) → HasColumn table k → its k ≡ texts k)
fits_beside table texts blocks f a w some apart =
    let (its, fits, same) = fits_some table.columns texts blocks a w some apart in (its, fits, fits_same texts its table same f, same)

-- ---- a block that is cut

pub cut_itself : (live : ℕ → Bool) (block : Block) → IsCut live block block
cut_itself live block = record { within = λ k c. c; keeps = λ k l c. c; whole = λ w. w; there = λ texts f. f; back = λ w texts f. (texts, f, (λ k c. refl)) }

pub blocks_cut : (live : ℕ → Bool) (n : ℕ) (partial : RowList) (rest : List Block) (block cut : Block) → ((b : Block) → Contains rest b → IsApart b.columns block.columns) → IsCut live block cut
    → AreBlocks live n partial (rest ++ block ∷ []) → AreBlocks live n partial (rest ++ cut ∷ [])
blocks_cut live n partial rest block cut apart c m = record {
  wide = m.wide;
  whole = all_push IsWhole rest cut (λ b i. m.whole b (append_first rest (block ∷ []) b i)) (c.whole block_whole);
  there = λ texts f. let (a, b) = fits_split texts rest block (m.there texts f) in all_push (FitsBlock texts) rest cut a (c.there texts b);
  back = λ texts f.
      let (a, b) = fits_split texts rest cut f in
      let (its, fits, same) = c.back block_whole texts b in
      let all = over block.columns its texts in
      let fits_block : FitsBlock all block = fits_same its all block (λ k h. over_in block.columns its texts k h) fits in
      let fits_rest : FitsAll all rest = λ d i. fits_same texts all d (λ k h. over_out block.columns its texts k (λ j. apart d i k h j)) (a d i) in
      let (row, there, live_same) = m.back all (all_push (FitsBlock all) rest block fits_rest fits_block) in (
        row,
        there,
        (λ k l is. live_same k l is ∙ at_live its texts same k is),
      );
}
  where
    block_whole : IsWhole block
    block_whole = m.whole block (append_second rest (block ∷ []) block (contains_here block []))

    at_live : (its : Texts) → (texts : Texts) → ((k : ℕ) → HasColumn cut k → its k ≡ texts k) → (k : ℕ) → live k ≡ true → over block.columns its texts k ≡ texts k
    at_live its texts same k is = go (among block.columns k) refl
      where
        go : (b : Bool) → among block.columns k ≡ b → cond (among block.columns k) (its k) (texts k) ≡ texts k
        go true e = rw e (same k (c.keeps k is (among_is block.columns k e)))
        go false e = rw e refl

pub tables_cut : (live : ℕ → Bool) (n : ℕ) (rest : List Block) (block cut : Block) → IsCut live block cut → IsBelow n block → AreTables n rest → ((b : Block) → Contains rest b → IsApart b.columns block.columns) → AreTables n (rest ++ cut ∷ [])
tables_cut live n rest block cut c below t apart = tables_push n rest cut t (λ k h. below k (c.within k h)) (λ b i k h j. apart b i k h (c.within k j))

pub live_cut : (live : ℕ → Bool) (n : ℕ) (rest : List Block) (block cut : Block) → IsCut live block cut → HaveLive live n (rest ++ block ∷ []) → HaveLive live n (rest ++ cut ∷ [])
live_cut live n rest block cut c have k l is = ⊎_elim (λ h. has_first rest cut k h) (λ h. has_last rest cut k (c.keeps k is h)) (has_cases rest block k (have k l is))

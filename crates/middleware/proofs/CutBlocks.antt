-- A block without the columns that are not live.
use Rattle.std.proofs.Common.{◌≡◌, ⊎_elim, ℕ, ◌+◌, ◌<◌, List, [], ◌∷◌, ◌++◌, length, map, take, get_or, Some, Bool, true, false, sym, ◌∙◌, ap, subst}
use Rattle.std.specs.Prelude.{Contains, slice_get}
use Rattle.std.proofs.lemmas.List.{map-append, take_more}
use Rattle.std.proofs.lemmas.Option.{slice_get-get_or}
use Rattle.lists.proofs.Members.{contains_got, contains_none, contains_one, contains_map, contains_mapped, map_got}
use Rattle.source_trait.specs.Asking.{RowList}
use Rattle.middleware.specs.Joining.{text_or}
use Rattle.middleware.specs.Naming.{Texts}
use Rattle.middleware.specs.Parts.{key_of}
use Rattle.middleware.specs.Cutting.{AddsKept, KeepsLive, KeepsOne}
use Rattle.middleware.specs.Blocks.{FitsBlock, IsWhole, IsCut}
use Rattle.middleware.specs.declared.blocks.Block.{Block}
use Rattle.middleware.specs.declared.live.Kept.{Kept}
use Rattle.middleware.proofs.TableJoins.{map_push, same_at}
use Rattle.middleware.proofs.Gathering.{SameRows}
use Rattle.middleware.proofs.Steps.{in_append, append_first, append_second}

module _ (live : ℕ → Bool) (columns : List ℕ) where
  pub keeps_none : (kept : Kept) → kept.columns ≡ [] → kept.places.items ≡ [] → KeepsLive live columns [] kept
  keeps_none kept none empty = record {
    within = λ k c. absurd (contains_none k (subst (λ (l : List ℕ). Contains l k) none c));
    keeps = λ k is c. absurd (contains_none k c);
    reads = λ texts. ap (λ (l : List ℕ). key_of l (map texts columns)) empty ∙ ap (λ (l : List ℕ). map texts l) (sym none);
  }

  module _ (number column : ℕ) (got : slice_get columns number ≡ Some column) (looked after : List ℕ) (after_is : after ≡ looked ++ column ∷ []) (old : Kept) (k : KeepsLive live columns looked old) where
    pub keeps_dead : live column ≡ false → KeepsLive live columns after old
    keeps_dead dead = record {
      within = k.within;
      keeps = λ j is c. ⊎_elim (λ h. k.keeps j is h) (λ h. let same = contains_one column j h in absurd (not_both (live j) is (ap live (sym same) ∙ dead)))
          (in_append looked (column ∷ []) j (subst (λ (l : List ℕ). Contains l j) after_is c));
      reads = k.reads;
    }
      where
        not_both : (b : Bool) → b ≡ true → b ≡ false → ⊥
        not_both true e f = absurd (cc)
        not_both false e f = absurd (cc)

    pub keeps_live : (new : Kept) → new.columns ≡ old.columns ++ column ∷ [] → new.places.items ≡ old.places.items ++ number ∷ [] → KeepsLive live columns after new
    keeps_live new columns_are places_are = record {
      within = λ j c. ⊎_elim (λ h. k.within j h) (λ h. subst (Contains columns) (contains_one column j h) (contains_got columns number column got))
          (in_append old.columns (column ∷ []) j (subst (λ (l : List ℕ). Contains l j) columns_are c));
      keeps = λ j is c. subst (λ (l : List ℕ). Contains l j) (sym columns_are) (⊎_elim
          (λ h. append_first old.columns (column ∷ []) j (k.keeps j is h))
          (λ h. append_second old.columns (column ∷ []) j h)
          (in_append looked (column ∷ []) j (subst (λ (l : List ℕ). Contains l j) after_is c)));
      reads = λ texts.
          let one : text_or (slice_get (map texts columns) number) ≡ texts column = ap text_or (map_got texts columns number column got) in
          ap (λ (l : List ℕ). key_of l (map texts columns)) places_are
          ∙ map-append (λ p. text_or (slice_get (map texts columns) p)) old.places.items (number ∷ [])
          ∙ ap (λ (l : List (List ℕ)). l ++ text_or (slice_get (map texts columns) number) ∷ []) (k.reads texts)
          ∙ ap (λ (t : List ℕ). map texts old.columns ++ t ∷ []) one
          ∙ sym (map_push texts old.columns column)
          ∙ ap (λ (l : List ℕ). map texts l) (sym columns_are);
    }

pub one_dead : (live : ℕ → Bool) (column number : ℕ) (kept : Kept) → live column ≡ false → KeepsOne live column number kept kept
one_dead live column number kept dead = record { goes_on = λ columns looked after got is k. keeps_dead live columns number column got looked after is kept k dead }

pub one_live : (live : ℕ → Bool) (column number : ℕ) (old new : Kept) → AddsKept column number old new → KeepsOne live column number old new
one_live live column number old new a = record { goes_on = λ columns looked after got is k. keeps_live live columns number column got looked after is old k new a.columns_are a.places_are }

pub one_looked : (live : ℕ → Bool) (columns : List ℕ) (number d : ℕ) → number < length columns → (old new : Kept) → KeepsOne live (get_or columns number d) number old new
    → KeepsLive live columns (take number columns) old → KeepsLive live columns (take (number + 1) columns) new
one_looked live columns number d less old new one k =
    one.goes_on columns (take number columns) (take (number + 1) columns) (slice_get-get_or columns number d less) (take_more columns number d less) k

pub is_cut : (live : ℕ → Bool) (block cut : Block) (kept : Kept) (list : RowList) → KeepsLive live block.columns block.columns kept → list ≡ map (key_of kept.places.items) block.rows
    → cut.columns ≡ kept.columns → SameRows list cut.rows → IsCut live block cut
is_cut live block cut kept list k list_is columns_are same = record {
  within = λ j c. k.within j (subst (λ (l : List ℕ). Contains l j) columns_are c);
  keeps = λ j is c. subst (λ (l : List ℕ). Contains l j) (sym columns_are) (k.keeps j is c);
  whole = λ whole row c. let (texts, f, is) = from whole row c in (texts, is);
  there = λ texts f. subst (Contains cut.rows) (k.reads texts ∙ at_cut texts)
      ((same (key_of kept.places.items (map texts block.columns))).1
      (subst (λ (l : RowList). Contains l (key_of kept.places.items (map texts block.columns))) (sym list_is) (contains_map (key_of kept.places.items) block.rows (map texts block.columns) f)));
  back = λ whole texts f.
      let (its, there, is) = from whole (map texts cut.columns) f in
      (its, there, (λ j c. sym (same_at texts its cut.columns is j c)));
}
  where
    at_cut : (texts : Texts) → map texts kept.columns ≡ map texts cut.columns
    at_cut texts = ap (λ (l : List ℕ). map texts l) (sym columns_are)

    from : IsWhole block → (row : List (List ℕ)) → Contains cut.rows row → (texts : Texts) × FitsBlock texts block × (row ≡ map texts cut.columns)
    from whole row c =
        let (old, among, e) = contains_mapped (key_of kept.places.items) block.rows row (subst (λ (l : RowList). Contains l row) list_is ((same row).0 c)) in
        let (texts, is) = whole old among in
        (texts, subst (Contains block.rows) is among, sym e ∙ ap (key_of kept.places.items) is ∙ k.reads texts ∙ at_cut texts)

-- What the search for a column finds.
use Rattle.std.proofs.Common.{◌≡◌, ◌≢◌, ◌⊎◌, ℕ, ◌<◌, ◌+◌, List, [], ◌∷◌, ◌++◌, length, ap, subst, sym, ◌∙◌, refl, inl, inr, ⊎_elim, arith, append_assoc}
use Rattle.std.specs.Prelude.{Contains, Option, Some, None, slice_get}
use Rattle.std.proofs.lemmas.Bool.{cases_eq}
use Rattle.std.proofs.lemmas.List.{length_push, append-nil}
use Rattle.std.proofs.lemmas.Option.{slice_get_within}
use Rattle.lists.proofs.Members.{contains_got, some_injective, none_some}
use Rattle.meaning.specs.declared.types.Relation.{Relation}
use Rattle.sql_select.specs.declared.columns.Found.{Found}
use Rattle.sql_select.specs.declared.columns.Found.TheVariants as found
use Rattle.sql_select.specs.Names.{HasColumn, IsColumnAt}
use Rattle.sql_select.specs.Resolving.{place_from, place_in, place_at, found_in, joined}
use Rattle.sql_select.proofs.FromFaults.{Placed, place_says, found_at}

-- a place of a column is one of a FROM item that has it
pub has_of : (relations : List Relation) (rels : List ℕ) (name : List ℕ) (from column : ℕ) → IsColumnAt relations rels from column name → HasColumn relations rels name from
has_of relations rels name from column (rel, relation, got, got', at) = (rel, relation, got, got', contains_got relation.columns column name at)

-- what a search in one FROM item says
abbrev pub PlaceSays : List Relation → List ℕ → List ℕ → ℕ → Option ℕ → Type 0
PlaceSays relations rels name from None = HasColumn relations rels name from → ⊥
PlaceSays relations rels name from (Some column) = IsColumnAt relations rels from column name

pub place_at_says : (relations : List Relation) (rels : List ℕ) (name : List ℕ) (from : ℕ) → PlaceSays relations rels name from (place_at relations (slice_get rels from) name)
place_at_says relations rels name from = go (slice_get rels from) refl
  where
    with_relation : (rel : ℕ) → slice_get rels from ≡ Some rel → (relation : Relation) → slice_get relations rel ≡ Some relation → (place : Option ℕ) → Placed 0 relation.columns name place → PlaceSays relations rels name from place
    with_relation rel got relation e None absent = λ (rel', relation', got', e', c).
        let same : rel' ≡ rel = some_injective rel' rel (sym got' ∙ got) in
        let is : relation' ≡ relation = some_injective relation' relation (sym e' ∙ ap (λ k. slice_get relations k) same ∙ e) in
        absent (subst (λ (r : Relation). Contains r.columns name) is c)
    with_relation rel got relation e (Some column) is = (rel, relation, got, e, found_at relation.columns name column is)

    with_rel : (rel : ℕ) → slice_get rels from ≡ Some rel → (found' : Option Relation) → slice_get relations rel ≡ found' → PlaceSays relations rels name from (place_in found' name)
    with_rel rel got None e = λ (rel', relation', got', e', c).
        let same : rel' ≡ rel = some_injective rel' rel (sym got' ∙ got) in
        none_some relation' (sym e ∙ ap (λ k. slice_get relations k) (sym same) ∙ e')
    with_rel rel got (Some relation) e = with_relation rel got relation e (place_from 0 relation.columns name) (place_says 0 relation.columns name)

    go : (rel : Option ℕ) → slice_get rels from ≡ rel → PlaceSays relations rels name from (place_at relations rel name)
    go None e = λ (rel', relation', got', e', c). none_some rel' (sym e ∙ got')
    go (Some rel) e = with_rel rel e (slice_get relations rel) refl

-- nothing, the only FROM item that has it with its place there, or two items
abbrev pub IsFound : List Relation → List ℕ → List ℕ → Found → Type 0
IsFound relations rels name found.Nothing = (from : ℕ) → HasColumn relations rels name from → ⊥
IsFound relations rels name (found.One from column) = IsColumnAt relations rels from column name × ((other : ℕ) → HasColumn relations rels name other → other ≡ from)
IsFound relations rels name found.Many = (first : ℕ) × (second : ℕ) × (first ≢ second) × HasColumn relations rels name first × HasColumn relations rels name second

module _ (relations : List Relation) (rels : List ℕ) (name : List ℕ) where
  -- what is found among the first n FROM items
  abbrev Among : ℕ → Found → Type 0
  Among n found.Nothing = (from : ℕ) → from < n → HasColumn relations rels name from → ⊥
  Among n (found.One from column) = IsColumnAt relations rels from column name × ((other : ℕ) → other < n → HasColumn relations rels name other → other ≡ from) × (from < n)
  Among n found.Many = (first : ℕ) × (second : ℕ) × (first ≢ second) × HasColumn relations rels name first × HasColumn relations rels name second

  -- one more FROM item
  one_more : (n rel : ℕ) (before : Found) → slice_get rels n ≡ Some rel → Among n before → Among (n + 1) (joined before n (place_in (slice_get relations rel) name))
  one_more n rel before got among = go (place_in (slice_get relations rel) name) (subst (λ (r : Option ℕ). PlaceSays relations rels name n (place_at relations r name)) got (place_at_says relations rels name n))
    where
      split : (other : ℕ) → other < n + 1 → (other ≡ n) ⊎ (other < n)
      split other l = ⊎_elim (λ e. inl e) (λ apart. inr (omega arith)) (cases_eq other n)

      here : (other : ℕ) → other ≡ n → HasColumn relations rels name other → HasColumn relations rels name n
      here other e has = subst (λ k. HasColumn relations rels name k) e has

      keeps : (f : Found) → Among n f → (HasColumn relations rels name n → ⊥) → Among (n + 1) f
      keeps found.Nothing none absent = λ other l has. ⊎_elim (λ e. absent (here other e has)) (λ l'. none other l' has) (split other l)
      keeps (found.One from column) (at, only, l) absent = (at, (λ other l' has. ⊎_elim (λ e. absurd (absent (here other e has))) (λ l''. only other l'' has) (split other l')), omega arith)
      keeps found.Many two absent = two

      adds : (f : Found) (column : ℕ) → Among n f → IsColumnAt relations rels n column name → Among (n + 1) (joined f n (Some column))
      adds found.Nothing column none at = (at, (λ other l has. ⊎_elim (λ e. e) (λ l'. absurd (none other l' has)) (split other l)), omega arith)
      adds (found.One from c) column (at', only, l) at = (from, n, (λ e. absurd (omega arith)), has_of relations rels name from c at', has_of relations rels name n column at)
      adds found.Many column two at = two

      go : (place : Option ℕ) → PlaceSays relations rels name n place → Among (n + 1) (joined before n place)
      go None absent = keeps before among absent
      go (Some column) at = adds before column among at

  all_more : (done left : List ℕ) (before : Found) → rels ≡ done ++ left → Among (length done) before → Among (length rels) (found_in relations (length done) before left name)
  all_more done [] before whole among = let e : length done ≡ length rels = ap length (sym (append-nil done) ∙ sym whole) in subst (λ n. Among n before) e among
  all_more done (rel ∷ left) before whole among =
      let got : slice_get rels (length done) ≡ Some rel = ap (λ l. slice_get l (length done)) whole ∙ middle done in
      let one : length (done ++ rel ∷ []) ≡ length done + 1 = length_push done rel in
      let next : Found = joined before (length done) (place_in (slice_get relations rel) name) in
      let later = all_more (done ++ rel ∷ []) left next (whole ∙ sym (append_assoc done (rel ∷ []) left)) (subst (λ n. Among n next) (sym one) (one_more (length done) rel before got among)) in
      subst (λ n. Among (length rels) (found_in relations n next left name)) one later
    where
      middle : (xs : List ℕ) → slice_get (xs ++ rel ∷ left) (length xs) ≡ Some rel
      middle [] = refl
      middle (x ∷ xs) = middle xs

  within : (other : ℕ) → HasColumn relations rels name other → other < length rels
  within other (rel, relation, got, got', c) = slice_get_within rels other rel got

  pub is_found : IsFound relations rels name (found_in relations 0 found.Nothing rels name)
  is_found = go (found_in relations 0 found.Nothing rels name) (all_more [] rels found.Nothing refl (λ from l has. absurd (omega arith)))
    where
      go : (f : Found) → Among (length rels) f → IsFound relations rels name f
      go found.Nothing none = λ from has. none from (within from has) has
      go (found.One from column) (at, only, l) = (at, (λ other has. only other (within other has) has))
      go found.Many two = two

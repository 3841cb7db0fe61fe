-- Attached relations of the generator, as a source that keeps its rows would have them.
use Rattle.std.proofs.Common.{◌≡◌, ◌<◌, ◌≤◌, ℕ, zero, suc, Bool, true, false, List, [], ◌∷◌, ◌++◌, length, cond, None, Some, option_map, refl, sym, ap, subst, ◌∙◌, arith}
use Rattle.std.specs.Prelude.{IfSome, not, nat_eq}
use Rattle.std.specs.List.{AllByRecursion, filter}
use Rattle.std.proofs.lemmas.List.{map-append}
use Rattle.source_trait.specs.Asking.{CanAsk, HaveArity, agrees, pick}
use Rattle.source_trait.specs.Holding.{IsStore, attached_in, attachment_in, facts_held, others_than}
use Rattle.source_trait.proofs.Stores.{Grows, grows_by, kept_fits, picked, rows_fit, store_push}
use Rattle.world_source.proofs.Rows.{rows_are_pairs}
use Rattle.world_source.specs.Formulas.{IsPairKey, rows_of}
use Rattle.source_trait.specs.declared.holding.Attachment.{Attachment}
use Rattle.world_source.specs.Generated.{attachment_of, attachments_of}
use Rattle.world_source.specs.declared.generated.Generated.{Generated}

-- the same relations are taken away
pub others : (rel : ℕ) (list : List Generated) → attachments_of (filter (λ g. not (nat_eq g.rel rel)) list) ≡ others_than rel (attachments_of list)
others rel [] = refl
others rel (g ∷ list) = step (not (nat_eq g.rel rel)) (others rel list)
  where
    step : (b : Bool) → attachments_of (filter (λ g. not (nat_eq g.rel rel)) list) ≡ others_than rel (attachments_of list) →
        attachments_of (cond b (g ∷ filter (λ g. not (nat_eq g.rel rel)) list) (filter (λ g. not (nat_eq g.rel rel)) list)) ≡ cond b (attachment_of g ∷ others_than rel (attachments_of list)) (others_than rel (attachments_of list))
    step true e = ap (λ (l : List Attachment). attachment_of g ∷ l) e
    step false e = e

-- one more relation, with the rows of a formula
module _ (list new : List Generated) (g : Generated) (rel : ℕ) (columns : List (List ℕ)) (locator : List ℕ) (k n : ℕ)
    (is : attachment_of g ≡ record { rel = rel; columns = columns; locator = locator; rows = rows_of k n; size = 0 }) (push : new ≡ list ++ g ∷ [])
    (absent : attachment_in (attachments_of list) rel ≡ None) where
  pushed : attachments_of new ≡ attachments_of list ++ attachment_of g ∷ []
  pushed = ap attachments_of push ∙ map-append attachment_of list (g ∷ [])

  pub grown : Grows (attachments_of list) (attachments_of new) rel columns locator (rows_of k n) 0
  grown = grows_by (attachments_of list) (attachments_of new) (attachment_of g) rel columns locator (rows_of k n) 0 is pushed absent

  pub grown_store : length columns ≡ 2 → IsStore (attachments_of list) → IsStore (attachments_of new)
  grown_store two store =
      let whole : Attachment = record { rel = rel; columns = columns; locator = locator; rows = rows_of k n; size = 0 } in
      let fit : HaveArity (length columns) (rows_of k n) = subst (λ m. HaveArity m (rows_of k n)) (sym two) (rows_are_pairs k n) in
      let next : attachments_of new ≡ attachments_of list ++ whole ∷ [] = pushed ∙ ap (λ (a : Attachment). attachments_of list ++ a ∷ []) is in
      subst IsStore (sym next) (store_push (attachments_of list) whole store absent fit)

two_columns : (k n columns : ℕ) → 1 ≤ n → HaveArity columns (rows_of k n) → columns ≡ 2
two_columns k zero columns some fit = absurd (omega (arith, some))
two_columns k (suc n) columns some fit = sym fit.0

-- a relation that is attached with the rows of a formula
module _ (store : List Attachment) (rel k n : ℕ) (a : Attachment) (is : IsStore store) (at : attachment_in store rel ≡ Some a) (rows : a.rows ≡ rows_of k n)
    (positions : List ℕ) (values : List (List ℕ)) where
  there : attached_in store rel ≡ Some (a.columns, a.locator)
  there = ap (option_map (λ (x : Attachment). (x.columns, x.locator))) at

  fit : HaveArity (length a.columns) (rows_of k n)
  fit = subst (HaveArity (length a.columns)) rows (rows_fit store rel a is at)

  -- it is asked by keys of pairs
  pub pair_key : 1 ≤ n → CanAsk (attached_in store rel) positions values → IsPairKey positions values
  pair_key some can =
      let key = subst (λ o. CanAsk o positions values) there can in
      let two : length a.columns ≡ 2 = two_columns k n (length a.columns) some fit in
      (key.0, subst (λ m. AllByRecursion (λ p. p < m) positions) two key.1, key.2)

  pub picks : filter (agrees positions values) (rows_of k n) ≡ pick (facts_held store) rel positions values
  picks = ap (filter (agrees positions values)) (sym rows) ∙ sym (picked rel positions values store a is at)

  pub fits : IfSome (attached_in store rel) (λ c. AllByRecursion (λ row. (length row ≡ length c.0) × (agrees positions values row ≡ true)) (filter (agrees positions values) (rows_of k n)))
  fits = rw there (kept_fits (length a.columns) positions values (rows_of k n) fit)

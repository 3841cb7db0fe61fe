-- Atoms that are placed one after the other.
use Rattle.std.proofs.Common.{◌≡◌, ℕ, ◌<◌, List, [], ◌∷◌, ◌++◌, true, false, length, sym, ap, ◌∙◌, subst, ⊎_elim, arith, replicate}
use Rattle.std.specs.Prelude.{Contains, Some, slice_get, slice_set, slice_index_or}
use Rattle.std.proofs.lemmas.Bool.{cases_eq}
use Rattle.std.proofs.lemmas.Option.{slice_get_within, slice_get-get_or}
use Rattle.std.proofs.lemmas.List.{get_or-set_same, get_or-set_other, length-set, length-replicate, get_or-replicate}
use Rattle.std.proofs.lemmas.List.Elements.{Contains-append_left, Contains-push, Contains-push_cases}
use Rattle.lists.proofs.Members.{contains_got, some_injective}
use Rattle.meaning.specs.declared.types.Atom.{Atom}
use Rattle.connected_match.specs.declared.order.Arranging.{Arranging}
use Rattle.connected_match.specs.Orders.{HasSame, IsPlaced, IsArranging, StaysPlaced}

pub placed_none : (atoms : List Atom) (arranging : Arranging) → arranging.ordered.items ≡ [] → arranging.placed.items ≡ replicate (length atoms) false → IsArranging atoms arranging
placed_none atoms arranging none all = record {
  width = ap length all ∙ length-replicate (length atoms) false;
  each = λ atom among. absurd (let (k, low, at) = subst (λ l. Contains l atom) none among in omega arith);
  there = λ k atom placed got. absurd (
      let e : slice_index_or (replicate (length atoms) false) k false ≡ false = get_or-replicate (length atoms) k false false (slice_get_within atoms k atom got) in
      let f : slice_index_or (replicate (length atoms) false) k false ≡ true = subst (λ l. slice_index_or l k false ≡ true) all placed in cc);
}

module _ (atoms : List Atom) (before after : Arranging) (number : ℕ) (atom : Atom) (r : IsArranging atoms before) (got : slice_get atoms number ≡ Some atom)
    (ordered : after.ordered.items ≡ before.ordered.items ++ atom ∷ []) (placed : after.placed.items ≡ slice_set before.placed.items number true) where
  low : number < length before.placed.items
  low = let within = slice_get_within atoms number atom got in let e = r.width in omega (arith, within, e)

  same_at : (k : ℕ) → (k ≡ number → ⊥) → slice_index_or after.placed.items k false ≡ slice_index_or before.placed.items k false
  same_at k apart = ap (λ l. slice_index_or l k false) placed ∙ get_or-set_other before.placed.items number k true false apart

  pub placed_more : IsArranging atoms after
  placed_more = record {
    width = ap length placed ∙ length-set before.placed.items number true ∙ r.width;
    each = λ one among. ⊎_elim (r.each one) (λ same. subst (Contains atoms) same (contains_got atoms number atom got))
        (Contains-push_cases before.ordered.items atom one (subst (λ l. Contains l one) ordered among));
    there = λ k one is at. subst (λ l. Contains l one) (sym ordered) (⊎_elim
        (λ same. subst (Contains (before.ordered.items ++ atom ∷ [])) (some_injective atom one (sym got ∙ ap (slice_get atoms) (sym same) ∙ at)) (Contains-push before.ordered.items atom))
        (λ apart. Contains-append_left before.ordered.items (atom ∷ []) one (r.there k one (sym (same_at k apart) ∙ is) at))
        (cases_eq k number));
  }

pub placed_all : (atoms : List Atom) (arranging : Arranging) → IsArranging atoms arranging → ((k : ℕ) → k < length atoms → IsPlaced arranging k) → HasSame atoms arranging.ordered.items
placed_all atoms arranging r all atom =
    ((λ (k, low, at). r.there k atom (all k low) (slice_get-get_or atoms k atom low ∙ ap Some at)), r.each atom)

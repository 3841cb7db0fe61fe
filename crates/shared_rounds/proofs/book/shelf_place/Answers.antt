use Rattle.std.proofs.Common.{◌≡◌, List, [], ◌∷◌, ◌++◌, ℕ, length, refl, sym, subst, ap, arith}
use Rattle.std.specs.BTreeMap.{is_at}
use Rattle.std.specs.Map.{lookup}
use Rattle.row_text.specs.RowText.{row_cmp}
use Rattle.shared_rounds.specs.Books.{HasShelf}
use Rattle.shared_rounds.specs.declared.book.Shelf.{Shelf}
use Rattle.shared_rounds.proofs.Booking.{none_more, place_found, place_last}
use Rattle.shared_rounds.proofs.book.shelf_place.Goals as goal

pub returns-then-is_for : goal.returns-then-is_for
returns-then-is_for c = place_found c.args.shelves.now.items c.args.rel c.args.positions.now c.loop-place.place c.index.result.now (omega arith) c.index.ensures
    (sym c.if-is_for.ensures) c.loop-place.invariant

pub loop-place-preserved : goal.loop-place-preserved
loop-place-preserved c = none_more c.args.shelves.now.items c.args.rel c.args.positions.now c.loop-place.place c.index.result.now (omega arith) c.index.ensures
    (sym c.if-is_for.ensures) c.loop-place.invariant

pub returns : goal.returns
returns c =
    let same : length c.args.shelves.now.items ≡ c.len-place.result = omega (arith, c.args.shelves.now.ok.0, c.len-place.ensures) in
    let last : Shelf = record { rel = c.args.rel; positions = c.in_ok-copy.field-0; numbers = c.new.result } in
    subst (λ (l : List Shelf). HasShelf c.args.rel c.args.positions.now c.args.shelves.now.items l c.len-place.result) (sym c.in_ok-push.ensures.items)
    (subst (λ (n : ℕ). HasShelf c.args.rel c.args.positions.now c.args.shelves.now.items (c.args.shelves.now.items ++ last ∷ []) n) same
    (place_last c.args.shelves.now.items last c.args.rel c.args.positions.now c.loop-place.place (omega arith) c.loop-place.invariant
    (λ values. ap (λ (es : List (List (List ℕ) × ℕ)). lookup (is_at (row_cmp values)) es) c.new.ensures.empty) (refl) c.in_ok-copy.ensures))

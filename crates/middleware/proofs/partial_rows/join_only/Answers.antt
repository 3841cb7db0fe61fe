use Rattle.std.proofs.Common.{◌∙◌, List, ℕ, length, sym, subst}
use Rattle.std.specs.Prelude.{Contains, slice_get}
use Rattle.middleware.specs.Branches.{IsInput}
use Rattle.middleware.specs.Parts.{part_of}
use Rattle.middleware.proofs.Parting.{grown_parts}
use Rattle.middleware.proofs.partial_rows.join_only.Goals as goal

pub returns : goal.returns
returns c =
    let positions = c.as_slice-positions.result.now in
    c.in_ok-next.ensures (part_of positions c.args.answer.now) c.in_ok-parts.ensures c.in_ok-keys.ensures.others
    ∙ grown_parts c.args.places.now positions c.args.rows.now c.args.answer.now
    (subst (λ (l : List ℕ). (row : List (List ℕ)) (p : ℕ) → Contains c.args.rows.now row → Contains l p → IsInput (length row) (slice_get c.args.places.now p)) (sym c.as_slice-positions.ensures.value) c.in_ok-known.ensures)

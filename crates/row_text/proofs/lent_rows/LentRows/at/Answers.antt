use Rattle.std.proofs.Common.{◌≡◌, ◌≤◌, ◌<◌, ◌-◌, ◌∙◌, ℕ, List, [], ap, drop, length, sym, take, arith}
use Rattle.row_text.proofs.Packing.{part_at, part_size}
use Rattle.row_text.proofs.lent_rows.LentRows.at.Goals as goal

-- a number of a part's row is below the part's length
below_size : {A : Type 0} (rows part : List A) (start end number : ℕ) → take (end - start) (drop start rows) ≡ part → start ≤ end → end ≤ length rows → number < length part → number < end - start
below_size rows part start end number is order within below =
    let size = part_size rows start end order within in
    let same = ap length is in
    omega (arith, size, same, below)

pub prove-unreachable-requires : goal.prove-unreachable-requires
prove-unreachable-requires c =
    let below = below_size c.self.inside.rows.now c.args.self.now c.self.inside.start c.self.inside.end c.args.number c.self.view_is c.self.invariant.0 c.self.invariant.1 c.requires in
    omega (arith, below)

pub at-requires : goal.at-requires
at-requires c =
    let below = below_size c.self.inside.rows.now c.args.self.now c.self.inside.start c.self.inside.end c.args.number c.self.view_is c.self.invariant.0 c.self.invariant.1 c.requires in
    omega (arith, below, c.self.invariant.1)

pub returns : goal.returns
returns c =
    let below = below_size c.self.inside.rows.now c.args.self.now c.self.inside.start c.self.inside.end c.args.number c.self.view_is c.self.invariant.0 c.self.invariant.1 c.requires in
    c.at.ensures ∙ rw (← c.self.view_is) (sym (part_at c.self.inside.rows.now [] c.self.inside.start c.self.inside.end c.args.number below))

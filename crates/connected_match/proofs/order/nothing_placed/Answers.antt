use Rattle.std.proofs.Common.{◌∙◌, ap, replicate, length, ◌≡◌, false, arith}
use Rattle.connected_match.proofs.Arranging.{placed_none}
use Rattle.connected_match.proofs.order.nothing_placed.Goals as goal

pub returns : goal.returns
returns c =
    let all : c.loop.counter ≡ length c.args.atoms.now = omega (arith, c.loop.invariant.1, c.loop-test.false) in
    placed_none c.args.atoms.now (record { ordered = c.in_ok-with_capacity.field-0; placed = c.loop.placed }) c.in_ok-with_capacity.ensures.items (c.loop.invariant.0 ∙ ap (λ n. replicate n false) all)

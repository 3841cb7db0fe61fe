use Rattle.std.proofs.Common.{◌<◌, ◌++◌, ◌∷◌, [], ◌∙◌, List, ℕ, ap, get_or, length, arith}
use Rattle.middleware.proofs.Chains.{left_first, left_more, left_none, left_onward}
use Rattle.middleware.proofs.parts.with_chain.Goals as goal

pub loop-number-init : goal.loop-number-init
loop-number-init c = λ part chain. left_first c.args.answer.now c.args.next.now c.args.head c.args.rows part chain

pub loop-number-smaller : goal.loop-number-smaller
loop-number-smaller c =
    let within : c.loop-number.number < length c.args.answer.now = omega (arith, c.loop-number-test.true, c.len.ensures) in
    let onward : c.loop-number.number < get_or c.args.next.now c.loop-number.number 0 =
    left_onward c.args.answer.now c.args.next.now c.loop-number.number (c.args.rows ++ c.requires.chain.0) c.loop-number.more (c.loop-number.invariant c.requires.chain.0 c.requires.chain.1) within in
    omega (arith, onward, within)

pub loop-number-preserved : goal.loop-number-preserved
loop-number-preserved c = λ part chain.
    let within : c.loop-number.number < length c.args.answer.now = omega (arith, c.loop-number-test.true, c.len.ensures) in
    left_more c.args.answer.now c.args.next.now c.loop-number.number (c.args.rows ++ part) c.loop-number.more c.in_ok-more.more (c.loop-number.invariant part chain) within
    (c.in_ok-more.ensures ∙ ap (λ (r : List (List ℕ)). c.loop-number.more ++ r ∷ []) c.at.ensures)

pub returns : goal.returns
returns c = λ part chain.
    left_none c.args.answer.now c.args.next.now c.loop-number.number (c.args.rows ++ part) c.loop-number.more (c.loop-number.invariant part chain)
    (omega (arith, c.loop-number-test.false, c.len.ensures))

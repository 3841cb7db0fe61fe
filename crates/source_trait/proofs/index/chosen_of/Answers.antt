use Rattle.std.proofs.Common.{◌≡◌, ◌∙◌, ◌<◌, [], ap, get_or, length, refl, arith}
use Rattle.source_trait.specs.Index.{chain_of, row_values}
use Rattle.source_trait.proofs.Crowding.{chosen_more, chosen_twin, many_codes}
use Rattle.source_trait.proofs.index.chosen_of.Goals as goal

pub loop-number-preserved-then-twin-number : goal.loop-number-preserved-then-twin-number
loop-number-preserved-then-twin-number c =
    let codes = c.args.codes.now in
    let rows = c.args.rows.now in
    let k = c.loop-number.number in
    let long : length codes ≡ length rows = ap length c.requires ∙ many_codes c.args.positions.now c.args.count rows in
    let below : k < length rows = omega (arith, c.loop-number-test.true, long) in
    let chain = chosen_twin c.args.positions.now c.args.count c.args.crowded.now rows codes c.loop-number.chains.items k c.twin-twin.result c.index-same.result.now c.requires below c.twin-twin.ensures c.if-twin-number.true c.index-same.ensures c.loop-number.invariant in
    c.in_ok-push.ensures.items ∙ chosen_more c.args.positions.now c.args.count c.args.crowded.now rows codes c.loop-number.chains.items k c.index-same.result.now c.requires below chain c.loop-number.invariant

pub loop-number-preserved : goal.loop-number-preserved
loop-number-preserved c =
    let codes = c.args.codes.now in
    let rows = c.args.rows.now in
    let k = c.loop-number.number in
    let long : length codes ≡ length rows = ap length c.requires ∙ many_codes c.args.positions.now c.args.count rows in
    let below : k < length rows = omega (arith, c.loop-number-test.true, long) in
    let chain : c.in_ok-chain.chain ≡ chain_of c.args.crowded.now (get_or codes k 0) (row_values c.args.positions.now (get_or rows k [])) = c.in_ok-chain.ensures ∙ rw c.at.ensures refl in
    c.in_ok-push-2.ensures.items ∙ chosen_more c.args.positions.now c.args.count c.args.crowded.now rows codes c.loop-number.chains.items k c.in_ok-chain.chain c.requires below chain c.loop-number.invariant

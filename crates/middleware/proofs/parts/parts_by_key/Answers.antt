use Rattle.std.proofs.Common.{◌<◌, ◌∙◌, [], ap, get_or, length, arith}
use Rattle.middleware.specs.Parts.{part_of}
use Rattle.middleware.proofs.Chains.{chain_at, parts_next}
use Rattle.middleware.proofs.parts.parts_by_key.Goals as goal

pub with_chain-requires : goal.with_chain-requires
with_chain-requires c =
    let chains = c.in_ok-heads.field-0 in
    let within : c.loop-number.number < length c.args.keys.now = omega (arith, c.loop-number-test.true, c.len-number-end.ensures) in
    record {
      long = ap length c.as_slice.ensures.value ∙ c.in_ok-heads.ensures.next_long;
      chain = (
        part_of c.args.positions.now c.args.answer.now (get_or c.args.keys.now c.loop-number.number []),
        chain_at c.args.positions.now c.args.answer.now c.args.keys.now chains.heads.items chains.next.items c.as_slice.result.now c.loop-number.number c.index.result.now
            c.in_ok-heads.ensures c.as_slice.ensures.value c.index.ensures within,
      );
    }

pub loop-number-preserved : goal.loop-number-preserved
loop-number-preserved c =
    let chains = c.in_ok-heads.field-0 in
    let part = part_of c.args.positions.now c.args.answer.now (get_or c.args.keys.now c.loop-number.number []) in
    let within : c.loop-number.number < length c.args.keys.now = omega (arith, c.loop-number-test.true, c.len-number-end.ensures) in
    let chain = chain_at c.args.positions.now c.args.answer.now c.args.keys.now chains.heads.items chains.next.items c.as_slice.result.now c.loop-number.number c.index.result.now
    c.in_ok-heads.ensures c.as_slice.ensures.value c.index.ensures within in
    let next = parts_next c.args.positions.now c.args.answer.now c.args.keys.now c.loop-number.ends.items c.push.new.self.items c.loop-number.rows c.in_ok-rows-2.rows c.loop-number.number
    c.len-in-loop-number.result within c.loop-number.invariant.are c.loop-number.invariant.cut (c.in_ok-rows-2.ensures part chain) c.len-in-loop-number.ensures c.in_ok-push.ensures.items in
    record { are = next.0; cut = next.1 }

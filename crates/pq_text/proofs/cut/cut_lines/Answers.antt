use Rattle.pq_text.proofs.Lines.{cut_done}
use Rattle.pq_text.proofs.cut.cut_lines.Goals as goal

pub returns : goal.returns
returns c =
    cut_done c.args.text.now c.as_bytes-bytes.result.now c.args.tokens.now c.loop-left.left.now c.loop-left.whole c.loop-left.number c.loop-left.current
    c.as_bytes-bytes.ensures.value c.in_default.len_below c.loop-left.invariant.4

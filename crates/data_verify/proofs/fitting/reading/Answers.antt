use Rattle.std.proofs.Common.{◌⊎◌, ◌<◌, length, inl, inr, sym, ◌∙◌}
use Rattle.data_verify.proofs.Terms.{reading_end}
use Rattle.data_verify.proofs.fitting.reading.Goals.{in_default, in-len1-up+in_default-values}
use Rattle.data_verify.proofs.fitting.reading.Goals as goal

pub returns : goal.returns
returns c =
    let short : (length c.loop-left.left.now < 1) ⊎ (length c.loop-left.values.now < 1) = elim c.if-left-lt1.branch [ in_default w ↦ inl w.in_default.len_below | in-len1-up+in_default-values w ↦ inr w.in_default-values.len_below ] in
    sym (c.loop-left.invariant ∙ reading_end c.args.variable c.loop-left.left.now c.loop-left.values.now short)

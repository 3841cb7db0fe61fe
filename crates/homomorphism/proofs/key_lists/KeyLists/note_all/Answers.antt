use Rattle.std.proofs.Common.{sym, ap, ◌∙◌}
use Rattle.homomorphism.specs.declared.key.Key.TheVariants.{Value}
use Rattle.homomorphism.proofs.Noting.{noting_more, noting_skip, noting_end}
use Rattle.homomorphism.proofs.key_lists.KeyLists.note_all.Goals.{then-has+in_ok-val+in_ok-note_value, else-has}
use Rattle.homomorphism.proofs.key_lists.KeyLists.note_all.Goals as goal

pub loop-position-preserved : goal.loop-position-preserved
loop-position-preserved c = elim c.if-has.branch [
  | then-has+in_ok-val+in_ok-note_value w ↦ rw w.self-is
      (noting_more c.args.positions.now c.args.fact.now c.as_slice-val-items.result.now c.as_slice-val-items.ensures c.args.number c.loop-position.position c.val-item.result c.loop-position-test.true c.val-item.is c.args.self.now c.loop-position.self c.loop-position.invariant
      (Value c.args.fact.now.rel c.loop-position.position w.in_ok-val.val) w.note_value.new.self (ap (Value c.args.fact.now.rel c.loop-position.position) w.in_ok-val.ensures) w.in_ok-note_value.ensures.here w.in_ok-note_value.ensures.others)
  | else-has w ↦ rw w.self-is
      (noting_skip c.args.positions.now c.args.fact.now c.as_slice-val-items.result.now c.as_slice-val-items.ensures c.args.number c.loop-position.position c.val-item.result c.loop-position-test.true c.val-item.is c.args.self.now c.loop-position.self c.loop-position.invariant (sym c.has.ensures ∙ w.if-has.false))
]

pub returns-clause-noted : goal.returns-clause-noted
returns-clause-noted c = noting_end c.args.positions.now c.args.fact.now c.as_slice-val-items.result.now c.loop-position.position c.args.number c.args.self.now c.loop-position.self c.as_slice-val-items.ensures c.loop-position-test.false c.loop-position.invariant

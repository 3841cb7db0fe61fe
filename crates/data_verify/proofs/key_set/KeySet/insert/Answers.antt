use Rattle.data_verify.specs.Keys.{key_of}
use Rattle.data_verify.proofs.Held.{added_other}
use Rattle.data_verify.proofs.key_set.KeySet.insert.Goals as goal

pub returns-in_ok-insert-in-Some : goal.returns-in_ok-insert-in-Some
returns-in_ok-insert-in-Some c = added_other c.args.terms.now c.args.variables.now c.args.self.now (record { firsts = c.take_code.new.firsts; others = c.insert.new.self })
    (rw c.in-Some.is at c.in_ok-take_code.ensures.taken).1 (key_of c.args.terms.now c.args.variables.now c.args.row.now) c.in_ok-key-in-Some.field-0 c.in_ok-key-in-Some.ensures c.in_ok-insert-in-Some.ensures.updates.0

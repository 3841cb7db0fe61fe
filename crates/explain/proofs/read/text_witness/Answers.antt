use Rattle.std.proofs.Common.{sym}
use Rattle.std.proofs.lemmas.Result.{err_from_is_err_and}
use Rattle.explain.proofs.TextLaws.{text_read, text_broken, text_early, fault_is}
use Rattle.explain.proofs.read.text_witness.Goals as goal

pub returns-in_err-done-clause-fault : goal.returns-in_err-done-clause-fault
returns-in_err-done-clause-fault c =
    let p = err_from_is_err_and c.from_residual-in_err-done.result c.from_residual-in_err-done.ensures.1 in
    let e = rw c.as_slice.ensures at c.in_err-done.ensures in
    rw (p.1, p.2) (fault_is c.args.schema.now c.args.text.now c.in_ok-told.told c.in_err-done.field-0.0 c.in_ok-told.ensures.lines e)

pub returns-in-Some-clause-fault : goal.returns-in-Some-clause-fault
returns-in-Some-clause-fault c =
    let e = rw c.as_slice.ensures at c.in_ok-done.ensures in
    text_broken c.args.schema.now c.args.text.now c.in_ok-told.told c.in_ok-done.done c.in-Some.line c.in_ok-told.ensures.lines c.in-Some.is e

pub returns-in-Some-finished-clause-read : goal.returns-in-Some-finished-clause-read
returns-in-Some-finished-clause-read c =
    let e = rw c.as_slice.ensures at c.in_ok-done.ensures in
    (c.utf8.text, text_read c.args.schema.now c.args.text.now c.in_ok-told.told c.in_ok-done.done c.in-Some-finished.pair c.in_ok-told.ensures.lines c.in-None.is e (sym c.in-Some-finished.ensures))

pub returns-clause-fault : goal.returns-clause-fault
returns-clause-fault c =
    let e = rw c.as_slice.ensures at c.in_ok-done.ensures in
    text_early c.args.schema.now c.args.text.now c.in_ok-told.told c.in_ok-done.done c.next_line.result c.in_ok-told.ensures.lines c.in-None.is e (sym c.in-None-finished.ensures) c.next_line.ensures

-- A plan is lawful over the constants in their order where it is over the list that was made.
use Rattle.std.proofs.Common.{refl}
use Rattle.access_schema.specs.Meaning.{meaning_of}
use Rattle.exec_command.specs.Known.{known_to}
use Rattle.exec_command.specs.Ends.IdleStop.{no_memory, illegal}
use Rattle.exec_command.proofs.SameConstants.{lawful_to, fault_to, no_value}
use Rattle.exec_command.proofs.exec.may_run.Goals as goal

pub returns-in-Err-clause-cause : goal.returns-in-Err-clause-cause
returns-in-Err-clause-cause c = no_memory

pub returns-in-Ok-lawful-clause-lawful : goal.returns-in-Ok-lawful-clause-lawful
returns-in-Ok-lawful-clause-lawful c =
    let known = known_to c.args.schema.now c.args.plan.now in
    let exact = rw c.as_slice.ensures.value at c.lawful.ensures.exact in
    lawful_to c.in-Ok.constants.items known (λ text. (c.in-Ok.ensures text).0) c.args.plan.now (meaning_of c.args.schema.now)
    (exact.0 (rw c.in-Ok-lawful.is refl))

pub returns-clause-cause : goal.returns-clause-cause
returns-clause-cause c =
    let known = known_to c.args.schema.now c.args.plan.now in
    let exact = rw c.as_slice.ensures.value at c.lawful.ensures.exact in
    illegal c.in-Err-lawful.fault (record {
      unlawful = λ may. no_value c.lawful.result c.in-Err-lawful.fault c.in-Err-lawful.is
          (exact.1 (lawful_to known c.in-Ok.constants.items (λ text. (c.in-Ok.ensures text).1) c.args.plan.now (meaning_of c.args.schema.now) may));
      first = fault_to c.in-Ok.constants.items known (λ text. (c.in-Ok.ensures text).0) (λ text. (c.in-Ok.ensures text).1) c.args.plan.now (meaning_of c.args.schema.now)
          c.in-Err-lawful.fault (rw c.as_slice.ensures.value at c.in-Err-lawful.ensures.first);
    })

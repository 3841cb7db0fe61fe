use Rattle.std.proofs.Common.{subst}
use Rattle.access_schema.specs.Meaning.{meaning_of}
use Rattle.bad_numbers.specs.Rows.{FindsOther}
use Rattle.bad_numbers.proofs.Sorted.{found_bad}
use Rattle.bad_numbers.proofs.rows.bad_in_packed.Goals as goal

pub returns : goal.returns
returns c = found_bad (meaning_of c.args.schema.now) c.args.rel c.args.rows.now c.first_other.result
    (subst (λ sorts. FindsOther sorts c.args.rows.now c.first_other.result) c.sorts_of.ensures.are c.first_other.ensures)

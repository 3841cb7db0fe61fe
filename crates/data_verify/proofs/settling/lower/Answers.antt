use Rattle.std.proofs.Common.{◌≡◌, ap, subst}
use Rattle.homomorphism.specs.Texts.{text_at}
use Rattle.homomorphism.proofs.Covering.{told}
use Rattle.data_verify.specs.Breaking.{row_under}
use Rattle.data_verify.specs.Settling.{IsBelow}
use Rattle.data_verify.proofs.settling.lower.Goals as goal

pub returns-in-None-clause-lower : goal.returns-in-None-clause-lower
returns-in-None-clause-lower c = λ below. rw c.in-None.is at c.in_ok-unmet_rest.ensures.none

pub returns-in-Some-clause-lower : goal.returns-in-Some-clause-lower
returns-in-Some-clause-lower c =
    let row : c.in_ok-row.row ≡ row_under (text_at c.args.values.now) c.args.first.now =
    rw c.as_slice.ensures at c.in_ok-row.ensures in (
      subst (λ r. IsBelow r c.args.least.now) row (told _ c.is_below.ensures c.if-not-is_below.false),
      record {
        fact = ap (λ r. record { rel = c.args.first.now.rel; row = r }) row;
        rest = rw c.in-Some.is at c.in_ok-unmet_rest.ensures.some;
      },
    )

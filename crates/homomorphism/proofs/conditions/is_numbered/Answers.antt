use Rattle.lists.proofs.Booleans.{test_fails}
use Rattle.homomorphism.proofs.Covering.{told, denied, numbered_is}
use Rattle.homomorphism.proofs.conditions.is_numbered.Goals as goal

pub returns-then-not-all_occur : goal.returns-then-not-all_occur
returns-then-not-all_occur c = test_fails (λ is. denied _ c.all_occur.ensures c.if-not-all_occur.true ((numbered_is _ _ _ _ _ c.as_slice-body.ensures c.as_slice-head.ensures c.variables_width-width.ensures c.variables_width-end.ensures).0 is).0)

pub returns : goal.returns
returns c =
    let iff = numbered_is _ _ _ _ _ c.as_slice-body.ensures c.as_slice-head.ensures c.variables_width-width.ensures c.variables_width-end.ensures in (
      (λ e. iff.1 (told _ c.all_occur.ensures c.if-not-all_occur.false, c.all_occur-2.ensures.0 e)),
      (λ is. c.all_occur-2.ensures.1 (iff.0 is).1),
    )

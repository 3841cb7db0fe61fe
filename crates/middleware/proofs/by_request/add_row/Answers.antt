use Rattle.std.proofs.Common.{◌≡◌, ◌++◌, ◌∷◌, []}
use Rattle.std.proofs.lemmas.Result.{IfOk-weaker}
use Rattle.middleware.specs.Branches.{HasAdded}
use Rattle.middleware.proofs.Steps.{added_double, added_last}
use Rattle.middleware.proofs.by_request.add_row.Goals as goal

pub returns-then-ends_with : goal.returns-then-ends_with
returns-then-ends_with c = added_double c.args.into c.args.row.now (c.ends_with.ensures c.if-ends_with.true)

pub returns : goal.returns
returns c =
    let row = c.args.row.now in
    IfOk-weaker c.with_lent.result (λ more. more ≡ c.args.into ++ row ∷ []) (λ more. HasAdded c.args.into (row ∷ []) more)
    (λ more e. added_last c.args.into row more e) c.with_lent.ensures

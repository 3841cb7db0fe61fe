use Rattle.std.proofs.Common.{◌≡◌, ◌++◌, ◌∷◌, [], map}
use Rattle.std.proofs.lemmas.Result.{IfOk-weaker}
use Rattle.middleware.specs.Branches.{HasAdded}
use Rattle.middleware.proofs.Steps.{added_last}
use Rattle.middleware.proofs.branch.add_row.Goals as goal

pub returns : goal.returns
returns c =
    let row = map (λ s. s.now) c.args.texts.now in
    IfOk-weaker c.with_texts.result (λ more. more ≡ c.args.into ++ row ∷ []) (λ more. HasAdded c.args.into (row ∷ []) more)
    (λ more e. added_last c.args.into row more e) c.with_texts.ensures

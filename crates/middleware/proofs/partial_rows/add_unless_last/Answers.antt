use Rattle.std.proofs.Common.{◌≡◌, ◌++◌, ◌∷◌, [], map}
use Rattle.std.proofs.lemmas.Result.{IfOk-weaker}
use Rattle.lists.proofs.Members.{contains_got}
use Rattle.middleware.specs.Branches.{HasAdded}
use Rattle.middleware.proofs.Steps.{added_double, added_last}
use Rattle.middleware.proofs.partial_rows.add_unless_last.Goals as goal

pub returns-then-is_at_place : goal.returns-then-is_at_place
returns-then-is_at_place c =
    let row = map (λ s. s.now) c.args.texts.now in
    added_double c.args.into row (contains_got c.args.into _ row (c.is_at_place.ensures c.if-is_at_place.true))

pub returns : goal.returns
returns c =
    let row = map (λ s. s.now) c.args.texts.now in
    IfOk-weaker c.with_texts.result (λ more. more ≡ c.args.into ++ row ∷ []) (λ more. HasAdded c.args.into (row ∷ []) more)
    (λ more e. added_last c.args.into row more e) c.with_texts.ensures

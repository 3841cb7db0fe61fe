use Rattle.std.proofs.Common.{◌≡◌, ◌++◌, ◌∷◌, []}
use Rattle.std.proofs.lemmas.Result.{IfOk-weaker}
use Rattle.middleware.specs.Joining.{HaveSameRows}
use Rattle.middleware.proofs.Lone.{same_answers, lone_moved}
use Rattle.middleware.proofs.lone_answer.lone_in_order.Goals as goal

pub returns-then-not-is_lone_below : goal.returns-then-not-is_lone_below
returns-then-not-is_lone_below c = same_answers c.args.answers

pub returns : goal.returns
returns c =
    IfOk-weaker c.with.result (λ more. more ≡ c.new.result ++ c.in_ok-ordered.ordered ∷ []) (λ more. HaveSameRows c.args.answers more)
    (λ more is. lone_moved c.args.answers more c.into_rows.result c.in_ok-ordered.ordered (c.is_lone_below.ensures c.if-not-is_lone_below.false) c.into_rows.ensures
    (rw c.new.ensures at is) c.in_ok-ordered.ensures.same)
    c.with.ensures

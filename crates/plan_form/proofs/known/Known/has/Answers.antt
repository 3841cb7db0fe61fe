use Rattle.std.proofs.Common.{◌≡◌, List, ℕ, true, false, subst}
use Rattle.std.specs.Prelude.{Ok, Err}
use Rattle.plan_form.specs.Judging.{has_text}
use Rattle.plan_form.proofs.Bisecting.{bisected}
use Rattle.plan_form.proofs.known.Known.has.Goals as goal

pub returns-in-Ok : goal.returns-in-Ok
returns-in-Ok c =
    subst (λ (constants : List (List ℕ)). true ≡ has_text constants c.args.text.now) c.self.view_is
    (bisected c.self.inside.texts.now c.args.text.now (Ok c.in-Ok.field-0) (c.self.invariant c.if-not-self.false) c.in-Ok.ensures.bound c.in-Ok.ensures.position)

pub returns-in-Err : goal.returns-in-Err
returns-in-Err c =
    subst (λ (constants : List (List ℕ)). false ≡ has_text constants c.args.text.now) c.self.view_is
    (bisected c.self.inside.texts.now c.args.text.now (Err c.in-Err.field-0) (c.self.invariant c.if-not-self.false) c.in-Err.ensures.bound c.in-Err.ensures.position)

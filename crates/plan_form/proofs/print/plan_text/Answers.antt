use Rattle.std.proofs.Common.{◌++◌, List, ℕ, sym, ap, subst, ◌∙◌}
use Rattle.std.specs.Str.{IsUtf8}
use Rattle.std.proofs.lemmas.Str.{IsUtf8-nil}
use Rattle.plan_form.specs.Printing.{plan_text}
use Rattle.plan_form.proofs.PrintLaws.{printed_read}
use Rattle.plan_form.proofs.print.plan_text.Goals as goal

pub returns-clause-utf8 : goal.returns-clause-utf8
returns-clause-utf8 c = subst IsUtf8 (sym c.from_vec.ensures) (c.in_ok-push_plan.ensures.utf8 (subst IsUtf8 (sym c.new-out.ensures.items) IsUtf8-nil))

pub returns-clause-read : goal.returns-clause-read
returns-clause-read c = λ writable.
    let is = c.from_vec.ensures ∙ c.in_ok-push_plan.ensures.text ∙ ap (λ (old : List ℕ). old ++ plan_text c.args.plan.now) c.new-out.ensures.items in
    let utf8 = subst IsUtf8 (sym c.from_vec.ensures) (c.in_ok-push_plan.ensures.utf8 (subst IsUtf8 (sym c.new-out.ensures.items) IsUtf8-nil)) in
    printed_read c.args.plan.now c.from_vec.result is utf8 writable

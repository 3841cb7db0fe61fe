use Rattle.std.proofs.Common.{◌∙◌, ◌++◌, sym, ap}
use Rattle.std.specs.Prelude.{codes}
use Rattle.std.specs.Fmt.{decimal}
use Rattle.std.proofs.lemmas.Result.{on_ok_weaker}
use Rattle.lists.proofs.Members.{joined_twice}
use Rattle.findings.specs.declared.least.Least.{Least}
use Rattle.explain.specs.Printing.{least_text}
use Rattle.explain.proofs.chosen.push_least.Goals as goal

pub returns-in_ok-push_str-in-SearchSpent-clause-text :
    goal.returns-in_ok-push_str-in-SearchSpent-clause-text
returns-in_ok-push_str-in-SearchSpent-clause-text c =
    on_ok_weaker c.push_number.result
    (λ written. joined_twice c.args.out.now.items c.push_str-in-SearchSpent.new.out.items c.push_number.new.out.items (codes "search spent after ") (decimal c.in-SearchSpent.units) c.in_ok-push_str-in-SearchSpent.ensures.text written
    ∙ ap (λ (least : Least). c.args.out.now.items ++ least_text least) (sym c.in-SearchSpent.is))
    c.push_number.ensures.text

pub returns-in_ok-push_str-in-FiringsSpent-clause-text :
    goal.returns-in_ok-push_str-in-FiringsSpent-clause-text
returns-in_ok-push_str-in-FiringsSpent-clause-text c =
    on_ok_weaker c.push_number-in-FiringsSpent.result
    (λ written. joined_twice c.args.out.now.items c.push_str-in-FiringsSpent.new.out.items c.push_number-in-FiringsSpent.new.out.items (codes "firings spent after ") (decimal c.in-FiringsSpent.firings) c.in_ok-push_str-in-FiringsSpent.ensures.text written
    ∙ ap (λ (least : Least). c.args.out.now.items ++ least_text least) (sym c.in-FiringsSpent.is))
    c.push_number-in-FiringsSpent.ensures.text

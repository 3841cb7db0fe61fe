use Rattle.std.proofs.Common.{◌≤◌, arith, sym, ap, ◌∙◌}
use Rattle.meaning.specs.Triggers.{bound}
use Rattle.access_schema.specs.declared.limits.TheConstants.{MOST_VARIABLES}
use Rattle.explain.proofs.Limits.{head_few}
use Rattle.explain.proofs.firings.existentials.Goals as goal

pub returns-in-Some-clause-few : goal.returns-in-Some-clause-few
returns-in-Some-clause-few c =
    let few : bound c.in-Some.rule.now.head ≤ MOST_VARIABLES = head_few c.args.schema.now c.args.schema.now.valid c.args.rule c.in-Some.rule.now (sym c.in-Some.ensures) in
    let width = c.variables_width-width.ensures ∙ ap bound c.as_slice.ensures in
    omega (arith, c.saturating_sub.ensures, few, width)

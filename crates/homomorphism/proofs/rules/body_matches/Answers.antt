use Rattle.std.proofs.Common.{[]}
use Rattle.meaning.specs.Triggers.{bound}
use Rattle.homomorphism.specs.Narrowing.{Gives}
use Rattle.homomorphism.proofs.Giving.{body_found}
use Rattle.homomorphism.proofs.rules.body_matches.Goals as goal

pub returns : goal.returns
returns c =
    let w = c.variables_width-width.ensures in
    let g : Gives [] (bound c.args.rule.now.body) c.in_ok-fixed.fixed = rw c.new-none.ensures.items at (rw c.as_slice-2.ensures.value at (rw c.as_slice.ensures at (rw c.variables_width-width.ensures at c.in_ok-fixed.ensures))) in
    body_found c.args.store.now c.args.rule.now c.in_ok-fixed.fixed c.in_ok-found.found g c.in_ok-found.ensures

use Rattle.std.proofs.Common.{◌≡◌, Some, None, rules}
use Rattle.std.specs.Prelude.{slice_get}
use Rattle.lists.proofs.Booleans.{test_fails}
use Rattle.accessible_copy.proofs.WayLists.{inputs_at, no_inputs_at}
use Rattle.accessible_copy.proofs.open_facts.OpenFacts.has_inputs.Goals as goal

pub returns-in-Some : goal.returns-in-Some
returns-in-Some c =
    let got : slice_get c.args.self.now.ways.items c.args.number ≡ Some c.in-Some.way.now = search rules in
    inputs_at c.args.self.now.ways.items c.args.number c.in-Some.way.now _ c.args.fact.now.vals c.are_inputs.result _ _ got c.as_slice.ensures c.as_slice-in-Some.ensures c.are_inputs.ensures

pub returns-in-None : goal.returns-in-None
returns-in-None c =
    let none : slice_get c.args.self.now.ways.items c.args.number ≡ None = search rules in
    test_fails (λ some. no_inputs_at c.args.self.now.ways.items c.args.number _ c.args.fact.now.vals none some)

use Rattle.std.proofs.Common.{◌≡◌, Some, None, refl, rules}
use Rattle.std.specs.Prelude.{slice_get}
use Rattle.accessible_copy.proofs.OpenAfter.{kept_whole, kept_front}
use Rattle.accessible_copy.proofs.open_facts.OpenFacts.cut_back.Goals as goal

pub returns-in-Some : goal.returns-in-Some
returns-in-Some c = λ facts constants exposed is.
    let got : slice_get c.args.self.now.before.items c.args.count ≡ Some c.in-Some.reached.now = search rules in
    kept_front facts constants exposed c.args.self.now _ c.args.count is c.in-Some.reached.now got refl refl refl (search rules) (search rules) (search rules)

pub returns-in_default : goal.returns-in_default
returns-in_default c = λ facts constants exposed is.
    let none : slice_get c.args.self.now.before.items c.args.count ≡ None = search rules in
    kept_whole facts constants exposed c.args.self.now c.args.self.now c.args.count is none

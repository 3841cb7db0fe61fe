use Rattle.std.proofs.Common.{◌≡◌, Some, rules, arith}
use Rattle.std.specs.Prelude.{slice_get}
use Rattle.accessible_copy.proofs.OpenListed.{got_dropped}
use Rattle.accessible_copy.proofs.open_facts.OpenFacts.is_listed.Goals as goal

pub returns : goal.returns
returns c = λ e.
    let found = c.has_at.ensures e in
    let got : slice_get c.args.self.now.listed.items c.place_of-place.result ≡ Some c.args.number = search rules in
    got_dropped c.args.self.now.passed c.args.self.now.listed.items c.place_of-place.result c.args.number (omega arith) got

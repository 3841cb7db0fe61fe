use Rattle.std.proofs.Common.{◌≡◌, rules}
use Rattle.accessible_copy.proofs.marks.cut_open.Goals as goal

pub returns-in-Some-clause-cut : goal.returns-in-Some-clause-cut
returns-in-Some-clause-cut c = λ facts constants exposed was.
    let same : c.deref_mut.result.now ≡ c.in-Some.kept.value = search rules in
    c.cut_back.ensures facts constants exposed (rw same (rw c.in-Some.is at was))

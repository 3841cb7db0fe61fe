use Rattle.std.proofs.Common.{◌≡◌, subst, rules}
use Rattle.accessible_copy.specs.Proving.{Proving}
use Rattle.accessible_copy.specs.OpenFacts.{AreOpenFacts}
use Rattle.accessible_copy.proofs.listing.exposures.Goals as goal

pub open_exposures-requires-clause-kept : goal.open_exposures-requires-clause-kept
open_exposures-requires-clause-kept c =
    let inside = c.proof.inside in
    let same : c.deref-then-serves.result.now ≡ c.in-Some.kept.value = search rules in
    let is : AreOpenFacts inside.base.facts inside.known.constants inside.known.exposed c.in-Some.kept.value = rw c.in-Some.is at c.proof.invariant.1 in
    rw same (subst (λ (p : Proving). AreOpenFacts p.end.base p.constants p.exposed c.in-Some.kept.value) c.proof.view_is is)

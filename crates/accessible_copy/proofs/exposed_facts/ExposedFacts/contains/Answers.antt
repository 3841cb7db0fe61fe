use Rattle.std.proofs.Common.{◌≡◌, rules, arith, Some}
use Rattle.std.specs.Prelude.{Contains, IsTrue, slice_get, slice_index}
use Rattle.lists.proofs.Booleans.{test_fails}
use Rattle.lists.proofs.Places.{got_member}
use Rattle.homomorphism.proofs.Covering.{denied}
use Rattle.accessible_copy.proofs.Others.{others_within, others_there}
use Rattle.accessible_copy.proofs.exposed_facts.ExposedFacts.contains.Goals as goal

pub returns-then-not-is_of_relation : goal.returns-then-not-is_of_relation
returns-then-not-is_of_relation c = test_fails (λ there.
    let facts = c.self.inside.facts.items in
    let fact = c.args.fact.now in
    let (n, got) = got_member facts fact (rw c.self.view_is there) in
    let (low, is) = c.self.invariant.0 n fact got in
    let same : c.place_at-first.result ≡ slice_index c.self.inside.firsts.items fact.rel = search rules in
    let listed : c.as_slice-2.result.now ≡ facts = search rules in
    denied _ c.is_of_relation.ensures c.if-not-is_of_relation.true (rw (listed, same) is))

pub returns-else-is_at : goal.returns-else-is_at
returns-else-is_at c =
    let facts = c.self.inside.facts.items in
    let firsts = c.self.inside.firsts.items in
    let fact = c.args.fact.now in
    let same : c.place_at-first.result ≡ slice_index firsts fact.rel = search rules in
    let listed : c.as_slice-3.result.now ≡ facts = search rules in
    let off : slice_get facts (slice_index firsts fact.rel) ≡ Some fact → ⊥ = λ at. denied _ c.is_at.ensures c.if-is_at.false (rw (listed, same) at) in
    let within : IsTrue c.contains.result → Contains facts fact = λ yes. others_within 0 firsts facts fact (rw (← c.self.invariant.1) (c.contains.ensures.0 yes)) in
    let there : Contains facts fact → IsTrue c.contains.result = λ among.
    let (n, got) = got_member facts fact among in
    c.contains.ensures.1 (rw c.self.invariant.1 (others_there 0 firsts facts n fact got (λ e. let at : slice_index firsts fact.rel ≡ n = omega arith in off (rw at got)))) in
    rw (← c.self.view_is) (within, there)

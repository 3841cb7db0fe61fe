use Rattle.std.proofs.Common.{◌≡◌, ◌++◌, ◌∷◌, [], List, ℕ, subst, rules}
use Rattle.meaning.specs.declared.types.Ground.{Ground}
use Rattle.accessible_copy.specs.Places.{AreIndexed}
use Rattle.accessible_copy.proofs.exposed_facts.ExposedFacts.drop_last.Goals as goal

pub invariant_of-self : goal.invariant_of-self
invariant_of-self c =
    let facts = c.pop.new.self.items in
    let firsts = c.self.inside.firsts.items in
    let all : c.self.inside.facts.items ≡ facts ++ c.in-Some.fact ∷ [] = search rules in
    let listed : c.as_slice-facts.result.now ≡ facts = search rules in
    let places : c.as_slice.result.now ≡ firsts = search rules in
    let was : AreIndexed (facts ++ c.in-Some.fact ∷ []) firsts c.self.inside.others = subst (λ (l : List Ground). AreIndexed l firsts c.self.inside.others) all c.self.invariant in
    subst (λ (l : List Ground). AreIndexed (l ++ c.in-Some.fact ∷ []) firsts c.self.inside.others → AreIndexed l firsts c.strike.new.others) listed
    (subst (λ (p : List ℕ). AreIndexed (c.as_slice-facts.result.now ++ c.in-Some.fact ∷ []) p c.self.inside.others → AreIndexed c.as_slice-facts.result.now p c.strike.new.others) places c.strike.ensures) was

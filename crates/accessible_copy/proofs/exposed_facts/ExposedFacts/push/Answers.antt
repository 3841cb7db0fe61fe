use Rattle.std.proofs.Common.{◌≡◌, ◌++◌, ◌∷◌, [], List, length, subst, sym, rules, ◌∙◌}
use Rattle.std.specs.Prelude.{Contains}
use Rattle.meaning.specs.declared.types.Ground.{Ground}
use Rattle.accessible_copy.specs.Places.{AreIndexed}
use Rattle.accessible_copy.proofs.exposed_facts.ExposedFacts.push.Goals as goal

pub invariant_of-self : goal.invariant_of-self
invariant_of-self c =
    let facts = c.self.inside.facts.items in
    let listed : c.as_slice-facts.result.now ≡ facts = search rules in
    let same : c.note.new.others ≡ c.self.inside.others = search rules in
    let kept : AreIndexed facts c.note.new.firsts.items c.self.inside.others
    = subst (λ (l : List Ground). AreIndexed l c.self.inside.firsts.items c.self.inside.others → AreIndexed l c.note.new.firsts.items c.self.inside.others) listed c.note.ensures.kept c.self.invariant in
    rw same kept

pub invariant_of-self-in-Ok : goal.invariant_of-self-in-Ok
invariant_of-self-in-Ok c =
    let facts = c.self.inside.facts.items in
    let fact = c.args.fact in
    let listed : c.as_slice-facts.result.now ≡ facts = search rules in
    let pushed : c.push.new.self.items ≡ facts ++ fact ∷ [] = search rules in
    let not : Contains facts fact → ⊥ = subst (λ (l : List Ground). Contains l fact → ⊥) (sym c.self.view_is) c.requires.new in
    rw pushed (subst (λ (l : List Ground). AreIndexed l c.self.inside.firsts.items c.self.inside.others → (Contains l fact → ⊥) → AreIndexed (l ++ fact ∷ []) c.note.new.firsts.items c.note.new.others) listed c.in_ok-note.ensures.noted c.self.invariant not)

pub invariant_of-self-in-Err : goal.invariant_of-self-in-Err
invariant_of-self-in-Err c =
    let facts = c.self.inside.facts.items in
    let listed : c.as_slice-facts.result.now ≡ facts = search rules in
    let stays : c.push.new.self.items ≡ facts = search rules in
    let count : c.len-count.result ≡ length c.self.inside.others = search rules in
    let cut : c.truncate.new.self ≡ c.self.inside.others = c.truncate.ensures ∙ rw count c.note.ensures.front in
    let kept : AreIndexed facts c.note.new.firsts.items c.self.inside.others
    = subst (λ (l : List Ground). AreIndexed l c.self.inside.firsts.items c.self.inside.others → AreIndexed l c.note.new.firsts.items c.self.inside.others) listed c.note.ensures.kept c.self.invariant in
    rw (stays, cut) kept

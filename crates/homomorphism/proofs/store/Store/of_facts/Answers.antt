use Rattle.std.proofs.Common.{sym, ap, ◌∙◌, ◌++◌, ◌∷◌, [], rules, subst, length, take, Contains}
use Rattle.std.proofs.lemmas.List.{map-id}
use Rattle.std.proofs.lemmas.Iterator.Consumers.{YieldsList-so_far, YieldsList-turn}
use Rattle.std.proofs.lemmas.Iterator.Adapters.{YieldsList-from_vec}
use Rattle.meaning_laws.proofs.Added.{with_new}
use Rattle.homomorphism.proofs.Ways.{distinct_take}
use Rattle.homomorphism.proofs.store.Store.of_facts.Goals as goal

pub loop-fact-preserved : goal.loop-fact-preserved
loop-fact-preserved c =
    let facts = c.args.facts.items in
    let done = c.loop-fact.yielded in
    let road = YieldsList-from_vec {s = c.into_iter-fact-iterator.result} facts (search rules) (search rules) in
    let turn = YieldsList-turn road done c.loop-fact.fact-iterator c.loop-fact.yielded_by c.next.result c.next.new.self c.in-Some.fact c.in-Some.is c.next.ensures.steps in
    let front = sym (map-id done) ∙ YieldsList-so_far road done c.loop-fact.fact-iterator c.loop-fact.yielded_by in
    c.in_ok-insert.ensures.kept
    ∙ with_new c.loop-fact.store c.in-Some.fact (λ among. distinct_take facts (length done) c.in-Some.fact c.requires turn.0
    (subst (λ f. Contains (take (length done) facts) f) turn.1 (subst (λ fs. Contains fs c.in-Some.fact) (c.loop-fact.invariant ∙ front) among)))
    ∙ ap (λ l. l ++ c.in-Some.fact ∷ []) c.loop-fact.invariant

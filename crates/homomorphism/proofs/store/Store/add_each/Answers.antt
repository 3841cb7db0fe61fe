use Rattle.std.proofs.Common.{◌∙◌, rules, sym, ap}
use Rattle.std.proofs.lemmas.List.{map-id}
use Rattle.std.proofs.lemmas.Iterator.Consumers.{YieldsList-end}
use Rattle.std.proofs.lemmas.Iterator.Adapters.{YieldsList-from_vec}
use Rattle.meaning.specs.Added.{with_facts}
use Rattle.homomorphism.proofs.Adding.{adding_more, front}
use Rattle.homomorphism.proofs.store.Store.add_each.Goals as goal

pub loop-fact-preserved : goal.loop-fact-preserved
loop-fact-preserved c = adding_more c.args.self.now c.loop-fact.yielded c.loop-fact.self c.insert.new.self c.in-Some.fact c.loop-fact.invariant c.in_ok-insert.ensures.kept

pub returns-in_err-insert-clause-front : goal.returns-in_err-insert-clause-front
returns-in_err-insert-clause-front c = front c.args.self.now c.loop-fact.yielded c.insert.new.self (c.in_err-insert.ensures.refused ∙ c.loop-fact.invariant)

pub returns-clause-front : goal.returns-clause-front
returns-clause-front c = front c.args.self.now c.loop-fact.yielded c.loop-fact.self c.loop-fact.invariant

pub returns-clause-added : goal.returns-clause-added
returns-clause-added c =
    let road = YieldsList-from_vec {s = c.into_iter-fact-iterator.result} c.args.news.items (search rules) (search rules) in
    let end = YieldsList-end road c.loop-fact.yielded c.loop-fact.fact-iterator c.loop-fact.yielded_by c.next.result c.next.new.self c.in-None.is c.next.ensures.steps in
    c.loop-fact.invariant ∙ ap (with_facts c.args.self.now) (sym (map-id c.loop-fact.yielded) ∙ end.0)

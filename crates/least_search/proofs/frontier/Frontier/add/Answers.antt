use Rattle.std.proofs.Common.{◌≡◌, ◌+◌, ◌-◌, ◌<◌, ◌≤◌, length, false, true, refl, sym, ap, ◌∙◌, subst, inl, inr, ⊎_elim, arith, rules}
use Rattle.std.proofs.lemmas.List.{length-map}
use Rattle.least_search.specs.declared.cuts.Cut.{Cut}
use Rattle.least_search.specs.Walks.{with_fact}
use Rattle.least_search.specs.Ways.{Way}
use Rattle.least_search.specs.Packing.{packed}
use Rattle.least_search.specs.Cuts.{is_within, rest}
use Rattle.least_search.specs.Table.{seen_at}
use Rattle.least_search.specs.Frontier.{way_of, way_at, AreKept}
use Rattle.least_search.proofs.Cutting.{held_rest}
use Rattle.least_search.proofs.Keeping.{added_here, added_way, not_added}
use Rattle.least_search.proofs.frontier.Frontier.add.Goals as goal

pub rest_with-requires : goal.rest_with-requires
rest_with-requires c = ap length (c.deref.ensures.value ∙ c.requires.from.held) ∙ length-map c.args.self.now.cuts.now (λ (cut : Cut). is_within c.args.taken.now.node.set.items cut.set.items)

pub returns-then-price-self-clause-added : goal.returns-then-price-self-clause-added
returns-then-price-self-clause-added c =
    let price : c.from-price.result ≡ c.args.step.cost = c.from-price.ensures in
    let dear : c.args.self.now.bound - c.args.taken.now.node.cost ≤ c.from-price.result = c.if-price-self.true in
    not_added c.args.self.now c.args.taken.now c.args.step c.requires.from (λ less. absurd (omega arith))

pub returns-in_default-clause-added : goal.returns-in_default-clause-added
returns-in_default-clause-added c =
    let price : c.from-price.result ≡ c.args.step.cost = c.from-price.ensures in
    let due : c.args.self.now.bound - (c.args.taken.now.node.cost + c.from-price.result) ≤ rest c.args.self.now.cuts.now (with_fact c.args.taken.now.node.set.items c.args.step)
    = subst (λ k. c.args.self.now.bound - (c.args.taken.now.node.cost + c.from-price.result) ≤ k) (held_rest c.deref.result.now c.args.self.now.cuts.now c.args.taken.now.node.set.items c.args.step.fact (c.deref.ensures.value ∙ c.requires.from.held) c.requires.free) c.in_default.ensures in
    not_added c.args.self.now c.args.taken.now c.args.step c.requires.from (λ less. absurd (omega arith))

pub returns-then-is_covered-clause-added : goal.returns-then-is_covered-clause-added
returns-then-is_covered-clause-added c =
    let key : c.args.key.now ≡ packed (with_fact c.args.taken.now.node.set.items c.args.step) = c.requires.key in
    let known : c.get.result ≡ seen_at c.args.self.now.table c.args.key.now = search rules in
    let covered : c.is_covered.result ≡ true = search rules in
    let price : c.from-price.result ≡ c.args.step.cost = c.from-price.ensures in
    let sound : AreKept c.args.self.now.cuts.now c.args.self.now.bound c.args.self.now.facts c.args.self.now.paths c.args.self.now.waiting c.args.self.now.looked.items c.args.self.now.table = c.requires.sound in
    not_added c.args.self.now c.args.taken.now c.args.step c.requires.from
    (λ less. ⊎_elim
    (λ done. inl ((sound.looked_are (with_fact c.args.taken.now.node.set.items c.args.step)).0 (ap (seen_at c.args.self.now.table) (sym key) ∙ sym known ∙ done)))
    (λ (least, is, low). let (way, there, same, cheap) = sound.waits (with_fact c.args.taken.now.node.set.items c.args.step) least (ap (seen_at c.args.self.now.table) (sym key) ∙ sym known ∙ is) in
    inr (way, there, same, (omega arith)))
    (c.is_covered.ensures.yes covered))

pub returns-clause-sound : goal.returns-clause-sound
returns-clause-sound c =
    let way : way_at c.args.self.now.facts c.args.self.now.paths c.args.taken.now.number ≡ way_of c.args.taken.now.node = c.requires.from.at in
    let key : c.in_ok-kept.kept ≡ packed (with_fact (way_at c.args.self.now.facts c.args.self.now.paths c.args.taken.now.number).set c.args.step)
    = c.in_ok-kept.ensures ∙ c.requires.key ∙ ap (λ (w : Way). packed (with_fact w.set c.args.step)) (sym way) in
    let known : c.get.result ≡ seen_at c.args.self.now.table c.in_ok-kept.kept = search (rules, c.in_ok-kept.ensures) in
    let uncovered : c.is_covered.result ≡ false = search rules in
    let cost : c.args.taken.now.node.cost + c.from-price.result ≡ (way_at c.args.self.now.facts c.args.self.now.paths c.args.taken.now.number).cost + c.args.step.cost
    = (let e : c.from-price.result ≡ c.args.step.cost = c.from-price.ensures in ap (λ k. c.args.taken.now.node.cost + k) e ∙ ap (λ (w : Way). w.cost + c.args.step.cost) (sym way)) in
    let due : c.in-Some.rest ≡ rest c.args.self.now.cuts.now (with_fact (way_at c.args.self.now.facts c.args.self.now.paths c.args.taken.now.number).set c.args.step)
    = c.in-Some.ensures.0 ∙ held_rest c.deref.result.now c.args.self.now.cuts.now c.args.taken.now.node.set.items c.args.step.fact (c.deref.ensures.value ∙ c.requires.from.held) c.requires.free ∙ ap (λ (w : Way). rest c.args.self.now.cuts.now (with_fact w.set c.args.step)) (sym way) in
    let under : (c.args.taken.now.node.cost + c.from-price.result) + c.in-Some.rest < c.args.self.now.bound
    = (let less : c.in-Some.rest < c.args.self.now.bound - (c.args.taken.now.node.cost + c.from-price.result) = c.in-Some.ensures.1 in let room : c.from-price.result < c.args.self.now.bound - c.args.taken.now.node.cost = c.if-price-self.false in omega arith) in
    added_here c.args.self.now.cuts.now c.args.self.now.bound c.args.self.now.facts c.args.self.now.paths c.args.taken.now.number c.args.step c.args.self.now.waiting c.push-2.new.self (c.args.taken.now.node.cost + c.from-price.result) c.in-Some.rest c.args.self.now.looked.items c.args.self.now.table c.put.new.self c.requires.sound
    c.in_ok-number.number c.push.new.self c.in_ok-number.ensures.number c.in_ok-number.ensures.pushed c.in_ok-push.ensures.only c.in_ok-push.ensures.waiter c.in_ok-push.ensures.kept cost due under c.requires.from.within c.in_ok-kept.kept key
    (λ done. c.is_covered.ensures.no uncovered (known ∙ done)) (record { here = c.in_ok-put.ensures.here; others = c.in_ok-put.ensures.others })

pub returns-clause-added : goal.returns-clause-added
returns-clause-added c =
    let way : way_at c.args.self.now.facts c.args.self.now.paths c.args.taken.now.number ≡ way_of c.args.taken.now.node = c.requires.from.at in
    let cost : c.args.taken.now.node.cost + c.from-price.result ≡ (way_at c.args.self.now.facts c.args.self.now.paths c.args.taken.now.number).cost + c.args.step.cost
    = (let e : c.from-price.result ≡ c.args.step.cost = c.from-price.ensures in ap (λ k. c.args.taken.now.node.cost + k) e ∙ ap (λ (w : Way). w.cost + c.args.step.cost) (sym way)) in
    let due : c.in-Some.rest ≡ rest c.args.self.now.cuts.now (with_fact (way_at c.args.self.now.facts c.args.self.now.paths c.args.taken.now.number).set c.args.step)
    = c.in-Some.ensures.0 ∙ held_rest c.deref.result.now c.args.self.now.cuts.now c.args.taken.now.node.set.items c.args.step.fact (c.deref.ensures.value ∙ c.requires.from.held) c.requires.free ∙ ap (λ (w : Way). rest c.args.self.now.cuts.now (with_fact w.set c.args.step)) (sym way) in
    let under : (c.args.taken.now.node.cost + c.from-price.result) + c.in-Some.rest < c.args.self.now.bound
    = (let less : c.in-Some.rest < c.args.self.now.bound - (c.args.taken.now.node.cost + c.from-price.result) = c.in-Some.ensures.1 in let room : c.from-price.result < c.args.self.now.bound - c.args.taken.now.node.cost = c.if-price-self.false in omega arith) in
    added_way c.args.self.now (record { facts = c.args.self.now.facts; cuts = c.args.self.now.cuts; bound = c.args.self.now.bound; paths = c.push.new.self; waiting = c.push-2.new.self; looked = c.args.self.now.looked; table = c.put.new.self }) c.args.taken.now c.args.step
    (c.args.taken.now.node.cost + c.from-price.result) c.in-Some.rest c.in_ok-number.number (record { facts = refl; cuts = refl; bound = refl }) refl c.requires.sound c.requires.from c.in_ok-number.ensures.number c.in_ok-number.ensures.pushed c.in_ok-push.ensures.only c.in_ok-push.ensures.waiter c.in_ok-push.ensures.kept cost due under

use Rattle.std.proofs.Common.{◌≡◌, ◌+◌, ◌<◌, ◌∷◌, drop, length, Some, sym, ◌∙◌, subst, ⊎_elim, rules, arith}
use Rattle.std.specs.Prelude.{Contains, slice_get, slice_index_or}
use Rattle.std.proofs.lemmas.List.{drop_more, drop_all}
use Rattle.lists.proofs.Members.{contains_cases, contains_none}
use Rattle.accessible_copy.proofs.open_facts.OpenFacts.next_open.Goals as goal

pub loop-place-preserved : goal.loop-place-preserved
loop-place-preserved c = λ values n is among.
    let (fact, got, not, can) = is in
    let list = c.args.self.now.listed.items in
    let place = c.loop-place.place in
    let low : place < length list = let t = c.loop-place-test.true in let long = c.len-place-end.ensures in omega arith in
    let turn : drop place list ≡ slice_index_or list place c.index.result.now ∷ drop (place + 1) list = drop_more list place c.index.result.now low in
    let at : c.index.result.now ≡ slice_index_or c.args.self.now.listed.items c.loop-place.place c.index.result.now = search rules in
    ⊎_elim
    (λ same. absurd (not (c.is_exposed.ensures c.if-not-is_exposed.false fact (subst (λ k. slice_get c.args.facts.now k ≡ Some fact) (sym (at ∙ same)) got))))
    (λ h. h) (contains_cases (slice_index_or list place c.index.result.now) (drop (place + 1) list) n (subst (λ l. Contains l n) turn (c.loop-place.invariant values n is among)))

pub returns-clause-kept : goal.returns-clause-kept
returns-clause-kept c = λ values n is among.
    let none = c.loop-place.invariant values n is among in
    absurd (contains_none n (subst (λ l. Contains l n) (drop_all c.loop-place.place c.args.self.now.listed.items (let t = c.loop-place-test.false in let long = c.len-place-end.ensures in omega arith)) none))

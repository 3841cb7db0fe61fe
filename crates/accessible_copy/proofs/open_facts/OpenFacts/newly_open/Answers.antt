use Rattle.std.proofs.Common.{◌≡◌, ◌+◌, ◌<◌, ◌≤◌, ◌∷◌, [], ◌++◌, Some, length, take, drop, inl, inr, sym, subst, ⊎_elim, rules, arith}
use Rattle.std.specs.Prelude.{Contains, slice_get}
use Rattle.std.proofs.lemmas.List.{take_all}
use Rattle.lists.proofs.Members.{got_below, contains_take}
use Rattle.lists.proofs.Places.{take_got}
use Rattle.accessible_copy.specs.Known.{known_values, facts_of}
use Rattle.accessible_copy.specs.OpenFacts.{IsOpen}
use Rattle.accessible_copy.proofs.OpenListed.{kept_behind}
use Rattle.accessible_copy.proofs.WayLists.{open_among, open_split, open_same}
use Rattle.accessible_copy.proofs.open_facts.OpenFacts.newly_open.Goals.{in-Some+in_ok-add_open, in_default}
use Rattle.accessible_copy.proofs.open_facts.OpenFacts.newly_open.Goals as goal

pub loop-place-preserved : goal.loop-place-preserved
loop-place-preserved c =
    let ways = c.args.self.now.ways.items in
    let facts = c.args.facts.now in
    let exposed = facts_of c.args.known.now.exposed in
    let values = known_values c.args.known.now.constants exposed in
    let place = c.loop-place.place in
    let front = drop c.args.self.now.passed c.args.self.now.listed.items in
    elim c.match-new_value.branch [
      | in-Some+in_ok-add_open w ↦
          let val = w.in-Some.val.now in
          let got : slice_get values place ≡ Some val = search rules in
          let turn : take (place + 1) values ≡ take place values ++ val ∷ [] = take_got values place val got in
          rw w.numbers-is (λ n is.
          ⊎_elim (λ old. ⊎_elim (λ h. inl h) (λ h. inr (kept_behind front c.loop-place.numbers.items w.add_open.new.numbers.items w.in_ok-add_open.ensures.kept n h)) (c.loop-place.invariant n old))
          (λ (fact, at, holds). inr (w.in_ok-add_open.ensures.added n (c.requires.holders n fact val at holds) (open_among ways facts (take (place + 1) values) values exposed n (contains_take (place + 1) values) is)))
          (open_split ways facts (take place values) val exposed n (subst (λ l. IsOpen ways facts l exposed n) turn is)))
      | in_default w ↦
          let low : place < length values = let t = c.loop-place-test.true in let wide = c.width-place-end.ensures in omega arith in
          let (val, got) = got_below values place low in
          let there : Contains (take place values) val = (rw w.in_default.is at c.new_value.ensures.none) val got in
          let turn : take (place + 1) values ≡ take place values ++ val ∷ [] = take_got values place val got in
          rw w.numbers-is (λ n is. c.loop-place.invariant n (open_same ways facts (take place values) val exposed n there (subst (λ l. IsOpen ways facts l exposed n) turn is)))
    ]

pub returns : goal.returns
returns c = λ n is.
    let exposed = facts_of c.args.known.now.exposed in
    let values = known_values c.args.known.now.constants exposed in
    let beyond : length values ≤ c.loop-place.place = let t = c.loop-place-test.false in let wide = c.width-place-end.ensures in omega arith in
    c.loop-place.invariant n (subst (λ l. IsOpen c.args.self.now.ways.items c.args.facts.now l exposed n) (sym (take_all c.loop-place.place values beyond)) is)

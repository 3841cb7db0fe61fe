use Rattle.std.proofs.Common.{rules, subst, sym, ◌<◌, ◌≤◌, length, slice_index_or}
use Rattle.std.proofs.lemmas.List.{take_all}
use Rattle.homomorphism.specs.Ways.{IsWayIf, AreWays}
use Rattle.homomorphism.specs.Listed.{AreCandidates}
use Rattle.homomorphism.proofs.Ways.{turn_skip, turn_more}
use Rattle.homomorphism.proofs.Choosing.{picked, length_picked, picked_distinct, place_below, place_picked, place_is, ways_picked}
use Rattle.homomorphism.proofs.matching.ways.Goals.{in-Some+in_ok-push, in_default}
use Rattle.homomorphism.proofs.matching.ways.Goals as goal

pub bounds-facts-number : goal.bounds-facts-number
bounds-facts-number c =
    let chosen : AreCandidates c.args.store.now c.args.atom.now c.args.given.now c.in_ok-number-items.number-items.now = rw c.as_slice.ensures at c.in_ok-number-items.ensures in
    place_below c.args.store.now c.facts-facts.result.now c.facts-facts.ensures.facts c.args.atom.now c.args.given.now c.in_ok-number-items.number-items.now chosen c.loop-number.number-index c.loop-number-test.true

pub offset_bounds-facts-number : goal.offset_bounds-facts-number
offset_bounds-facts-number c =
    let chosen : AreCandidates c.args.store.now c.args.atom.now c.args.given.now c.in_ok-number-items.number-items.now = rw c.as_slice.ensures at c.in_ok-number-items.ensures in
    let below : slice_index_or c.in_ok-number-items.number-items.now c.loop-number.number-index 0 < length c.facts-facts.result.now = place_below c.args.store.now c.facts-facts.result.now c.facts-facts.ensures.facts c.args.atom.now c.args.given.now c.in_ok-number-items.number-items.now chosen c.loop-number.number-index c.loop-number-test.true in
    search (rules, below)

pub loop-number-preserved : goal.loop-number-preserved
loop-number-preserved c =
    let chosen : AreCandidates c.args.store.now c.args.atom.now c.args.given.now c.in_ok-number-items.number-items.now = rw c.as_slice.ensures at c.in_ok-number-items.ensures in
    let facts = picked c.args.store.now c.in_ok-number-items.number-items.now in
    let within = place_picked c.args.store.now c.facts-facts.result.now c.facts-facts.ensures.facts c.args.atom.now c.args.given.now c.in_ok-number-items.number-items.now chosen c.loop-number.number-index c.loop-number-test.true in
    let is = place_is c.args.store.now c.facts-facts.result.now c.facts-facts.ensures.facts c.args.atom.now c.args.given.now c.in_ok-number-items.number-items.now chosen c.loop-number.number-index c.loop-number-test.true c.index-facts-number.result c.index-facts-number.is in
    let once = picked_distinct c.args.store.now c.args.atom.now c.args.given.now c.in_ok-number-items.number-items.now chosen c.facts-facts.ensures.once in
    elim c.match-branch-3.branch [
      | in-Some+in_ok-push w ↦ rw w.ways-is (rw w.in_ok-push.ensures.items
          (turn_more facts c.loop-number.number-index c.index-facts-number.result c.args.atom.now c.args.given.now c.loop-number.ways.items within is c.loop-number.invariant w.in-Some.way once
          (subst (IsWayIf c.index-facts-number.result c.args.atom.now c.args.given.now) w.in-Some.is c.in_ok-way.ensures)))
      | in_default w ↦ rw w.ways-is
          (turn_skip facts c.loop-number.number-index c.index-facts-number.result c.args.atom.now c.args.given.now c.loop-number.ways.items within is c.loop-number.invariant
          (subst (IsWayIf c.index-facts-number.result c.args.atom.now c.args.given.now) w.in_default.is c.in_ok-way.ensures))
    ]

pub returns : goal.returns
returns c =
    let chosen : AreCandidates c.args.store.now c.args.atom.now c.args.given.now c.in_ok-number-items.number-items.now = rw c.as_slice.ensures at c.in_ok-number-items.ensures in
    let facts = picked c.args.store.now c.in_ok-number-items.number-items.now in
    ways_picked c.args.store.now c.args.atom.now c.args.given.now c.in_ok-number-items.number-items.now chosen c.loop-number.ways.items
    (subst (λ done. AreWays done c.args.atom.now c.args.given.now c.loop-number.ways.items) (take_all c.loop-number.number-index facts (subst (λ n. n ≤ c.loop-number.number-index) (sym (length_picked c.args.store.now c.in_ok-number-items.number-items.now)) c.loop-number-test.false)) c.loop-number.invariant)

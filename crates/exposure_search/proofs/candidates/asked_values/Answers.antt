use Rattle.std.proofs.Common.{◌≡◌, ◌↔◌, ◌<◌, ◌≤◌, ℕ, List, Some, length, subst, arith}
use Rattle.std.specs.Prelude.{slice_get, slice_index}
use Rattle.std.proofs.lemmas.List.{take_all}
use Rattle.std.proofs.lemmas.Option.{slice_get_within}
use Rattle.lists.proofs.Places.{got_indexed}
use Rattle.accessible_copy.specs.Known.{known_values}
use Rattle.accessible_copy.specs.Listing.{AreInputs}
use Rattle.accessible_copy.proofs.Listed.{at_index}
use Rattle.exposure_search.specs.Candidates.{AreHeld}
use Rattle.exposure_search.proofs.MovesFrom.{asked_more}
use Rattle.exposure_search.proofs.candidates.asked_values.Goals as goal

pub returns-in_default-clause-none : goal.returns-in_default-clause-none
returns-in_default-clause-none c exposed are =
    let place = slice_index c.args.inputs.now c.loop-place.place-index in
    let (val, at, known) = are place (at_index c.args.inputs.now c.loop-place.place-index c.loop-place-test.true) in
    let within : place < length c.args.vals.now = slice_get_within c.args.vals.now place val at in
    let past : length c.args.vals.now ≤ place = c.in_default.ensures.lookup.3 in
    absurd (omega arith)

pub loop-place-preserved : goal.loop-place-preserved
loop-place-preserved c exposed =
    let at : slice_get c.args.vals.now (slice_index c.args.inputs.now c.loop-place.place-index) ≡ Some c.in-Some.val.now =
    got_indexed c.args.vals.now (slice_index c.args.inputs.now c.loop-place.place-index) c.in-Some.val.now c.in-Some.ensures.lookup.3.0 c.in-Some.ensures.lookup.1 in
    asked_more c.args.proof.now.constants exposed c.loop-place.asks.items c.add_new.new.values.items c.in-Some.val.now (c.in_ok-add_new.ensures exposed) c.args.inputs.now c.args.vals.now c.loop-place.place-index c.loop-place-test.true at (c.loop-place.invariant exposed)

pub returns-clause-some : goal.returns-clause-some
returns-clause-some c exposed =
    subst (λ (inputs : List ℕ). AreHeld exposed c.loop-place.asks.items ↔ AreInputs (known_values c.args.proof.now.constants exposed) inputs c.args.vals.now) (take_all c.loop-place.place-index c.args.inputs.now c.loop-place-test.false) (c.loop-place.invariant exposed)

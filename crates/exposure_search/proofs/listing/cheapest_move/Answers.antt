use Rattle.std.proofs.Common.{◌≡◌, ◌<◌, ◌+◌, ◌++◌, ◌∷◌, [], Some, take, sym, ap, ◌∙◌, subst}
use Rattle.std.specs.Prelude.{Contains, slice_index}
use Rattle.std.proofs.lemmas.List.{take_more, take_all}
use Rattle.lists.proofs.Members.{some_injective}
use Rattle.meaning.specs.declared.types.Method.{Method}
use Rattle.access_schema.specs.Meaning.{meaning_of}
use Rattle.accessible_copy.specs.Known.{known_values}
use Rattle.accessible_copy.proofs.Listed.{at_index}
use Rattle.exposure_search.proofs.Offering.{offered_more, offered_less, best_active, best_least, when_some}
use Rattle.exposure_search.proofs.listing.cheapest_move.Goals as goal
use Rattle.exposure_search.proofs.listing.cheapest_move.Goals.{in-Some, in_default}

pub loop-number-preserved : goal.loop-number-preserved
loop-number-preserved c =
    let turn : take (c.loop-number.number-index + 1) c.args.numbers.now ≡ take c.loop-number.number-index c.args.numbers.now ++ (slice_index c.args.numbers.now c.loop-number.number-index) ∷ [] = take_more c.args.numbers.now c.loop-number.number-index 0 c.loop-number-test.true in
    elim c.match-cost_below.branch [
      | in-Some w ↦
          let (method, named, cost, low, inputs) = w.in-Some.ensures.some in
          let (of, its, rel) = c.requires.named (slice_index c.args.numbers.now c.loop-number.number-index) (at_index c.args.numbers.now c.loop-number.number-index c.loop-number-test.true) in
          let rel' : method.rel ≡ c.args.fact.now.rel = ap (λ (m : Method). m.rel) (some_injective method of (sym named ∙ its)) ∙ rel in
          let best : c.match-cost_below.best ≡ Some (record { fact = c.args.place; method = (slice_index c.args.numbers.now c.loop-number.number-index); cost = method.cost }) = w.best-is ∙ ap (λ k. Some (record { fact = c.args.place; method = (slice_index c.args.numbers.now c.loop-number.number-index); cost = k })) cost in
          let limit : c.match-cost_below.limit ≡ method.cost = w.limit-is ∙ w.from-limit.ensures ∙ cost in
          rw (best, limit, turn) (offered_more c.args.schema.now.methods (known_values c.args.proof.now.constants c.args.proof.now.end.exposed) c.args.fact.now c.args.place c.args.below (take c.loop-number.number-index c.args.numbers.now) c.loop-number.best c.loop-number.limit c.loop-number.invariant (slice_index c.args.numbers.now c.loop-number.number-index) method named rel' (subst (λ k. k < c.loop-number.limit) cost low) inputs)
      | in_default w ↦
          rw (w.best-is, w.limit-is, turn) (offered_less c.args.schema.now.methods (known_values c.args.proof.now.constants c.args.proof.now.end.exposed) c.args.fact.now c.args.place c.args.below (take c.loop-number.number-index c.args.numbers.now) c.loop-number.best c.loop-number.limit c.loop-number.invariant (slice_index c.args.numbers.now c.loop-number.number-index) w.in_default.ensures.none)
    ]

pub returns-clause-active : goal.returns-clause-active
returns-clause-active c new =
    when_some c.loop-number.best _ (best_active (meaning_of c.args.schema.now) c.args.proof.now c.args.fact.now c.args.place c.args.below c.requires.at (take c.loop-number.number-index c.args.numbers.now) c.loop-number.best c.loop-number.limit c.loop-number.invariant new)

pub returns-clause-least : goal.returns-clause-least
returns-clause-least c number method among active low =
    best_least (meaning_of c.args.schema.now) c.args.proof.now c.args.fact.now c.args.place c.args.below c.requires.at (take c.loop-number.number-index c.args.numbers.now) c.loop-number.best c.loop-number.limit c.loop-number.invariant
    number method (subst (λ ns. Contains ns number) (sym (take_all c.loop-number.number-index c.args.numbers.now c.loop-number-test.false)) among) active low

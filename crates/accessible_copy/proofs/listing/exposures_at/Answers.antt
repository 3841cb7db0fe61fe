use Rattle.std.proofs.Common.{◌≡◌, ◌+◌, ◌++◌, ◌∷◌, [], Some, None, take, subst, rules}
use Rattle.std.specs.Prelude.{Contains, slice_get, slice_index}
use Rattle.lists.proofs.Members.{contains_got}
use Rattle.std.proofs.lemmas.List.{take_all, take_more}
use Rattle.access_schema.specs.Meaning.{meaning_of}
use Rattle.accessible_copy.specs.Methods.{methods_of}
use Rattle.accessible_copy.proofs.Listed.{at_got, not_before, fire_listed, proof_once}
use Rattle.accessible_copy.proofs.OpenListed.{AreFound, found_none, found_nothing, found_more, found_all}
use Rattle.accessible_copy.proofs.listing.exposures_at.Goals.{in-Some+in_ok-add_exposures, in_default}
use Rattle.accessible_copy.proofs.listing.exposures_at.Goals as goal

pub loop-number-init : goal.loop-number-init
loop-number-init c = rw c.in_ok-found.ensures.items (found_none (meaning_of c.args.schema.now) c.args.proof.now)

pub add_exposures-requires-clause-base : goal.add_exposures-requires-clause-base
add_exposures-requires-clause-base c =
    let got : slice_get c.args.proof.now.end.base (slice_index c.args.numbers.now c.loop-number.number-index) ≡ Some c.in-Some.fact.now = search rules in
    contains_got c.args.proof.now.end.base (slice_index c.args.numbers.now c.loop-number.number-index) c.in-Some.fact.now got

pub add_exposures-requires-clause-named : goal.add_exposures-requires-clause-named
add_exposures-requires-clause-named c = λ number among. c.requires.methods.each c.in-Some.fact.now.rel number (subst (λ l. Contains l number) c.numbers.ensures among)

pub loop-number-preserved : goal.loop-number-preserved
loop-number-preserved c =
    let schema = meaning_of c.args.schema.now in
    let proof = c.args.proof.now in
    let numbers = c.args.numbers.now in
    let index = c.loop-number.number-index in
    let number = slice_index numbers index in
    let turn : take (index + 1) numbers ≡ take index numbers ++ number ∷ [] = take_more numbers index 0 c.loop-number-test.true in
    elim c.match-base.branch [
      | in-Some+in_ok-add_exposures w ↦
          let got : slice_get c.args.proof.now.end.base (slice_index c.args.numbers.now c.loop-number.number-index) ≡ Some w.in-Some.fact.now = search rules in
          let adds = rw w.numbers.ensures at w.in_ok-add_exposures.ensures in
          rw (w.found-is, turn, adds.after_is)
          (found_more schema proof (take index numbers) number w.in-Some.fact.now (methods_of c.args.methods.now w.in-Some.fact.now.rel) c.loop-number.found.items adds.more
          (proof_once schema proof c.requires.run) (not_before numbers index number c.requires.once (at_got numbers index c.loop-number-test.true)) got adds.are
          (λ method can. fire_listed schema c.args.methods.now proof method w.in-Some.fact.now c.requires.methods can) c.loop-number.invariant)
      | in_default w ↦
          let none : slice_get c.args.proof.now.end.base (slice_index c.args.numbers.now c.loop-number.number-index) ≡ None = search rules in
          rw (w.found-is, turn) (found_nothing schema proof (take index numbers) number c.loop-number.found.items none c.loop-number.invariant)
    ]

pub returns : goal.returns
returns c =
    let schema = meaning_of c.args.schema.now in
    let whole : AreFound schema c.args.proof.now c.args.numbers.now c.loop-number.found.items =
    subst (λ l. AreFound schema c.args.proof.now l c.loop-number.found.items) (take_all c.loop-number.number-index c.args.numbers.now c.loop-number-test.false) c.loop-number.invariant in
    rw c.from_vec.ensures (found_all schema c.args.proof.now c.args.numbers.now c.loop-number.found.items c.requires.all whole)

use Rattle.std.proofs.Common.{◌≡◌, ◌<◌, ◌+◌, ◌++◌, ◌∷◌, [], Some, None, length, take, subst, rules, arith}
use Rattle.std.specs.Prelude.{Contains, slice_get}
use Rattle.lists.proofs.Places.{take_got, got_none}
use Rattle.access_schema.specs.Meaning.{meaning_of}
use Rattle.meaning.specs.Search.{AreDistinct}
use Rattle.homomorphism.proofs.Members.{distinct_take}
use Rattle.accessible_copy.specs.Proving.{Proving}
use Rattle.accessible_copy.specs.Methods.{methods_of}
use Rattle.accessible_copy.proofs.Listed.{from_more, fire_listed, proof_once}
use Rattle.accessible_copy.proofs.listing.indexed_exposures.Goals.{in-Some+in_ok-add_exposures, in_default}
use Rattle.accessible_copy.proofs.listing.indexed_exposures.Goals as goal

pub add_exposures-requires-clause-named : goal.add_exposures-requires-clause-named
add_exposures-requires-clause-named c = λ number among. c.requires.methods.each c.in-Some.fact.now.rel number (subst (λ l. Contains l number) c.numbers.ensures among)

pub loop-number-preserved : goal.loop-number-preserved
loop-number-preserved c =
    let low : c.loop-number.number < length c.args.proof.now.end.base = subst (λ (p : Proving). c.loop-number.number < length p.end.base) c.proof.view_is (let t = c.loop-number-test.true in search rules) in
    elim c.match-base.branch [
      | in-Some+in_ok-add_exposures w ↦
          let got : slice_get c.args.proof.now.end.base c.loop-number.number ≡ Some w.in-Some.fact.now = search rules in
          let turn : take (c.loop-number.number + 1) c.args.proof.now.end.base ≡ take c.loop-number.number c.args.proof.now.end.base ++ w.in-Some.fact.now ∷ [] = take_got c.args.proof.now.end.base c.loop-number.number w.in-Some.fact.now got in
          let once : AreDistinct (take c.loop-number.number c.args.proof.now.end.base ++ w.in-Some.fact.now ∷ []) = subst AreDistinct turn (distinct_take c.args.proof.now.end.base (c.loop-number.number + 1) (proof_once (meaning_of c.args.schema.now) c.args.proof.now c.requires.run)) in
          let adds = rw w.numbers.ensures at w.in_ok-add_exposures.ensures in
          rw (w.found-is, turn, adds.after_is)
          (from_more (meaning_of c.args.schema.now) c.args.proof.now (take c.loop-number.number c.args.proof.now.end.base) w.in-Some.fact.now c.loop-number.found.items adds.more (methods_of c.args.methods.now w.in-Some.fact.now.rel) once c.loop-number.invariant adds.are
          (λ number can. fire_listed (meaning_of c.args.schema.now) c.args.methods.now c.args.proof.now number w.in-Some.fact.now c.requires.methods can))
      | in_default w ↦
          let none : slice_get c.args.proof.now.end.base c.loop-number.number ≡ None = search rules in
          let beyond = got_none c.args.proof.now.end.base c.loop-number.number none in absurd (omega arith)
    ]

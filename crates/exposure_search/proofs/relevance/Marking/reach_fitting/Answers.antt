use Rattle.std.proofs.Common.{◌≡◌, ◌+◌, ◌<◌, Some, length, sym, ap, ◌∙◌, subst, inl, inr, ⊎_elim, arith}
use Rattle.std.specs.Prelude.{slice_get}
use Rattle.std.proofs.lemmas.Option.{slice_get_within}
use Rattle.lists.proofs.Members.{some_injective}
use Rattle.lists.proofs.Places.{got_indexed}
use Rattle.meaning.specs.declared.types.Ground.{Ground}
use Rattle.exposure_search.specs.Relevance.{IsMade}
use Rattle.exposure_search.specs.Tries.{IsMarked}
use Rattle.exposure_search.proofs.Following.{IsReached, IsFront, reached_more, reached_none, front_next}
use Rattle.exposure_search.proofs.relevance.Marking.reach_fitting.Goals.{then-fits_some+in_ok-reach, else-fits_some}
use Rattle.exposure_search.proofs.relevance.Marking.reach_fitting.Goals as goal

pub loop-number-preserved : goal.loop-number-preserved
loop-number-preserved c =
    let facts = c.args.facts.now in
    let i = c.loop-number.number in
    let fact = c.index-facts-number.result in
    let got : slice_get facts i ≡ Some fact = got_indexed facts i fact c.loop-number-test.true c.index-facts-number.is in
    elim c.if-fits_some.branch [
      | then-fits_some+in_ok-reach w ↦
          subst (λ s. IsReached (IsFront facts (IsMade c.args.given.now c.args.atoms.now) (i + 1)) c.args.self.now s) (sym w.self-is)
          (reached_more (IsFront facts (IsMade c.args.given.now c.args.atoms.now) i) (λ n. n ≡ i) (IsFront facts (IsMade c.args.given.now c.args.atoms.now) (i + 1)) c.args.self.now c.loop-number.self w.reach.new.self c.loop-number.invariant
          (record { grows = w.in_ok-reach.ensures.grows; reached = λ n same low. subst (λ k. IsMarked w.reach.new.self.marks.items k) (sym same) (w.in_ok-reach.ensures.reached (subst (λ k. k < length c.loop-number.self.marks.items) same low)) })
          (λ n front. ⊎_elim (λ old. inl old) (λ (same, kind). inr same) (front_next facts (IsMade c.args.given.now c.args.atoms.now) i n front)))
      | else-fits_some w ↦
          subst (λ s. IsReached (IsFront facts (IsMade c.args.given.now c.args.atoms.now) (i + 1)) c.args.self.now s) (sym w.self-is)
          (reached_more (IsFront facts (IsMade c.args.given.now c.args.atoms.now) i) (λ n. ⊥) (IsFront facts (IsMade c.args.given.now c.args.atoms.now) (i + 1)) c.args.self.now c.loop-number.self c.loop-number.self c.loop-number.invariant
          (reached_none (λ n. ⊥) c.loop-number.self (λ n none. none))
          (λ n front. ⊎_elim (λ old. inl old)
          (λ (same, (its, at, made)). absurd (c.fits_some.ensures w.if-fits_some.false (subst (λ (f : Ground). IsMade c.args.given.now c.args.atoms.now f) (some_injective its fact (sym at ∙ ap (slice_get facts) same ∙ got)) made)))
          (front_next facts (IsMade c.args.given.now c.args.atoms.now) i n front)))
    ]

pub returns-clause-reached : goal.returns-clause-reached
returns-clause-reached c number (fact, at, made) low =
    c.loop-number.invariant.reached number ((let within = slice_get_within c.args.facts.now number fact at in let end = c.loop-number-test.false in omega arith), (fact, at, made)) low

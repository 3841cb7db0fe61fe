use Rattle.std.proofs.Common.{ℕ, ◌<◌, Option, List, length, sym, subst}
use Rattle.std.proofs.lemmas.Result.{on_ok_weaker}
use Rattle.meaning.specs.declared.types.Atom.{Atom}
use Rattle.meaning.specs.declared.types.Ground.{Ground}
use Rattle.meaning.specs.declared.types.Val.{Val}
use Rattle.exposure_search.specs.Tries.{IsMarked}
use Rattle.exposure_search.specs.Relevance.{IsOfKind, IsMade, IsImageOf, AreGiven}
use Rattle.exposure_search.proofs.relevance.Marking.reach_query.Goals as goal

pub returns-in-Some-clause-reached : goal.returns-in-Some-clause-reached
returns-in-Some-clause-reached c =
    let are : AreGiven c.args.query.now c.args.head.now c.in-Some.given = rw c.in-Some.is at c.in_ok-given.ensures.some in
    on_ok_weaker c.reach_fitting.result
    (λ (all : (number : ℕ) → IsOfKind c.args.facts.now (IsMade c.as_slice.result.now c.as_slice-in-Some.result.now) number → number < length c.args.self.now.marks.items → IsMarked c.reach_fitting.new.self.marks.items number)
    number (fact, at, image) low.
    all number (
      fact,
      at,
      subst (λ (atoms : List Atom). IsMade c.as_slice.result.now atoms fact) (sym c.as_slice-in-Some.ensures)
          (subst (λ (given : List (Option Val)). IsMade given c.args.query.now.atoms fact) (sym c.as_slice.ensures) (are.images fact image)),
    ) low)
    c.reach_fitting.ensures.reached

pub returns-in-None-clause-reached : goal.returns-in-None-clause-reached
returns-in-None-clause-reached c number (fact, at, image) low =
    let none : (fact : Ground) → IsImageOf c.args.query.now c.args.head.now fact → ⊥ = rw c.in-None.is at c.in_ok-given.ensures.none in
    absurd (none fact image)

use Rattle.std.proofs.Common.{List, Option, subst}
use Rattle.std.proofs.lemmas.Result.{on_ok_weaker}
use Rattle.meaning.specs.declared.types.Atom.{Atom}
use Rattle.meaning.specs.declared.types.Ground.{Ground}
use Rattle.meaning.specs.declared.types.Val.{Val}
use Rattle.exposure_search.specs.Relevance.{BodiesMarked, IsMade, IsImageOf, AreGiven}
use Rattle.exposure_search.proofs.Served.{bodies_images}
use Rattle.exposure_search.proofs.wanted.mark_query.Goals as goal

pub returns-in-Some-clause-served : goal.returns-in-Some-clause-served
returns-in-Some-clause-served c =
    let are : AreGiven c.args.query.now c.args.head.now c.in-Some.given = rw c.in-Some.is at c.in_ok-given.ensures.some in
    let marks = c.mark_servers.new.marks.items in
    on_ok_weaker c.mark_servers.result
    (λ (all : BodiesMarked c.args.rules.now c.args.next (IsMade c.as_slice.result.now c.as_slice-in-Some.result.now) marks).
    bodies_images c.args.rules.now c.args.next c.args.query.now c.args.head.now c.in-Some.given marks are
    (subst (λ (atoms : List Atom). BodiesMarked c.args.rules.now c.args.next (IsMade c.in-Some.given atoms) marks) c.as_slice-in-Some.ensures
    (subst (λ (given : List (Option Val)). BodiesMarked c.args.rules.now c.args.next (IsMade given c.as_slice-in-Some.result.now) marks) c.as_slice.ensures all)))
    c.mark_servers.ensures.served

pub returns-in-None-clause-served : goal.returns-in-None-clause-served
returns-in-None-clause-served c rule among fact makes image =
    let none : (fact : Ground) → IsImageOf c.args.query.now c.args.head.now fact → ⊥ = rw c.in-None.is at c.in_ok-given.ensures.none in
    absurd (none fact image)

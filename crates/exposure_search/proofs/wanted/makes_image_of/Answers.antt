use Rattle.std.proofs.Common.{List, Option, sym, subst}
use Rattle.meaning.specs.declared.types.Atom.{Atom}
use Rattle.meaning.specs.declared.types.Ground.{Ground}
use Rattle.meaning.specs.declared.types.Val.{Val}
use Rattle.exposure_search.specs.Relevance.{IsMade, IsImageOf, AreGiven}
use Rattle.exposure_search.proofs.Wanting.{ok_is}
use Rattle.exposure_search.proofs.wanted.makes_image_of.Goals as goal

pub returns-in-Some : goal.returns-in-Some
returns-in-Some c e fact makes image =
    let are : AreGiven c.args.query.now c.args.head.now c.in-Some.given = rw c.in-Some.is at c.in_ok-given.ensures.some in
    c.serves_some.ensures (ok_is _ _ e) fact makes
    (subst (λ (atoms : List Atom). IsMade c.as_slice.result.now atoms fact) (sym c.as_slice-in-Some.ensures)
    (subst (λ (given : List (Option Val)). IsMade given c.args.query.now.atoms fact) (sym c.as_slice.ensures) (are.images fact image)))

pub returns-in-None : goal.returns-in-None
returns-in-None c e fact makes image =
    let none : (fact : Ground) → IsImageOf c.args.query.now c.args.head.now fact → ⊥ = rw c.in-None.is at c.in_ok-given.ensures.none in
    none fact image

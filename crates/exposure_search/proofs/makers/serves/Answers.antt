use Rattle.std.proofs.Common.{◌≡◌, List, subst}
use Rattle.std.proofs.lemmas.List.{take_all}
use Rattle.lists.proofs.Places.{got_indexed}
use Rattle.meaning.specs.declared.types.Atom.{Atom}
use Rattle.exposure_search.specs.Relevance.{NeverMatch}
use Rattle.exposure_search.proofs.Wanting.{front_each}
use Rattle.exposure_search.proofs.Served.{NoneServes}
use Rattle.exposure_search.proofs.makers.serves.Goals as goal

pub loop-made-preserved : goal.loop-made-preserved
loop-made-preserved c =
    front_each (λ (made : Atom). made.rel ≡ c.args.atom.now.rel → NeverMatch c.args.given.now c.args.next c.args.width made.terms c.args.atom.now.terms) c.args.head.now c.loop-made.made-index c.made-item.result (got_indexed c.args.head.now c.loop-made.made-index c.made-item.result c.loop-made-test.true c.made-item.is)
    c.loop-made.invariant (c.can_make.ensures c.if-can_make.false)

pub returns : goal.returns
returns c e =
    subst (λ (l : List Atom). NoneServes c.args.given.now c.args.next c.args.width l c.args.atom.now) (take_all c.loop-made.made-index c.args.head.now c.loop-made-test.false) c.loop-made.invariant

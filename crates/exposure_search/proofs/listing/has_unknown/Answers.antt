use Rattle.std.proofs.Common.{List, sym, subst}
use Rattle.std.specs.Prelude.{Contains}
use Rattle.std.proofs.lemmas.List.{take_all}
use Rattle.lists.proofs.Places.{got_indexed}
use Rattle.meaning.specs.declared.types.Val.{Val}
use Rattle.homomorphism.proofs.Covering.{told, denied}
use Rattle.accessible_copy.specs.Known.{known_values}
use Rattle.exposure_search.proofs.Wanting.{front_each}
use Rattle.exposure_search.proofs.listing.has_unknown.Goals as goal

pub loop-val-preserved : goal.loop-val-preserved
loop-val-preserved c =
    front_each (λ (v : Val). Contains (known_values c.args.proof.now.constants c.args.proof.now.end.exposed) v) c.args.vals.now c.loop-val.val-index c.val-item.result (got_indexed c.args.vals.now c.loop-val.val-index c.val-item.result c.loop-val-test.true c.val-item.is)
    c.loop-val.invariant (told _ c.knows.ensures c.if-not-knows.false)

pub returns-then-not-knows-clause-yes : goal.returns-then-not-knows-clause-yes
returns-then-not-knows-clause-yes c e = (c.val-item.result, (c.loop-val.val-index, c.loop-val-test.true, sym c.val-item.is), (λ known. denied _ c.knows.ensures c.if-not-knows.true known))

pub returns-clause-no : goal.returns-clause-no
returns-clause-no c e =
    subst (λ (l : List Val). (v : Val) → Contains l v → Contains (known_values c.args.proof.now.constants c.args.proof.now.end.exposed) v) (take_all c.loop-val.val-index c.args.vals.now c.loop-val-test.false) c.loop-val.invariant

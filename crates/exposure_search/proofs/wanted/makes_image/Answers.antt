use Rattle.std.proofs.Common.{List, ap, subst}
use Rattle.std.specs.Prelude.{Ok}
use Rattle.std.proofs.lemmas.List.{take_all}
use Rattle.lists.proofs.Places.{got_indexed}
use Rattle.meaning.specs.declared.types.Ground.{Ground}
use Rattle.meaning.specs.declared.types.Query.{Query}
use Rattle.exposure_search.specs.Relevance.{Makes, IsImageAmong}
use Rattle.exposure_search.proofs.Imaging.{image_none}
use Rattle.exposure_search.proofs.Still.{images_next}
use Rattle.exposure_search.proofs.wanted.makes_image.Goals as goal

pub loop-query-init : goal.loop-query-init
loop-query-init c fact makes image = image_none c.args.head.now fact image

pub loop-query-preserved : goal.loop-query-preserved
loop-query-preserved c =
    images_next c.args.next c.args.rule.now c.args.queries.now c.args.head.now c.loop-query.query-index c.query-item.result (got_indexed c.args.queries.now c.loop-query.query-index c.query-item.result c.loop-query-test.true c.query-item.is) c.loop-query.invariant
    (c.in_ok-makes_image_of.ensures (ap (λ b. Ok b) c.if-branch.false))

pub returns : goal.returns
returns c e =
    subst (λ (l : List Query). (fact : Ground) → Makes c.args.next c.args.rule.now fact → IsImageAmong l c.args.head.now fact → ⊥) (take_all c.loop-query.query-index c.args.queries.now c.loop-query-test.false) c.loop-query.invariant

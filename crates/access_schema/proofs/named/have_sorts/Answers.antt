use Rattle.std.proofs.Common.{refl}
use Rattle.access_schema.specs.Faults.{HasSorts}
use Rattle.access_schema.proofs.Each.{each_more, each_all}
use Rattle.access_schema.proofs.named.have_sorts.Goals as goal

pub loop-part-preserved : goal.loop-part-preserved
loop-part-preserved c = each_more HasSorts c.args.parts.now c.loop-part.part-index c.loop-part.invariant
    c.part-item.result c.loop-part-test.true c.part-item.is (c.has_sorts.ensures.0 c.if-not-has_sorts.false)

pub returns : goal.returns
returns c = ((λ yes. each_all HasSorts c.args.parts.now c.loop-part.part-index c.loop-part.invariant c.loop-part-test.false), (λ sorts. refl))

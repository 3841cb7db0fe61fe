use Rattle.std.proofs.Common.{refl}
use Rattle.access_schema.specs.Faults.{IsNamed}
use Rattle.access_schema.proofs.Each.{each_more, each_all}
use Rattle.access_schema.proofs.named.are_named.Goals as goal

pub loop-part-preserved : goal.loop-part-preserved
loop-part-preserved c = each_more IsNamed c.args.parts.now c.loop-part.part-index c.loop-part.invariant
    c.part-item.result c.loop-part-test.true c.part-item.is (c.is_named.ensures.0 c.if-not-is_named.false)

pub returns : goal.returns
returns c = ((λ yes. each_all IsNamed c.args.parts.now c.loop-part.part-index c.loop-part.invariant c.loop-part-test.false), (λ named. refl))

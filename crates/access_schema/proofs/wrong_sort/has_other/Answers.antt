use Rattle.std.proofs.Common.{List, ℕ, subst}
use Rattle.meaning.specs.Integers.{IsInteger}
use Rattle.access_schema.proofs.Each.{each_more, each_all}
use Rattle.access_schema.proofs.wrong_sort.has_other.Goals as goal

pub loop-text-preserved : goal.loop-text-preserved
loop-text-preserved c = each_more IsInteger c.args.texts.now c.loop-text.text-index c.loop-text.invariant
    c.text-item.result c.loop-text-test.true c.text-item.is (subst IsInteger c.as_bytes.ensures (c.is_integer.ensures.0 c.if-not-is_integer.false))

pub returns : goal.returns
returns c = ((λ yes. absurd (cc)), (λ (text, there, other). absurd (other (each_all IsInteger c.args.texts.now c.loop-text.text-index c.loop-text.invariant c.loop-text-test.false text there))))

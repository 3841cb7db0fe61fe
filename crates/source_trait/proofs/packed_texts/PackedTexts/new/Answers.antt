use Rattle.source_trait.proofs.RequestLogs.{packed_none}
use Rattle.source_trait.proofs.packed_texts.PackedTexts.new.Goals as goal

pub invariant_of-result : goal.invariant_of-result
invariant_of-result c = (packed_none c.new-2.result.items c.new.result.items c.new-2.ensures.items c.new.ensures.items).0

pub returns : goal.returns
returns c = (packed_none c.new-2.result.items c.new.result.items c.new-2.ensures.items c.new.ensures.items).1

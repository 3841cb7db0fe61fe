use Rattle.std.proofs.Common.{map}
use Rattle.csv.specs.Records.{fields_of}
use Rattle.row_text.proofs.Packing.{packed_more}
use Rattle.row_text.proofs.packed.PackedRows.with_texts.Goals as goal

pub invariant_of-result : goal.invariant_of-result
invariant_of-result c = (packed_more c.self.inside.ends.items c.push.new.self.items (fields_of c.self.inside.values) (fields_of c.push_texts.new.values) (map (λ s. s.now) c.args.texts.now) c.len.result c.self.invariant c.in_ok-push_texts.ensures c.len.ensures c.in_ok-push.ensures.items).0

pub returns : goal.returns
returns c = rw (← c.self.view_is) (packed_more c.self.inside.ends.items c.push.new.self.items (fields_of c.self.inside.values) (fields_of c.push_texts.new.values) (map (λ s. s.now) c.args.texts.now) c.len.result c.self.invariant c.in_ok-push_texts.ensures c.len.ensures c.in_ok-push.ensures.items).1

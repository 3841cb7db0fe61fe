use Rattle.std.proofs.Common.{ap, length, arith}
use Rattle.csv.specs.Records.{fields_of}
use Rattle.row_text.proofs.Packing.{length-cut_at, got_part}
use Rattle.row_text.proofs.packed.PackedRows.at.Goals as goal

pub bounds-start-requires : goal.bounds-start-requires
bounds-start-requires c = omega (arith, length-cut_at 0 c.self.inside.ends.items (fields_of c.self.inside.values), ap length c.self.view_is)

pub new-requires-clause-order : goal.new-requires-clause-order
new-requires-clause-order c = (got_part c.args.self.now c.self.inside.ends.items (fields_of c.self.inside.values) c.args.number c.bounds-start.result.0 c.bounds-start.result.1 c.self.view_is c.self.invariant c.requires c.bounds-start.ensures.start c.bounds-start.ensures.end).order

pub new-requires-clause-within : goal.new-requires-clause-within
new-requires-clause-within c = (got_part c.args.self.now c.self.inside.ends.items (fields_of c.self.inside.values) c.args.number c.bounds-start.result.0 c.bounds-start.result.1 c.self.view_is c.self.invariant c.requires c.bounds-start.ensures.start c.bounds-start.ensures.end).within

pub returns : goal.returns
returns c =
    let part = got_part c.args.self.now c.self.inside.ends.items (fields_of c.self.inside.values) c.args.number c.bounds-start.result.0 c.bounds-start.result.1 c.self.view_is c.self.invariant c.requires c.bounds-start.ensures.start c.bounds-start.ensures.end in
    rw part.is c.new.ensures

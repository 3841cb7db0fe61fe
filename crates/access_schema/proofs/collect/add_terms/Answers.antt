-- Too many are known already, and no text that follows takes one away.
use Rattle.std.proofs.Common.{◌<◌, length, sym, rules}
use Rattle.std.specs.Prelude.{filter_map}
use Rattle.access_schema.specs.Wanted.{text_of}
use Rattle.access_schema.proofs.Collected.{once_over}
use Rattle.access_schema.proofs.collect.add_terms.Goals as goal

pub returns-then-most-len-clause-fits : goal.returns-then-most-len-clause-fits
returns-then-most-len-clause-fits c =
    let over : c.args.most < length c.loop-left.known.items = search rules in
    rw c.loop-left.invariant (sym (once_over c.args.most c.loop-left.known.items (filter_map (text_of c.args.wanted) c.loop-left.left.now) over))

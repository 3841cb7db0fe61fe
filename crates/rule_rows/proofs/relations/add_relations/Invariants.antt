use Rattle.std.proofs.Common.{◌≡◌, ◌++◌, take}
use Rattle.rule_rows.specs.Listing.{relations_of}
use Rattle.rule_rows.proofs.relations.add_relations.Given as goal

abbrev pub invariant-loop-atom : goal.invariant-loop-atom
invariant-loop-atom l = l.rels.items ≡ l.fn.rels.items ++ relations_of (take l.atom-index l.atoms)

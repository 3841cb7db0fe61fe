use Rattle.std.proofs.Common.{◌≡◌, take}
use Rattle.rule_rows.specs.Listing.{relations_in}
use Rattle.rule_rows.proofs.relations.rule_relations.Given as goal

abbrev pub invariant-loop-rule : goal.invariant-loop-rule
invariant-loop-rule l = l.rels.items ≡ relations_in (take l.rule-index l.rule-items)

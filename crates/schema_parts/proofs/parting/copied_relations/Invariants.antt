use Rattle.std.proofs.Common.{◌≡◌, take}
use Rattle.schema_parts.proofs.parting.copied_relations.Given as goal

-- those so far
abbrev pub invariant-loop-relation : goal.invariant-loop-relation
invariant-loop-relation l = l.copies ≡ take l.relation-index l.relations

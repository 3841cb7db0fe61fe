use Rattle.std.proofs.Common.{◌≡◌, take}
use Rattle.schema_parts.proofs.parting.copied_methods.Given as goal

-- those so far
abbrev pub invariant-loop-method : goal.invariant-loop-method
invariant-loop-method l = l.copies ≡ take l.method-index l.methods

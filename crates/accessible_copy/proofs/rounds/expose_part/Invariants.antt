use Rattle.std.proofs.Common.{take}
use Rattle.access_schema.specs.Meaning.{meaning_of}
use Rattle.accessible_copy.proofs.Rounding.{IsExposing}
use Rattle.accessible_copy.proofs.rounds.expose_part.Given as goal

abbrev pub invariant-loop-firing : goal.invariant-loop-firing
invariant-loop-firing l = IsExposing (meaning_of l.schema) l.fn.proof l.proof (take l.firing-index l.firing-items) l.budget

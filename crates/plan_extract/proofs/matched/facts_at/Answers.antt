use Rattle.std.proofs.Common.{arith}
use Rattle.meaning_laws.proofs.Carrying.{occurs_below}
use Rattle.plan_extract.proofs.matched.facts_at.Goals as goal

pub ground_under-requires : goal.ground_under-requires
ground_under-requires c x occurs = let low = occurs_below c.args.atoms.now x occurs in omega arith

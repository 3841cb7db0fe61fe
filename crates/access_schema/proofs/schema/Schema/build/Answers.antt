use Rattle.std.proofs.Common.{List, subst}
use Rattle.std.specs.Prelude.{OnOk}
use Rattle.access_schema.specs.declared.part.Part.{Part}
use Rattle.access_schema.specs.Faults.{AreFaultless}
use Rattle.access_schema.proofs.schema.Schema.build.Goals as goal

pub returns-clause-faultless : goal.returns-clause-faultless
returns-clause-faultless c = subst (λ (parts : List Part). OnOk c.build_parts.result (AreFaultless parts)) c.as_slice.ensures c.build_parts.ensures.faultless

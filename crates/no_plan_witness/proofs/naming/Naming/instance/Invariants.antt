use Rattle.std.proofs.Common.{◌≡◌, take}
use Rattle.meaning.specs.Homomorphisms.{renamed}
use Rattle.no_plan_witness.specs.Texts.{text_under}
use Rattle.no_plan_witness.proofs.naming.Naming.instance.Given as goal

abbrev pub invariant-loop-fact : goal.invariant-loop-fact
invariant-loop-fact l = l.instance.items ≡ renamed (text_under l.self) (take l.fact-index l.facts)

use Rattle.homomorphism.proofs.Covering.{denied}
use Rattle.accessible_copy.proofs.open_facts.OpenFacts.is_to_list.Goals as goal

pub returns-then-is_listed : goal.returns-then-is_listed
returns-then-is_listed c = λ e is. c.is_listed.ensures c.if-is_listed.true

pub returns : goal.returns
returns c = λ e is. absurd (denied _ c.is_open.ensures e is)

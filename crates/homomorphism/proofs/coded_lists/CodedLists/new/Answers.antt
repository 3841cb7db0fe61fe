use Rattle.homomorphism.proofs.Coded.{new_lists}
use Rattle.homomorphism.proofs.coded_lists.CodedLists.new.Goals as goal

pub returns : goal.returns
returns c = new_lists (record { coded = c.new.result; others = c.new-2.result }) c.new.ensures.empty c.new-2.ensures.empty

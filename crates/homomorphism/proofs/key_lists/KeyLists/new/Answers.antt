use Rattle.homomorphism.proofs.Relations.{new_relations}
use Rattle.homomorphism.proofs.key_lists.KeyLists.new.Goals as goal

pub returns : goal.returns
returns c = new_relations (record { relations = c.new.result; values = c.new-2.result }) c.new.ensures.empty c.new-2.ensures

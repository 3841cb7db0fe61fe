use Rattle.homomorphism.proofs.Coded.{coded_found, coded_none}
use Rattle.homomorphism.proofs.coded_lists.CodedLists.coded_numbers.Goals as goal

pub returns-in-Some : goal.returns-in-Some
returns-in-Some c = coded_found c.args.key.now c.key_code.result c.args.self.now.coded c.in-Some.list.now c.numbers_of.result.now c.key_code.ensures c.in-Some.ensures.value c.numbers_of.ensures

pub returns-in-None : goal.returns-in-None
returns-in-None c = coded_none c.args.key.now c.key_code.result c.args.self.now.coded c.key_code.ensures c.in-None.ensures.value

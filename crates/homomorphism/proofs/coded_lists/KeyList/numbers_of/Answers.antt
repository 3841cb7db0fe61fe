use Rattle.homomorphism.proofs.Coded.{numbers_own, numbers_not}
use Rattle.homomorphism.proofs.coded_lists.KeyList.numbers_of.Goals as goal

pub returns-then-is_of : goal.returns-then-is_of
returns-then-is_of c = numbers_own c.args.key.now c.args.self.now c.as_slice.result.now c.is_of.result c.is_of.ensures c.if-is_of.true c.as_slice.ensures

pub returns : goal.returns
returns c = numbers_not c.args.key.now c.args.self.now c.is_of.result c.is_of.ensures c.if-is_of.false

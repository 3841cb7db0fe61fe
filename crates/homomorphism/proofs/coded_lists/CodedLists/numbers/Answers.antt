use Rattle.std.proofs.Common.{◌∙◌}
use Rattle.homomorphism.proofs.Coded.{listed_other, listed_coded}
use Rattle.homomorphism.proofs.coded_lists.CodedLists.numbers.Goals as goal

pub returns-in-Some : goal.returns-in-Some
returns-in-Some c = c.as_slice.ensures ∙ listed_other c.args.key.now c.args.self.now c.in-Some.numbers.now c.in-Some.ensures.value

pub returns-in-None : goal.returns-in-None
returns-in-None c = listed_coded c.args.key.now c.args.self.now c.coded_numbers.result.now c.in-None.ensures.value c.coded_numbers.ensures

use Rattle.std.proofs.Common.{sym, ap, ◌∙◌}
use Rattle.std.specs.BTreeMap.{get}
use Rattle.homomorphism.specs.Listed.{key_cmp, coded_list}
use Rattle.homomorphism.proofs.Coded.{struck_other, kept_other, struck_coded, kept_coded, listed_same}
use Rattle.homomorphism.proofs.coded_lists.CodedLists.strike.Goals as goal

pub returns-then-contains_key-clause-there : goal.returns-then-contains_key-clause-there
returns-then-contains_key-clause-there c = struck_other c.args.key.now c.args.number c.args.self.now c.strike_other.new.self (sym c.contains_key.ensures ∙ c.if-contains_key.true) c.strike_other.ensures.there

pub returns-then-contains_key-clause-not_there : goal.returns-then-contains_key-clause-not_there
returns-then-contains_key-clause-not_there c = kept_other c.args.key.now c.args.number c.args.self.now c.strike_other.new.self (sym c.contains_key.ensures ∙ c.if-contains_key.true) c.strike_other.ensures.not_there

pub returns-then-contains_key-clause-others : goal.returns-then-contains_key-clause-others
returns-then-contains_key-clause-others c = λ other differ. listed_same c.args.self.now c.strike_other.new.self other (c.strike_other.ensures.apart other differ) (ap (λ m. coded_list m other) c.strike_other.ensures.coded)

pub returns-else-contains_key-clause-there : goal.returns-else-contains_key-clause-there
returns-else-contains_key-clause-there c = struck_coded c.args.key.now c.args.number c.args.self.now c.strike_coded.new.self (sym c.contains_key.ensures ∙ c.if-contains_key.false) c.strike_coded.ensures.others c.strike_coded.ensures.there

pub returns-else-contains_key-clause-not_there : goal.returns-else-contains_key-clause-not_there
returns-else-contains_key-clause-not_there c = kept_coded c.args.key.now c.args.number c.args.self.now c.strike_coded.new.self (sym c.contains_key.ensures ∙ c.if-contains_key.false) c.strike_coded.ensures.others c.strike_coded.ensures.not_there

pub returns-else-contains_key-clause-others : goal.returns-else-contains_key-clause-others
returns-else-contains_key-clause-others c = λ other differ. listed_same c.args.self.now c.strike_coded.new.self other (ap (λ m. get key_cmp m other) c.strike_coded.ensures.others) (c.strike_coded.ensures.apart other differ)

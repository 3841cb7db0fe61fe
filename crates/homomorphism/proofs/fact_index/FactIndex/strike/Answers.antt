use Rattle.std.proofs.Common.{refl}
use Rattle.homomorphism.proofs.Indexing.{index_struck}
use Rattle.homomorphism.proofs.fact_index.FactIndex.strike.Goals as goal

pub returns : goal.returns
returns c = λ facts is r. index_struck facts c.args.fact c.args.number is c.args.self.now (record { positions = c.args.self.now.positions; lists = c.strike_all.new.self }) refl c.strike_all.ensures r

use Rattle.std.proofs.Common.{refl}
use Rattle.std.proofs.lemmas.Result.{on_ok_weaker}
use Rattle.homomorphism.proofs.Indexing.{index_added, index_part}
use Rattle.homomorphism.proofs.fact_index.FactIndex.note.Goals as goal

pub returns-clause-noted : goal.returns-clause-noted
returns-clause-noted c =
    on_ok_weaker c.note_all.result (λ h facts is r. index_added facts c.args.fact.now c.args.number is c.args.self.now (record { positions = c.args.self.now.positions; lists = c.note_all.new.self }) refl h c.note_all.ensures.part r) c.note_all.ensures.noted

pub returns-clause-part : goal.returns-clause-part
returns-clause-part c = λ facts is r. index_part facts c.args.fact.now c.args.number is c.args.self.now (record { positions = c.args.self.now.positions; lists = c.note_all.new.self }) refl c.note_all.ensures.part r

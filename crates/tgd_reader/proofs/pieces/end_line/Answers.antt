use Rattle.std.proofs.Common.{[], ◌∷◌, refl}
use Rattle.pq_text.proofs.PrintedTexts.{ascii_then}
use Rattle.tgd_reader.proofs.pieces.end_line.Goals as goal

pub returns-clause-utf8 : goal.returns-clause-utf8
returns-clause-utf8 c = λ utf8. ascii_then c.args.out.now.items c.push.new.self.items (10 ∷ []) c.in_ok-push.ensures.items refl utf8

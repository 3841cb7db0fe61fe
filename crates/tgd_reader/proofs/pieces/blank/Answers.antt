use Rattle.std.proofs.Common.{[], ◌∷◌, refl}
use Rattle.pq_text.proofs.PrintedTexts.{ascii_then}
use Rattle.tgd_reader.proofs.pieces.blank.Goals as goal

pub returns-in_ok-push-clause-utf8 : goal.returns-in_ok-push-clause-utf8
returns-in_ok-push-clause-utf8 c = λ utf8. ascii_then c.args.out.now.items c.push.new.self.items (32 ∷ []) c.in_ok-push.ensures.items refl utf8

use Rattle.std.proofs.Common.{[], ◌∷◌, refl, arith}
use Rattle.std.proofs.lemmas.Result.{on_ok_weaker}
use Rattle.pq_text.proofs.PrintedTexts.{ascii_then, number_then}
use Rattle.tgd_reader.proofs.pieces.number.Goals as goal

pub returns-clause-utf8 : goal.returns-clause-utf8
returns-clause-utf8 c =
    on_ok_weaker c.print_number.result
    (λ written utf8. number_then c.push.new.self.items c.print_number.new.out.items c.args.number written (let r = c.ranges.number in omega arith)
    (ascii_then c.args.out.now.items c.push.new.self.items (32 ∷ []) c.in_ok-push.ensures.items refl utf8))
    c.print_number.ensures

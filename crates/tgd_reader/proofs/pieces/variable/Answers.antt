use Rattle.std.proofs.Common.{[], ◌∷◌, refl, arith}
use Rattle.std.proofs.lemmas.Result.{on_ok_weaker}
use Rattle.pq_text.proofs.PrintedTexts.{ascii_then, number_then}
use Rattle.tgd_reader.proofs.Writing.{variable_written}
use Rattle.tgd_reader.proofs.pieces.variable.Goals as goal

pub returns-clause-written : goal.returns-clause-written
returns-clause-written c = on_ok_weaker c.print_number.result
    (λ digits. variable_written c.args.out.now.items c.blank.new.out.items c.push.new.self.items c.print_number.new.out.items c.args.spaced c.args.number (let r = c.ranges.number in omega arith) c.in_ok-blank.ensures.written c.in_ok-push.ensures.items digits)
    c.print_number.ensures

pub returns-clause-utf8 : goal.returns-clause-utf8
returns-clause-utf8 c =
    on_ok_weaker c.print_number.result
    (λ written utf8. number_then c.push.new.self.items c.print_number.new.out.items c.args.number written (let r = c.ranges.number in omega arith)
    (ascii_then c.blank.new.out.items c.push.new.self.items (120 ∷ []) c.in_ok-push.ensures.items refl (c.in_ok-blank.ensures.utf8 utf8)))
    c.print_number.ensures

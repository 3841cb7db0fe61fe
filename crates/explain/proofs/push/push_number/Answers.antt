use Rattle.std.proofs.Common.{arith}
use Rattle.std.proofs.lemmas.Result.{on_ok_weaker}
use Rattle.pq_text.proofs.PrintedTexts.{number_then}
use Rattle.explain.proofs.push.push_number.Goals as goal

pub returns-clause-utf8 : goal.returns-clause-utf8
returns-clause-utf8 c =
    on_ok_weaker c.print_number.result
    (λ written. number_then c.args.out.now.items c.print_number.new.out.items c.args.number written (let fits = c.ranges.number.fits in omega (arith, fits)))
    c.print_number.ensures

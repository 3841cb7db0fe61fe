use Rattle.std.proofs.Common.{arith}
use Rattle.pq_text.proofs.Digits.{print_last, print_more}
use Rattle.pq_text.proofs.number.+print_number.Goals as goal

pub returns-then-number-lt10 : goal.returns-then-number-lt10
returns-then-number-lt10 t c = print_last c.args.out.now.items c.push.new.self.items c.args.number (omega arith) c.in_ok-push.ensures.items

pub returns : goal.returns
returns t c =
    print_more c.args.out.now.items c.print_number.new.out.items c.push-2.new.self.items c.args.number (omega arith) (omega arith) c.in_ok-print_number.ensures c.in_ok-push-2.ensures.items

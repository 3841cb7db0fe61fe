-- A number below the least of the option is not in its range.
use Rattle.std.proofs.Common.{arith}
use Rattle.command_words.proofs.Making.{below_least}
use Rattle.command_words.proofs.given.number_in_range.Goals as goal

pub returns-then-number-least : goal.returns-then-number-least
returns-then-number-least c =
    let (is, within) = c.in_ok-number.ensures in
    let most = c.limit.ensures in
    let low = c.if-number-least.true in
    let least_is = c.least.ensures in
    below_least c.args.option c.args.text.now c.in_ok-number.number is (omega (arith, within, most)) (omega (arith, low, least_is))

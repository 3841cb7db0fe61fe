use Rattle.std.proofs.Common.{◌≡◌, ◌-◌, length, take, drop, get_or, arith}
use Rattle.meaning.proofs.Signs.{minus_text, minus_number, minus_no_number}
use Rattle.meaning.proofs.integers.is_integer.Goals as goal

pub returns-in-Some : goal.returns-in-Some
returns-in-Some c =
    let text = c.args.text.now in
    let first : get_or text 0 0 ≡ 45 = omega arith in
    minus_number text (take (length text - 1) (drop 1 text)) c.in-Some.number (minus_text text c.in-45.len_at_least first) c.in-Some.ensures

pub returns-in-None : goal.returns-in-None
returns-in-None c =
    let text = c.args.text.now in
    let first : get_or text 0 0 ≡ 45 = omega arith in
    minus_no_number text (take (length text - 1) (drop 1 text)) (minus_text text c.in-45.len_at_least first) c.in-None.ensures

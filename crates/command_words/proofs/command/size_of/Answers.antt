-- A number in range is a size, and 0 is none.
use Rattle.std.proofs.Common.{◌∙◌, sym, ap, arith}
use Rattle.std.specs.Fmt.{decimal}
use Rattle.command_words.proofs.Making.{size_is, size_zero}
use Rattle.command_words.proofs.command.size_of.Goals as goal

pub returns-then-size-eq0 : goal.returns-then-size-eq0
returns-then-size-eq0 c =
    sym (size_zero c.args.text.now (sym c.as_bytes.ensures ∙ (c.in_ok-size.ensures.0 ∙ ap decimal c.if-size-eq0.true)))

pub returns-else-size-eq0 : goal.returns-else-size-eq0
returns-else-size-eq0 c = let not = c.if-size-eq0.false in
    sym (size_is c.args.text.now c.in_ok-size.size (sym c.as_bytes.ensures ∙ c.in_ok-size.ensures.0) (omega (arith, not)) c.in_ok-size.ensures.1)

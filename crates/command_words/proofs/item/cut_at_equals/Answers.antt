use Rattle.std.proofs.Common.{◌∙◌, ◌+◌, sym, ap, arith, Some, ℕ, drop}
use Rattle.std.proofs.lemmas.List.{take_rest}
use Rattle.std.proofs.Math.Numerals.{add-one}
use Rattle.command_words.proofs.Cutting.{before_at, behind_at, before_all, behind_all}
use Rattle.command_words.proofs.item.cut_at_equals.Goals as goal

pub returns-then-byte-eq61-clause-before : goal.returns-then-byte-eq61-clause-before
returns-then-byte-eq61-clause-before c = sym (before_at c.args.text.now c.loop-place.place c.loop-place.invariant (omega arith) (omega arith))

pub returns-then-byte-eq61-clause-behind : goal.returns-then-byte-eq61-clause-behind
returns-then-byte-eq61-clause-behind c =
    let place = c.loop-place.place in
    let text = c.args.text.now in
    ap Some (take_rest text (place + 1) ∙ ap (λ (n : ℕ). drop n text) (add-one place))
    ∙ sym (behind_at text place c.loop-place.invariant (omega arith) (omega arith))

pub returns-clause-before : goal.returns-clause-before
returns-clause-before c = sym (before_all c.args.text.now (λ k below. c.loop-place.invariant k (omega arith)))

pub returns-clause-behind : goal.returns-clause-behind
returns-clause-behind c = sym (behind_all c.args.text.now (λ k below. c.loop-place.invariant k (omega arith)))

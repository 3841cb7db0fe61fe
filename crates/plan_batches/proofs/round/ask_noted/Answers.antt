use Rattle.std.proofs.Common.{◌≡◌, ◌∙◌, ◌+◌, ◌++◌, List, ap, length, sym, subst}
use Rattle.plan_batches.specs.Asking.{asks_in}
use Rattle.plan_batches.specs.Naming.{NumbersBelow}
use Rattle.plan_batches.specs.Receiving.{HaveNoBad, IsFirstBad}
use Rattle.plan_batches.specs.declared.member.Going.{Going}
use Rattle.plan_batches.proofs.Going.{asks_part, asks_whole, rest_is}
use Rattle.plan_batches.proofs.round.ask_noted.Goals as goal

pub first_bad-requires-clause-numbers : goal.first_bad-requires-clause-numbers
first_bad-requires-clause-numbers g c =
    let lent = rest_is c.args.noted.now.made c.args.noted.now.book.asked.items c.as_slice.result.now c.as_slice.ensures.value in
    let long : length c.in-Ok.answers ≡ length (asks_in c.args.noted.now) = c.in-Ok.ensures.answers.len ∙ ap length lent in
    subst (λ n. NumbersBelow (length c.args.noted.now.kept + n) c.as_slice-2.result.now) (sym long)
    (subst (λ (l : List Going). NumbersBelow (length c.args.noted.now.kept + length (asks_in c.args.noted.now)) l)
    (sym c.as_slice-2.ensures.value) c.requires.numbers)

pub returns-in-Err : goal.returns-in-Err
returns-in-Err g c =
    let lent = rest_is c.args.noted.now.made c.args.noted.now.book.asked.items c.as_slice.result.now c.as_slice.ensures.value in
    asks_part g.S.Source.seen c.args.schema.now c.args.noted.now _ lent c.args.lanes.now c.ask_round.new.lanes c.in-Err.why
    c.in-Err.ensures.refused c.in-Err.ensures.cause

pub returns-in-None : goal.returns-in-None
returns-in-None g c =
    let lent = rest_is c.args.noted.now.made c.args.noted.now.book.asked.items c.as_slice.result.now c.as_slice.ensures.value in (
      asks_whole g.S.Source.seen c.args.schema.now c.args.noted.now _ lent c.args.lanes.now c.ask_round.new.lanes c.in-Ok.answers
          c.in-Ok.ensures.asks c.in-Ok.ensures.answers c.in-Ok.ensures.going,
      subst (λ (l : List Going). HaveNoBad c.args.schema.now (c.args.noted.now.kept ++ c.in-Ok.answers) l) c.as_slice-2.ensures.value
          c.in-None.ensures,
    )

pub returns-in-Some : goal.returns-in-Some
returns-in-Some g c =
    let lent = rest_is c.args.noted.now.made c.args.noted.now.book.asked.items c.as_slice.result.now c.as_slice.ensures.value in (
      c.in-Ok.answers,
      asks_whole g.S.Source.seen c.args.schema.now c.args.noted.now _ lent c.args.lanes.now c.ask_round.new.lanes c.in-Ok.answers
          c.in-Ok.ensures.asks c.in-Ok.ensures.answers c.in-Ok.ensures.going,
      subst (λ (l : List Going). IsFirstBad c.args.schema.now (c.args.noted.now.kept ++ c.in-Ok.answers) l c.in-Some.bad)
          c.as_slice-2.ensures.value c.in-Some.ensures,
    )

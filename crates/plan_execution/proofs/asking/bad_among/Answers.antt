use Rattle.std.proofs.Common.{ℕ, ◌+◌, List, Option, take, sym, ◌∙◌, subst, arith}
use Rattle.std.proofs.lemmas.List.{take_all}
use Rattle.lists.proofs.Places.{got_none}
use Rattle.access_schema.specs.Meaning.{meaning_of}
use Rattle.source_trait.specs.Asking.{RowList}
use Rattle.bad_numbers.specs.Numbers.{FindsBad}
use Rattle.bad_numbers.proofs.Parts.{one_more}
use Rattle.plan_execution.specs.Rounding.{rows_in}
use Rattle.plan_execution.proofs.asking.bad_among.Goals.{in-Some, in_default}
use Rattle.plan_execution.proofs.asking.bad_among.Goals as goal

pub loop-number-preserved : goal.loop-number-preserved
loop-number-preserved c =
    let number = c.loop-number.number in
    let answers = c.args.answers.now in
    elim c.match-get.branch [
      | in-Some w ↦ subst (λ (o : Option ℕ). FindsBad (meaning_of c.args.schema.now) c.args.rel (rows_in (take (number + 1) answers)) o)
          (sym (w.found-is ∙ w.lower-found.ensures))
          (one_more (meaning_of c.args.schema.now) c.args.rel answers number w.in-Some.rows c.loop-number.found w.bad_in.result
          (sym c.get.ensures ∙ w.in-Some.is) c.loop-number.invariant w.bad_in.ensures)
      | in_default w ↦
          let over = got_none answers number (sym c.get.ensures ∙ w.in_default.is) in
          let less = c.loop-number-test.true in
          let end = c.len-number-end.ensures in
          absurd (omega (arith, over, less, end))
    ]

pub returns : goal.returns
returns c =
    let over = c.loop-number-test.false in
    let end = c.len-number-end.ensures in
    subst (λ (l : List RowList). FindsBad (meaning_of c.args.schema.now) c.args.rel (rows_in l) c.loop-number.found)
    (take_all c.loop-number.number c.args.answers.now (omega (arith, over, end))) c.loop-number.invariant

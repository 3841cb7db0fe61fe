-- The text of the rows that are the answers.
use Rattle.std.proofs.Common.{◌∙◌}
use Rattle.std.proofs.lemmas.Result.{IfOk-weaker}
use Rattle.crawl_command.proofs.Reached.{each_fits, answers_told}
use Rattle.crawl_command.proofs.reach.answers_text.Goals as goal

pub answers-requires-clause-fits : goal.answers-requires-clause-fits
answers-requires-clause-fits c = each_fits c.args.schema.now c.args.statement.now c.requires.fits

pub returns : goal.returns
returns c = IfOk-weaker c.csv_text.result _ _
    (λ text is. answers_told c.args.statement.now c.args.part.now c.result_names.result.now c.in_ok-packed.packed c.in_ok-rows.rows
    c.result_names.ensures (c.in_ok-packed.ensures ∙ c.as_slice.ensures) c.in_ok-rows.ensures.members text is)
    c.csv_text.ensures

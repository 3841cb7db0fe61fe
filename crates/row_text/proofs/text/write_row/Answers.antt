use Rattle.std.proofs.Common.{◌≡◌, ◌≢◌, map, arith}
use Rattle.std.proofs.lemmas.Grind.{common_steps}
use Rattle.csv.specs.declared.writer.QuoteStyle.TheVariants as style
use Rattle.csv.specs.Writing.{writer_setup}
use Rattle.row_text.proofs.Flexible.{row_text-flexible}
use Rattle.row_text.proofs.text.write_row.Goals as goal
use Rattle.row_text.proofs.text.write_row.Goals.{in-Ok, in-Err}

pub returns-clause-grown : goal.returns-clause-grown
returns-clause-grown c =
    let plain : (writer_setup c.args.writer.now).style ≢ style.NonNumeric = rw c.requires.setup (λ e. cc) in
    let all : map (λ f. f.now) c.loop-text.fields.items ≡ map (λ s. s.now) c.args.row.now = grind (arith, common_steps, c.loop-text.invariant, c.loop-text-test.false) in
    let fields : map (λ f. f.now) c.as_slice.result.now ≡ map (λ s. s.now) c.args.row.now = rw c.as_slice.ensures.value all in
    elim c.match-write_fields.branch [
      | in-Ok w ↦
          let bytes = w.in-Ok.ensures.bytes c.requires.fields c.requires.fresh plain in
          rw w.result-is (rw (c.requires.setup, fields, row_text-flexible (map (λ s. s.now) c.args.row.now)) at bytes)
      | in-Err w ↦ rw w.result-is tt
    ]

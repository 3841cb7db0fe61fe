use Rattle.std.proofs.Common.{◌≡◌, ◌<◌, ◌-◌, ◌+◌, min, length, refl, arith}
use Rattle.csv.specs.Records.{fields_of}
use Rattle.row_text.proofs.Packing.{ends_more}
use Rattle.row_text.proofs.Widths.{behind_more, behind_none}
use Rattle.row_text.proofs.packed.PackedRows.of_width.Goals as goal

pub loop-end-init : goal.loop-end-init
loop-end-init c = record {
  within = omega arith;
  are = rw c.in_ok-ends.ensures.items refl;
  rows = λ rows is wide. record { rest = rows; all = rw c.in_ok-ends.ensures.items refl; behind = is; wide = wide };
}

pub loop-end-preserved : goal.loop-end-preserved
loop-end-preserved c =
    let values = fields_of c.args.values in
    let below : c.loop-end.end < length values = omega (arith, c.loop-end-test.true, c.len-count.ensures) in
    let step : c.min-end.result ≡ min c.args.width (length values - c.loop-end.end) = omega (arith, c.min-end.ensures, c.len-count.ensures) in
    record {
      within = omega (arith, step, below);
      are = rw c.in_ok-push.ensures.items (ends_more 0 c.loop-end.ends.items c.loop-end.end (c.loop-end.end + c.min-end.result) c.loop-end.invariant.are (omega arith));
      rows = λ rows is wide. rw c.in_ok-push.ensures.items (behind_more c.args.width values c.loop-end.ends.items c.loop-end.end c.min-end.result rows
          c.loop-end.invariant.are below step (c.loop-end.invariant.rows rows is wide));
    }

pub invariant_of-result : goal.invariant_of-result
invariant_of-result c =
    let last : c.loop-end.end ≡ length (fields_of c.args.values) = omega (arith, c.loop-end-test.false, c.len-count.ensures, c.loop-end.invariant.within) in
    rw last at c.loop-end.invariant.are

pub returns : goal.returns
returns c rows is wide =
    let last : c.loop-end.end ≡ length (fields_of c.args.values) = omega (arith, c.loop-end-test.false, c.len-count.ensures, c.loop-end.invariant.within) in
    behind_none c.args.width (fields_of c.args.values) c.loop-end.ends.items c.loop-end.end rows c.requires last (c.loop-end.invariant.rows rows is wide)

-- The columns are those of the labels that stand for integers and of the others.
use Rattle.std.proofs.Common.{◌++◌}
use Rattle.access_schema.specs.Meaning.{meaning_of}
use Rattle.no_plan_witness.proofs.Columns.{integers_column, others_column}
use Rattle.no_plan_witness.proofs.naming.Naming.new.Goals as goal

pub returns : goal.returns
returns c =
    let schema = meaning_of c.args.schema.now in
    let facts = c.args.first.now ++ c.args.second.now in
    record {
      integers_are = integers_column schema c.args.known.now facts c.in_ok-integers.integers.items c.in_ok-new.field-0
          c.in_ok-integers.ensures.ascend c.in_ok-integers.ensures.exactly c.in_ok-new.ensures.labels c.in_ok-new.ensures.texts c.in_ok-new.ensures.as_many;
      others_are = others_column schema c.args.known.now facts c.in_ok-labels.labels.items c.as_slice.result.now c.in_ok-integers.integers.items c.as_slice-2.result.now c.in_ok-others.others.items c.in_ok-new-2.field-0
          c.as_slice.ensures.value c.as_slice-2.ensures.value c.in_ok-labels.ensures.exactly c.in_ok-integers.ensures.exactly
          c.in_ok-others.ensures.ascend c.in_ok-others.ensures.within c.in_ok-others.ensures.apart c.in_ok-others.ensures.all
          c.in_ok-new-2.ensures.labels c.in_ok-new-2.ensures.texts c.in_ok-new-2.ensures.as_many;
    }

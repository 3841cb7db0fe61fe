use Rattle.std.proofs.Common.{◌++◌, ◌∷◌, [], refl}
use Rattle.std.specs.Prelude.{slice_index_or}
use Rattle.sql_batch.proofs.Queries.{passed_on, rest_stands}
use Rattle.sql_batch.proofs.reading.read_all.Goals as goal

pub loop-left-preserved : goal.loop-left-preserved
loop-left-preserved c = record {
  read = (
    c.loop-left.invariant.read.0 ++ slice_index_or c.loop-left.left.now 0 (record { from = 0; to = 0 }) ∷ [],
    passed_on c.args.parts.now c.loop-left.invariant.read.0 c.loop-left.left.now _ (record { from = 0; to = 0 }) c.loop-left.invariant.read.1 c.in-len1-up.len_at_least refl,
    c.in-Ok.ensures.more c.loop-left.invariant.read.0 c.loop-left.invariant.read.2,
  );
  stand = rest_stands c.args.bytes.now c.loop-left.left.now _ c.loop-left.invariant.stand c.in-len1-up.len_at_least refl;
}

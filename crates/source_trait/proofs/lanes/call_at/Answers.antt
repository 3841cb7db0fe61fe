use Rattle.std.proofs.Common.{refl}
use Rattle.std.proofs.lemmas.Option.{slice_get_read}
use Rattle.source_trait.proofs.lanes.call_at.Goals as goal

pub returns : goal.returns
returns g c = record {
  before = c.index_mut-kind.result.now;
  after = record { name = c.index_mut-kind.result.now.name; object = c.call.new.self };
  there = slice_get_read _ _ _ _ refl c.requires.place c.index_mut-kind.ensures.value;
  now = refl;
  name = refl;
  steps = c.call.ensures;
}

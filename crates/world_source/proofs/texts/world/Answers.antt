use Rattle.world_source.proofs.Sizes.{schema_short}
use Rattle.world_source.proofs.texts.world.Goals as goal

pub returns-clause-short : goal.returns-clause-short
returns-clause-short c = rw (c.from_vec.ensures, c.in_ok-schema.ensures) (schema_short c.args.n c.requires)

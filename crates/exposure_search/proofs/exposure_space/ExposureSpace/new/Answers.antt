use Rattle.access_schema.specs.Meaning.{meaning_of}
use Rattle.exposure_search.proofs.Explored.{founded}
use Rattle.exposure_search.proofs.exposure_space.ExposureSpace.new.Goals as goal

pub returns-clause-founded : goal.returns-clause-founded
returns-clause-founded c =
    let aim = c.in-Ok.aim in
    let ready = c.in-Ok.ensures.aimed.ready in
    founded (meaning_of aim.schema.now) c.args.proof aim.queries.now aim.head.now aim.budget aim.marks ready.exposes ready.relevant

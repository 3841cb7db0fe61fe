use Rattle.access_schema.specs.Meaning.{meaning_of}
use Rattle.sql_conjunctive.proofs.OfSchema.{facts_from, facts_fit}
use Rattle.sql_conjunctive.proofs.fits.is_instance.Goals as goal

pub returns : goal.returns
returns c = (
  (λ fit. facts_from (meaning_of c.args.schema.now) c.args.instance.now (c.facts_fit.ensures.0 fit)),
  (λ is. c.facts_fit.ensures.1 (facts_fit (meaning_of c.args.schema.now) c.args.instance.now is)),
)

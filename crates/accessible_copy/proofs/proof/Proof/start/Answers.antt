use Rattle.std.proofs.Common.{rules}
use Rattle.access_schema.specs.Meaning.{meaning_of}
use Rattle.accessible_copy.proofs.Opening.{opening_proof, opening_ordered}
use Rattle.accessible_copy.proofs.proof.Proof.start.Goals as goal

pub returns-clause-run : goal.returns-clause-run
returns-clause-run c = opening_proof c.args.schema.now c.args.query.now _ c.requires.counted c.requires.few (search rules) (search rules) (search rules) (search rules)

pub returns-clause-ordered : goal.returns-clause-ordered
returns-clause-ordered c = opening_ordered (meaning_of c.args.schema.now) _ c.args.query.now _ _ _ (search rules) (search rules) (search rules)

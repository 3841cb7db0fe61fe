use Rattle.std.proofs.Common.{subst, arith}
use Rattle.std.specs.Prelude.{Contains}
use Rattle.meaning.specs.declared.types.SchemaParts.{SchemaParts}
use Rattle.access_schema.specs.Meaning.{meaning_of}
use Rattle.proof_search.proofs.Parts.{part_searchable, whole_branch, attempt_along}
use Rattle.proof_search.proofs.attempting.attempt_over.Goals as goal

pub attempt_on-requires : goal.attempt_on-requires
attempt_on-requires c =
    let question = c.args.question.now in
    let its = c.requires.question in
    let whole = meaning_of question.schema.now in
    let part = meaning_of c.args.part.now in
    record {
      queries = part_searchable whole part c.args.kept.now c.requires.part question.known.now question.queries.now its.queries;
      few = its.few;
      among = its.among;
      known = λ constant among. its.known constant (subst (λ (s : SchemaParts). Contains s.constants constant) c.requires.part among);
      few_known = its.few_known;
      head = its.head;
      firings = omega (arith, its.firings, c.min-firings.ensures);
    }

pub returns : goal.returns
returns c =
    let question = c.args.question.now in
    attempt_along _ _ (whole_branch (meaning_of question.schema.now) (meaning_of c.args.part.now) c.args.kept.now c.requires.part question.known.now question.queries.now question.query.now)
    c.attempt_on.result c.attempt_on.ensures

use Rattle.std.proofs.Common.{List, subst}
use Rattle.meaning.specs.declared.types.Ground.{Ground}
use Rattle.meaning.specs.declared.types.Query.{Query}
use Rattle.exposure_search.specs.Ahead.{CannotMatch, facts_along}
use Rattle.exposure_search.proofs.visiting.needs_look.Goals as goal

pub returns : goal.returns
returns c e =
    subst (λ (facts : List Ground). CannotMatch c.args.aim.now.queries.now (facts_along facts c.args.path.now)) c.as_slice-2.ensures.value
    (subst (λ (queries : List Query). CannotMatch queries (facts_along c.as_slice-2.result.now c.args.path.now)) c.as_slice.ensures (c.may_match.ensures e))

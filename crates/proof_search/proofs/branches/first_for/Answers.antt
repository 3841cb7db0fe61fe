use Rattle.std.proofs.Common.{◌∙◌, map, ap}
use Rattle.meaning.specs.declared.types.Val.TheVariants.{Const, Label}
use Rattle.meaning.specs.Matching.{value_of}
use Rattle.proof_search.proofs.branches.first_for.Goals as goal

pub outcome_for-requires : goal.outcome_for-requires
outcome_for-requires c = record {
  queries = c.requires.questions.queries;
  few = c.requires.questions.few;
  among = c.requires.among;
  known = c.requires.questions.known;
  few_known = c.requires.questions.few_known;
  head = c.from_vec-head.ensures ∙ c.in_ok-frozen_values.ensures ∙ ap (map (value_of Const Label)) c.as_slice.ensures;
  firings = c.requires.questions.firings;
}

use Rattle.std.proofs.Common.{◌++◌, ◌∙◌}
use Rattle.access_schema.specs.SortFaults.{sorted_terms}
use Rattle.access_schema.proofs.SortsFound.{other_constant}
use Rattle.access_schema.proofs.wrong_sort.has_other_constant.Goals as goal

pub returns : goal.returns
returns c = other_constant (sorted_terms c.args.relations.now (c.args.body.now ++ c.args.head.now)) c.as_slice.result.now c.has_other.result
    (c.as_slice.ensures.value ∙ c.in_ok-constants.ensures) c.has_other.ensures

use Rattle.std.proofs.Common.{◌++◌, ◌∙◌, sym, ap}
use Rattle.std.specs.List.{list_any}
use Rattle.access_schema.specs.Lists.{is_among}
use Rattle.access_schema.specs.SortFaults.{sorted_terms}
use Rattle.access_schema.proofs.SortsFound.{two_sorts}
use Rattle.access_schema.proofs.wrong_sort.has_two_sorts.Goals as goal

pub returns : goal.returns
returns c = two_sorts (sorted_terms c.args.relations.now (c.args.body.now ++ c.args.head.now)) c.as_slice.result.now c.as_slice-2.result.now c.share.result
    (c.as_slice.ensures.value ∙ c.in_ok-integers.ensures) (c.as_slice-2.ensures.value ∙ c.in_ok-texts.ensures) c.share.ensures

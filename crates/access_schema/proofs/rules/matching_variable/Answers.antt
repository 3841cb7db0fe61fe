-- The place is within, so no text stands in for the column.
use Rattle.std.proofs.Common.{◌<◌, ap, ◌∙◌, length, get_or, [], arith}
use Rattle.std.proofs.lemmas.List.{get_or_default}
use Rattle.access_schema.specs.Lists.{place_of}
use Rattle.access_schema.proofs.Numbering.{place_among}
use Rattle.access_schema.proofs.rules.matching_variable.Goals as goal

pub returns-clause-place : goal.returns-clause-place
returns-clause-place c =
    let among = place_among c.args.target_columns.now c.args.column.now c.requires.among in
    let place = c.place_of-place.ensures.place in
    let lists = c.requires.lists in
    let lt : c.place_of-place.result < length c.args.columns.now = omega arith in
    c.place_of.ensures.place ∙ ap (place_of c.args.own.now)
    (c.index-columns-place.is ∙ get_or_default c.args.columns.now c.place_of-place.result c.index-columns-place.result [] lt ∙ ap (λ k. get_or c.args.columns.now k []) place)

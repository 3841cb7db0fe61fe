use Rattle.std.proofs.Common.{◌≡◌, refl, rules}
use Rattle.accessible_copy.specs.Ways.{ways_of, IsWayIndex}
use Rattle.accessible_copy.proofs.WayLists.{ways_indexed}
use Rattle.accessible_copy.proofs.OpenAfter.{kept_from_none}
use Rattle.accessible_copy.proofs.open_facts.OpenFacts.of.Goals as goal

pub all_open-requires : goal.all_open-requires
all_open-requires c =
    let same : c.in_ok-ways.ways.items ≡ ways_of c.args.schema.now.methods = search rules in
    rw same (ways_indexed c.args.schema.now.methods c.in_ok-index.index c.in_ok-index.ensures)

pub returns : goal.returns
returns c =
    let same : c.in_ok-ways.ways.items ≡ ways_of c.args.schema.now.methods = search rules in
    let index : IsWayIndex c.in_ok-ways.ways.items c.in_ok-index.index = rw same (ways_indexed c.args.schema.now.methods c.in_ok-index.index c.in_ok-index.ensures) in
    kept_from_none c.args.facts.now c.args.known.now.constants c.args.known.now.exposed _ c.requires (search rules) refl index c.in_ok-holders.ensures c.in_ok-numbers.ensures

use Rattle.std.proofs.Common.{◌≡◌, [], subst, sym}
use Rattle.std.proofs.lemmas.List.{nil_from_length}
use Rattle.connected_match.specs.Walks.{HavePlaces}
use Rattle.connected_match.proofs.Nexting.{one_next, link_covered, have_places, all_nexts}
use Rattle.connected_match.proofs.walk.nexts.Goals as goal

pub returns-then-is_empty : goal.returns-then-is_empty
returns-then-is_empty c =
    let none : c.args.link.now.kept ≡ [] = nil_from_length c.args.link.now.kept (c.is_empty.ensures.0 c.if-is_empty.true) in
    rw c.in_ok-empty_row_if.ensures (rw c.is_some.ensures
    (one_next c.args.store.now c.args.link.now c.args.row.now c.in_ok-given.given c.in_ok-given.ensures none c.in_ok-found.found c.in_ok-found.ensures.some c.in_ok-found.ensures.none))

pub all_matches-requires-clause-covered : goal.all_matches-requires-clause-covered
all_matches-requires-clause-covered c = link_covered c.args.store.now c.args.link.now c.args.row.now c.in_ok-given.given c.in_ok-given.ensures c.requires

pub kept_rows-requires : goal.kept_rows-requires
kept_rows-requires c =
    let all : HavePlaces c.in_ok-found-2.found c.args.link.now.kept = have_places c.args.store.now c.args.link.now c.args.row.now c.in_ok-given.given c.in_ok-given.ensures c.in_ok-found-2.found c.requires c.in_ok-found-2.ensures in
    subst (λ found. HavePlaces found c.as_slice-else-is_empty.result.now) (sym c.as_slice.ensures) (subst (HavePlaces c.in_ok-found-2.found) (sym c.as_slice-else-is_empty.ensures) all)

pub returns : goal.returns
returns c =
    rw c.in_ok-kept_rows.ensures (rw c.as_slice.ensures (rw c.as_slice-else-is_empty.ensures
    (all_nexts c.args.store.now c.args.link.now c.args.row.now c.in_ok-given.given c.in_ok-given.ensures c.in_ok-found-2.found c.requires c.in_ok-found-2.ensures)))

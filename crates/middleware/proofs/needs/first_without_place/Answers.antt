use Rattle.std.proofs.Common.{◌≡◌, false, true, get_or, rules, arith}
use Rattle.std.proofs.lemmas.Option.{slice_get-get_or}
use Rattle.lists.proofs.Members.{contains_got}
use Rattle.middleware.specs.Sources.{HavePlace}
use Rattle.middleware.specs.Needs.{needed}
use Rattle.middleware.proofs.Needing.{rel_more, rel_all, have_needed, lack_needed}
use Rattle.middleware.proofs.needs.first_without_place.Goals as goal

pub returns-then-not-have_place : goal.returns-then-not-have_place
returns-then-not-have_place g c =
    let test : c.have_place.result ≡ false = search rules in
    let at = slice_get-get_or c.args.first.now c.loop-rel.rel-index 0 (omega arith) in
    record {
      n = c.loop-rel.rel-index;
      at = at;
      lacks = lack_needed c.args.lanes.now c.args.lines.now c.args.first.now c.args.others.now (get_or c.args.first.now c.loop-rel.rel-index 0)
          c.contains.result c.contains.ensures.value (contains_got c.args.first.now c.loop-rel.rel-index _ at) (c.have_place.ensures.lacks test);
      before = c.loop-rel.invariant;
    }

pub loop-rel-preserved : goal.loop-rel-preserved
loop-rel-preserved g c =
    let test : c.have_place.result ≡ true = search rules in
    let at = slice_get-get_or c.args.first.now c.loop-rel.rel-index 0 (omega arith) in
    rel_more (λ other. HavePlace c.args.lanes.now c.args.lines.now other (λ place. needed c.args.first.now c.args.others.now place other))
    c.args.first.now c.loop-rel.rel-index (get_or c.args.first.now c.loop-rel.rel-index 0) at c.loop-rel.invariant
    (have_needed c.args.lanes.now c.args.lines.now c.args.first.now c.args.others.now (get_or c.args.first.now c.loop-rel.rel-index 0)
    c.contains.result c.contains.ensures.value (contains_got c.args.first.now c.loop-rel.rel-index _ at) (c.have_place.ensures.all test))

pub returns : goal.returns
returns g c =
    rel_all (λ other. HavePlace c.args.lanes.now c.args.lines.now other (λ place. needed c.args.first.now c.args.others.now place other))
    c.args.first.now c.loop-rel.rel-index (omega arith) c.loop-rel.invariant

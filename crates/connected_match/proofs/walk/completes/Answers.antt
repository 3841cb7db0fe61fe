use Rattle.std.proofs.Common.{◌≡◌, ◌++◌, ◌∷◌, [], Some, subst, sym, arith}
use Rattle.std.specs.Prelude.{slice_get}
use Rattle.std.proofs.lemmas.List.{nil_from_length}
use Rattle.lists.proofs.Places.{got_indexed}
use Rattle.connected_match.specs.Chains.{AreNexts}
use Rattle.connected_match.specs.Walks.{IsSeen}
use Rattle.connected_match.proofs.Walking.{Walking, walking_none, walking_end, walking_seen, walking_on}
use Rattle.connected_match.proofs.Points.{seen_cases, seen_still, seen_here}
use Rattle.connected_match.proofs.walk.completes.Goals.{then-not-contains+in_ok-rows+in_ok-wait_all+in_ok-insert, else-not-contains}
use Rattle.connected_match.proofs.walk.completes.Goals as goal

pub returns-in_default-clause-no : goal.returns-in_default-clause-no
returns-in_default-clause-no c = λ _.
    let none : c.loop.waiting.items ≡ [] = nil_from_length c.loop.waiting.items (let short = c.in_default.ensures.cases.0 in let e = c.loop.waiting.ok.0 in omega (arith, short, e)) in
    walking_none c.args.store.now c.args.links.now (IsSeen c.loop.seen) (subst (Walking c.args.store.now c.args.links.now (IsSeen c.loop.seen)) none c.loop.invariant)

pub returns-then-point-links-clause-yes : goal.returns-then-point-links-clause-yes
returns-then-point-links-clause-yes c = λ _.
    walking_end c.args.store.now c.args.links.now (IsSeen c.loop.seen) c.pop.new.self.items c.in-Some.point
    (subst (Walking c.args.store.now c.args.links.now (IsSeen c.loop.seen)) c.in-Some.ensures.items c.loop.invariant) c.if-point-links.true

pub loop-preserved : goal.loop-preserved
loop-preserved c =
    let facts = c.args.store.now in
    let links = c.args.links.now in
    let link = c.index-links-point.result in
    let point = c.in-Some.point in
    let r : Walking facts links (IsSeen c.loop.seen) (c.pop.new.self.items ++ point ∷ []) = subst (Walking facts links (IsSeen c.loop.seen)) c.in-Some.ensures.items c.loop.invariant in
    let got : slice_get links point.place ≡ Some link = got_indexed links point.place link c.if-point-links.false c.index-links-point.is in
    elim c.if-not-contains.branch [
      | then-not-contains+in_ok-rows+in_ok-wait_all+in_ok-insert w ↦
          let are : AreNexts facts link point.row w.in_ok-rows.rows.items = rw w.as_slice.ensures at w.in_ok-rows.ensures in
          let put = w.in_ok-insert.ensures.updates.0 in
          rw w.seen-is (rw w.waiting-is (rw w.in_ok-wait_all.ensures
          (walking_on facts links (IsSeen c.loop.seen) (IsSeen w.insert.new.self) c.pop.new.self.items point link w.in_ok-rows.rows.items r got are
          (seen_cases c.loop.seen w.insert.new.self point put) (seen_still c.loop.seen w.insert.new.self point put) (seen_here c.loop.seen w.insert.new.self point put))))
      | else-not-contains w ↦ rw w.seen-is (rw w.waiting-is (walking_seen facts links (IsSeen c.loop.seen) c.pop.new.self.items point r (sym w.if-not-contains.ensures)))
    ]

use Rattle.std.proofs.Common.{List, Bool, sym, subst}
use Rattle.std.specs.Prelude.{slice_set, true}
use Rattle.least_search.specs.declared.space.Move.{Move}
use Rattle.least_search.specs.Walks.{IsWalk, no_facts}
use Rattle.least_search.proofs.Counts.{push_walk}
use Rattle.least_search.proofs.side.Side.add.Goals as goal

pub returns-in_ok-push : goal.returns-in_ok-push
returns-in_ok-push g c =
    let can : g.S.Space.CanMove c.args.space.now c.args.self.now.set.items c.args.step = subst (λ (s : List Bool). g.S.Space.CanMove c.args.space.now s c.args.step) c.deref-2.ensures.value (c.is_open.ensures.0 c.if-is_open.true) in
    subst (λ (path : List Move). IsWalk (g.S.Space.CanMove c.args.space.now) (no_facts (g.S.Space.size c.args.space.now)) path (slice_set c.args.self.now.set.items c.args.step.fact true)) (sym c.in_ok-push.ensures.items)
    (push_walk (g.S.Space.CanMove c.args.space.now) (no_facts (g.S.Space.size c.args.space.now)) c.args.self.now.path.items c.args.self.now.set.items c.args.step c.requires can)

use Rattle.least_search.proofs.Cutting.{cuts_bound}
use Rattle.least_search.proofs.laws.cuts_bound.Goals as goal

pub returns : goal.returns
returns g c =
    cuts_bound (g.S.Space.size c.args.space.now) (g.S.Space.CanMove c.args.space.now) (g.S.Space.HasRun c.args.space.now) (g.met.S.Space.is_space c.args.space.now) (g.S.Space.HasGoal c.args.space.now) c.args.cuts.now c.requires.cuts c.requires.grow

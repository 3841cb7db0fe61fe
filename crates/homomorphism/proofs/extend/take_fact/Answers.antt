use Rattle.std.proofs.Common.{subst, sym, ◌<◌}
use Rattle.homomorphism.proofs.Touching.{free_within}
use Rattle.homomorphism.proofs.extend.take_fact.Goals as goal

pub release-requires : goal.release-requires
release-requires c = λ x h. subst (λ n. x < n) (sym c.in_ok-bind_all.ensures.touched.0) (free_within _ _ _ c.requires.free x h)

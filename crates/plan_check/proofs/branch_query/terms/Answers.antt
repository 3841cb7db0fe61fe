use Rattle.std.proofs.Common.{drop, arith}
use Rattle.meaning_laws.proofs.Frozen.{made_grows}
use Rattle.plan_check.proofs.Branching.{made_one, terms_more}
use Rattle.plan_check.proofs.branch_query.terms.Goals as goal

pub counted-columns-requires : goal.counted-columns-requires
counted-columns-requires c =
    let up = made_grows c.loop-place.columns (drop c.loop-place.place-index c.args.places.now) in
    let same = c.loop-place.invariant.columns in
    omega (arith, c.requires)

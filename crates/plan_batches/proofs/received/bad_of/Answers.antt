use Rattle.std.proofs.Common.{◌++◌, ℕ, List, subst}
use Rattle.std.specs.Prelude.{Contains}
use Rattle.plan_batches.proofs.Listing.{found_of}
use Rattle.plan_batches.proofs.received.bad_of.Goals as goal

pub bad_at-found-requires : goal.bad_at-found-requires
bad_at-found-requires c = λ number among.
    c.requires number (subst (λ (l : List ℕ). Contains l number) c.as_slice.ensures.value among)

pub returns-in-Wants : goal.returns-in-Wants
returns-in-Wants c =
    found_of c.args.schema.now (c.args.kept.now ++ c.args.round.now) c.args.going.now c.in-Wants.pending c.in-Wants.is
    c.as_slice.result.now c.as_slice.ensures.value c.bad_at-found.result c.bad_at-found.ensures c.of.result c.of.ensures

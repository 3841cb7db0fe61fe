use Rattle.std.proofs.Common.{rules}
use Rattle.std.specs.Prelude.{slice_index_or}
use Rattle.std.proofs.lemmas.Option.{slice_get-get_or}
use Rattle.exposure_search.proofs.Steps.{front_more}
use Rattle.exposure_search.proofs.going.common_front.Goals as goal

pub loop-number-preserved : goal.loop-number-preserved
loop-number-preserved c =
    let (within, made) = front_more c.args.facts.now c.args.proof.now.exposed c.args.path.now c.loop-number.number (slice_index_or c.args.path.now c.loop-number.number (record { fact = 0; method = 0; cost = 0 })) c.loop-number.invariant.made (c.is_made.ensures (search rules))
    (slice_get-get_or c.args.path.now c.loop-number.number (record { fact = 0; method = 0; cost = 0 }) (search rules)) in
    record { exposed_has = within; made = made }

use Rattle.std.proofs.Common.{arith}
use Rattle.std.specs.Prelude.{slice_index_or}
use Rattle.std.proofs.lemmas.Option.{slice_get-get_or}
use Rattle.access_schema.specs.Meaning.{meaning_of}
use Rattle.exposure_search.proofs.Logs.{lies_early}
use Rattle.exposure_search.proofs.Steps.{path_active, path_next}
use Rattle.exposure_search.proofs.going.go_along.Goals as goal

pub fact_at-fact-requires : goal.fact_at-fact-requires
fact_at-fact-requires c =
    let (set, walk) = c.requires.walk in
    (path_active (meaning_of c.args.schema.now) c.args.proof.now c.loop-number.proof c.args.facts.now c.args.path.now c.loop-number.number (slice_index_or c.args.path.now c.loop-number.number (record { fact = 0; method = 0; cost = 0 })) c.requires.facts
    (slice_get-get_or c.args.path.now c.loop-number.number (record { fact = 0; method = 0; cost = 0 }) (omega arith)) c.loop-number.invariant.exposes c.loop-number.invariant.same c.loop-number.invariant.made set walk).2

pub expose-requires-clause-active : goal.expose-requires-clause-active
expose-requires-clause-active c =
    let (set, walk) = c.requires.walk in
    let (of, active, low) = path_active (meaning_of c.args.schema.now) c.args.proof.now c.loop-number.proof c.args.facts.now c.args.path.now c.loop-number.number (slice_index_or c.args.path.now c.loop-number.number (record { fact = 0; method = 0; cost = 0 })) c.requires.facts
    (slice_get-get_or c.args.path.now c.loop-number.number (record { fact = 0; method = 0; cost = 0 }) (omega arith)) c.loop-number.invariant.exposes c.loop-number.invariant.same c.loop-number.invariant.made set walk in
    rw c.fact_at-fact.ensures (of, active)

pub expose-requires-clause-part : goal.expose-requires-clause-part
expose-requires-clause-part c = lies_early (meaning_of c.args.schema.now) c.loop-number.proof c.loop-number.invariant.exposes

pub loop-number-preserved : goal.loop-number-preserved
loop-number-preserved c =
    let (exposes, same, made) = path_next (meaning_of c.args.schema.now) c.args.proof.now c.loop-number.proof c.args.facts.now c.args.path.now c.loop-number.number (slice_index_or c.args.path.now c.loop-number.number (record { fact = 0; method = 0; cost = 0 })) c.requires.facts
    (slice_get-get_or c.args.path.now c.loop-number.number (record { fact = 0; method = 0; cost = 0 }) (omega arith)) c.loop-number.invariant.exposes c.loop-number.invariant.same c.loop-number.invariant.made
    c.expose.new.proof c.fact_at-fact.result.now c.fact_at-fact.ensures c.in_ok-expose.ensures.run c.in_ok-expose.ensures.exposed in
    record { exposes = exposes; same = same; made = made }

use Rattle.std.proofs.Common.{◌∷◌, [], sym, subst, Contains}
use Rattle.std.proofs.lemmas.List.{take_all}
use Rattle.lists.proofs.Members.{contains_none}
use Rattle.meaning.specs.Triggers.{bound}
use Rattle.data_verify.specs.Settling.{AreMet, IsLeast}
use Rattle.data_verify.proofs.Remembering.{met_none}
use Rattle.data_verify.proofs.Stepping.{turn_stays, turn_takes}
use Rattle.data_verify.proofs.settling.least.Goals.{in-Some, in_default}
use Rattle.data_verify.proofs.settling.least.Goals as goal

pub loop-one-init : goal.loop-one-init
loop-one-init c = record {
  least = λ one h. absurd (contains_none one h);
  met = met_none c.args.store.now c.args.rule.now (bound (c.args.first.now ∷ [])) c.new-met.result
      c.new-met.ensures.empty;
}

pub lower-requires-clause-remembered : goal.lower-requires-clause-remembered
lower-requires-clause-remembered c =
    let among : Contains c.args.found.now c.one-item.result =
    (c.loop-one.one-index, c.loop-one-test.true, sym c.one-item.is) in
    rw c.as_slice-values.ensures
    (subst (λ n. AreMet c.args.store.now c.args.rule.now n c.loop-one.met)
    (sym (c.requires.width c.one-item.result among)) c.loop-one.invariant.met)

pub loop-one-preserved : goal.loop-one-preserved
loop-one-preserved c =
    let step = rw c.as_slice-values.ensures at c.in_ok-lower.ensures.lower in
    let among : Contains c.args.found.now c.one-item.result =
    (c.loop-one.one-index, c.loop-one-test.true, sym c.one-item.is) in
    record {
      least = elim c.match-lower.branch [
        | in-Some w ↦ rw w.least-is
            (turn_takes c.args.store.now c.args.rule.now c.args.first.now c.args.found.now c.loop-one.one-index
            c.one-item.result
            c.loop-one-test.true c.one-item.is c.loop-one.least c.loop-one.invariant.least c.in_ok-lower.lower
            w.in-Some.settled w.in-Some.is step)
        | in_default w ↦ rw w.least-is
            (turn_stays c.args.store.now c.args.rule.now c.args.first.now c.args.found.now c.loop-one.one-index
            c.one-item.result
            c.loop-one-test.true c.one-item.is c.loop-one.least c.loop-one.invariant.least c.in_ok-lower.lower
            w.in_default.is step)
      ];
      met = subst (λ n. AreMet c.args.store.now c.args.rule.now n c.lower.new.met)
          (c.requires.width c.one-item.result among)
          (rw c.as_slice-values.ensures at c.in_ok-lower.ensures.remembered);
    }

pub returns : goal.returns
returns c = subst (λ done. IsLeast c.args.store.now c.args.rule.now c.args.first.now done c.loop-one.least)
    (take_all c.loop-one.one-index c.args.found.now c.loop-one-test.false) c.loop-one.invariant.least

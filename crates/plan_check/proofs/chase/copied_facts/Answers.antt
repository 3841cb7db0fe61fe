-- Each fact that is lent is the next one; where none is lent, all are there.
use Rattle.std.proofs.Common.{◌∙◌, ap, sym, slice_get, vec_len}
use Rattle.std.specs.Prelude.{option_copied}
use Rattle.no_plan_witness.proofs.Taking.{taken_more, taken_all}
use Rattle.plan_check.proofs.chase.copied_facts.Goals as goal

pub loop-fact-preserved : goal.loop-fact-preserved
loop-fact-preserved c =
    let (first, few) = taken_more c.args.store.now c.loop-fact.facts.items c.push.new.self.items (vec_len c.loop-fact.facts) (vec_len c.push.new.self) c.in-Some.fact.now c.in_ok-copy.field-0
    c.loop-fact.invariant.first (c.in-Some.ensures ∙ ap (slice_get c.args.store.now) c.len.ensures) c.in_ok-copy.ensures c.in_ok-push.ensures.items c.in_ok-push.ensures.len in
    record { first = first; few = few }

pub returns : goal.returns
returns c =
    taken_all c.args.store.now c.loop-fact.facts.items (vec_len c.loop-fact.facts) c.loop-fact.invariant.first
    (sym (ap option_copied c.in_default.is) ∙ c.get.ensures ∙ ap (slice_get c.args.store.now) c.len.ensures)

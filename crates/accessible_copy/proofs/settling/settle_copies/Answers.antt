use Rattle.std.proofs.Common.{◌≡◌, length, sym, ap, subst, rules, arith, true}
use Rattle.meaning.specs.Runs.{copy_state, IsBaseQuiet}
use Rattle.access_schema.specs.Meaning.{meaning_of}
use Rattle.meaning.specs.declared.types.Val.TheVariants.{Const}
use Rattle.meaning.specs.Matching.{MeetsAll, GroundsOf}
use Rattle.meaning.specs.Runs.{base_state}
use Rattle.meaning_laws.proofs.Deciding.{quiet_meets}
use Rattle.rule_pass.specs.States.{Goes}
use Rattle.rule_pass.proofs.Bounds.{orderly}
use Rattle.accessible_copy.specs.Written.{Written, logged}
use Rattle.accessible_copy.specs.Proving.{Proving, IsProofOf, sizes_of}
use Rattle.accessible_copy.specs.contracts.proof.Proof.{the_view}
use Rattle.accessible_copy.proofs.PassEntries.{written_labels, copy_settled}
use Rattle.accessible_copy.proofs.settling.settle_copies.Goals as goal

pub rule_order-requires : goal.rule_order-requires
rule_order-requires c = orderly c.args.schema.now

pub run_in_order-stopped-requires-clause-orderly : goal.run_in_order-stopped-requires-clause-orderly
run_in_order-stopped-requires-clause-orderly c = orderly c.args.schema.now

pub run_in_order-stopped-requires-clause-labels : goal.run_in_order-stopped-requires-clause-labels
run_in_order-stopped-requires-clause-labels c =
    let view = the_view c.proof.inside in
    let is : IsProofOf (meaning_of c.args.schema.now) view = subst (IsProofOf (meaning_of c.args.schema.now)) (sym c.proof.view_is) c.requires.run in
    let far = written_labels (meaning_of c.args.schema.now) view.constants 0 view.start view.entries view.end (orderly c.args.schema.now) is.written in
    let low = is.low in
    let even = c.proof.invariant.0 in
    let same : length c.begin.new.self.entries ≡ length c.proof.inside.history.entries = ap (λ (w : Written). length w.entries) c.begin.ensures in
    omega arith

pub raise-requires : goal.raise-requires
raise-requires c =
    let view = the_view c.proof.inside in
    let is : IsProofOf (meaning_of c.args.schema.now) view = subst (IsProofOf (meaning_of c.args.schema.now)) (sym c.proof.view_is) c.requires.run in
    let meets : MeetsAll Const (GroundsOf c.proof.inside.base.facts) c.args.schema.now.rules = quiet_meets c.args.schema.now.rules (base_state view.end) is.numbered (subst (λ (p : Proving). IsBaseQuiet (meaning_of c.args.schema.now) p.end) (sym c.proof.view_is) c.requires.quiet) in
    let sizes : c.sizes-held.result ≡ sizes_of view.constants view.end = search rules in
    let goes : Goes logged c.args.schema.now.rules (copy_state view.end) (record { entries = c.proof.inside.history.entries; copies = true; held = c.sizes-held.result }) c.run_in_order-stopped.new.state c.run_in_order-stopped.new.log
    = subst (λ (w : Written). Goes logged c.args.schema.now.rules (copy_state view.end) w c.run_in_order-stopped.new.state c.run_in_order-stopped.new.log) c.begin.ensures (subst (λ n. Goes logged c.args.schema.now.rules (record { facts = c.proof.inside.copy.facts; next = n }) c.begin.new.self c.run_in_order-stopped.new.state c.run_in_order-stopped.new.log) c.proof.invariant.0 c.run_in_order-stopped.ensures.run) in
    let s = copy_settled (meaning_of c.args.schema.now) view c.sizes-held.result c.run_in_order-stopped.new.log c.run_in_order-stopped.new.state is meets sizes goes in
    let later = s.later in
    let next = c.next-next.ensures.next in
    let even = c.proof.invariant.0 in
    record { later = omega arith }

pub returns-clause-run : goal.returns-clause-run
returns-clause-run c =
    let view = the_view c.proof.inside in
    let is : IsProofOf (meaning_of c.args.schema.now) view = subst (IsProofOf (meaning_of c.args.schema.now)) (sym c.proof.view_is) c.requires.run in
    let meets : MeetsAll Const (GroundsOf c.proof.inside.base.facts) c.args.schema.now.rules = quiet_meets c.args.schema.now.rules (base_state view.end) is.numbered (subst (λ (p : Proving). IsBaseQuiet (meaning_of c.args.schema.now) p.end) (sym c.proof.view_is) c.requires.quiet) in
    let sizes : c.sizes-held.result ≡ sizes_of view.constants view.end = search rules in
    let goes : Goes logged c.args.schema.now.rules (copy_state view.end) (record { entries = c.proof.inside.history.entries; copies = true; held = c.sizes-held.result }) c.run_in_order-stopped.new.state c.run_in_order-stopped.new.log
    = subst (λ (w : Written). Goes logged c.args.schema.now.rules (copy_state view.end) w c.run_in_order-stopped.new.state c.run_in_order-stopped.new.log) c.begin.ensures (subst (λ n. Goes logged c.args.schema.now.rules (record { facts = c.proof.inside.copy.facts; next = n }) c.begin.new.self c.run_in_order-stopped.new.state c.run_in_order-stopped.new.log) c.proof.invariant.0 c.run_in_order-stopped.ensures.run) in
    let s = copy_settled (meaning_of c.args.schema.now) view c.sizes-held.result c.run_in_order-stopped.new.log c.run_in_order-stopped.new.state is meets sizes goes in
    rw (c.raise.ensures, c.next-next.ensures.next) s.is

pub returns-clause-more : goal.returns-clause-more
returns-clause-more c =
    let view = the_view c.proof.inside in
    let is : IsProofOf (meaning_of c.args.schema.now) view = subst (IsProofOf (meaning_of c.args.schema.now)) (sym c.proof.view_is) c.requires.run in
    let meets : MeetsAll Const (GroundsOf c.proof.inside.base.facts) c.args.schema.now.rules = quiet_meets c.args.schema.now.rules (base_state view.end) is.numbered (subst (λ (p : Proving). IsBaseQuiet (meaning_of c.args.schema.now) p.end) (sym c.proof.view_is) c.requires.quiet) in
    let sizes : c.sizes-held.result ≡ sizes_of view.constants view.end = search rules in
    let goes : Goes logged c.args.schema.now.rules (copy_state view.end) (record { entries = c.proof.inside.history.entries; copies = true; held = c.sizes-held.result }) c.run_in_order-stopped.new.state c.run_in_order-stopped.new.log
    = subst (λ (w : Written). Goes logged c.args.schema.now.rules (copy_state view.end) w c.run_in_order-stopped.new.state c.run_in_order-stopped.new.log) c.begin.ensures (subst (λ n. Goes logged c.args.schema.now.rules (record { facts = c.proof.inside.copy.facts; next = n }) c.begin.new.self c.run_in_order-stopped.new.state c.run_in_order-stopped.new.log) c.proof.invariant.0 c.run_in_order-stopped.ensures.run) in
    let s = copy_settled (meaning_of c.args.schema.now) view c.sizes-held.result c.run_in_order-stopped.new.log c.run_in_order-stopped.new.state is meets sizes goes in
    rw (← c.proof.view_is, c.raise.ensures, c.next-next.ensures.next) s.settles

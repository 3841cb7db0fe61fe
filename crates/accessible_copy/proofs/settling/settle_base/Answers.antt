use Rattle.std.proofs.Common.{◌≡◌, length, sym, ap, subst, rules, arith, false}
use Rattle.access_schema.specs.Meaning.{meaning_of}
use Rattle.rule_pass.specs.States.{Goes}
use Rattle.rule_pass.proofs.Bounds.{orderly}
use Rattle.accessible_copy.specs.Written.{Written, logged}
use Rattle.accessible_copy.specs.Proving.{IsProofOf, sizes_of}
use Rattle.accessible_copy.specs.contracts.proof.Proof.{the_view}
use Rattle.accessible_copy.proofs.BaseStaysMet.{active_first}
use Rattle.accessible_copy.proofs.PassEntries.{written_labels, base_settled}
use Rattle.accessible_copy.proofs.settling.settle_base.Goals as goal

pub rule_order-requires : goal.rule_order-requires
rule_order-requires c = orderly c.args.schema.now

pub run_in_order-stopped-requires-clause-orderly : goal.run_in_order-stopped-requires-clause-orderly
run_in_order-stopped-requires-clause-orderly c = orderly c.args.schema.now

pub run_in_order-stopped-requires-clause-labels : goal.run_in_order-stopped-requires-clause-labels
run_in_order-stopped-requires-clause-labels c =
    let view = the_view c.proof.inside in
    let is : IsProofOf (meaning_of c.args.schema.now) view = subst (IsProofOf (meaning_of c.args.schema.now)) (sym c.proof.view_is) c.requires.run in
    let far = written_labels (meaning_of c.args.schema.now) view.constants 0 view.start view.entries view.end (orderly c.args.schema.now) is.written in
    let low = is.low in
    let same : length c.begin.new.self.entries ≡ length c.proof.inside.history.entries = ap (λ (w : Written). length w.entries) c.begin.ensures in
    omega arith

pub raise-requires : goal.raise-requires
raise-requires c =
    let view = the_view c.proof.inside in
    let is : IsProofOf (meaning_of c.args.schema.now) view = subst (IsProofOf (meaning_of c.args.schema.now)) (sym c.proof.view_is) c.requires.run in
    let part = active_first (meaning_of c.args.schema.now) view is in
    let sizes : c.sizes-held.result ≡ sizes_of view.constants view.end = search rules in
    let goes : Goes logged c.args.schema.now.rules c.proof.inside.base (record { entries = c.proof.inside.history.entries; copies = false; held = c.sizes-held.result }) c.run_in_order-stopped.new.state c.run_in_order-stopped.new.log
    = subst (λ (w : Written). Goes logged c.args.schema.now.rules c.proof.inside.base w c.run_in_order-stopped.new.state c.run_in_order-stopped.new.log) c.begin.ensures c.run_in_order-stopped.ensures.run in
    let s = base_settled (meaning_of c.args.schema.now) view c.sizes-held.result c.run_in_order-stopped.new.log c.run_in_order-stopped.new.state is part sizes goes in
    let later = s.later in
    let next = c.next-next.ensures.next in
    let even = c.proof.invariant.0 in
    record { later = omega arith }

pub returns-clause-run : goal.returns-clause-run
returns-clause-run c =
    let view = the_view c.proof.inside in
    let is : IsProofOf (meaning_of c.args.schema.now) view = subst (IsProofOf (meaning_of c.args.schema.now)) (sym c.proof.view_is) c.requires.run in
    let part = active_first (meaning_of c.args.schema.now) view is in
    let sizes : c.sizes-held.result ≡ sizes_of view.constants view.end = search rules in
    let goes : Goes logged c.args.schema.now.rules c.proof.inside.base (record { entries = c.proof.inside.history.entries; copies = false; held = c.sizes-held.result }) c.run_in_order-stopped.new.state c.run_in_order-stopped.new.log
    = subst (λ (w : Written). Goes logged c.args.schema.now.rules c.proof.inside.base w c.run_in_order-stopped.new.state c.run_in_order-stopped.new.log) c.begin.ensures c.run_in_order-stopped.ensures.run in
    let s = base_settled (meaning_of c.args.schema.now) view c.sizes-held.result c.run_in_order-stopped.new.log c.run_in_order-stopped.new.state is part sizes goes in
    rw c.raise.ensures s.is

pub returns-clause-more : goal.returns-clause-more
returns-clause-more c =
    let view = the_view c.proof.inside in
    let is : IsProofOf (meaning_of c.args.schema.now) view = subst (IsProofOf (meaning_of c.args.schema.now)) (sym c.proof.view_is) c.requires.run in
    let part = active_first (meaning_of c.args.schema.now) view is in
    let sizes : c.sizes-held.result ≡ sizes_of view.constants view.end = search rules in
    let goes : Goes logged c.args.schema.now.rules c.proof.inside.base (record { entries = c.proof.inside.history.entries; copies = false; held = c.sizes-held.result }) c.run_in_order-stopped.new.state c.run_in_order-stopped.new.log
    = subst (λ (w : Written). Goes logged c.args.schema.now.rules c.proof.inside.base w c.run_in_order-stopped.new.state c.run_in_order-stopped.new.log) c.begin.ensures c.run_in_order-stopped.ensures.run in
    let s = base_settled (meaning_of c.args.schema.now) view c.sizes-held.result c.run_in_order-stopped.new.log c.run_in_order-stopped.new.state is part sizes goes in
    rw (← c.proof.view_is, c.raise.ensures) s.settles

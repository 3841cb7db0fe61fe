use Rattle.std.proofs.Common.{◌≡◌, ◌≤◌, length, take, sym, ap, ◌∙◌, subst, rules}
use Rattle.std.specs.Prelude.{Some, None, IfSome, slice_get}
use Rattle.std.proofs.lemmas.List.{take_all}
use Rattle.std.proofs.lemmas.Option.{IfSome_then}
use Rattle.lists.proofs.Places.{got_none}
use Rattle.meaning.specs.Triggers.{State}
use Rattle.accessible_copy.specs.OpenFacts.{AreOpenFacts}
use Rattle.accessible_copy.specs.Proving.{Proving, IsProofOf, IsOrdered}
use Rattle.accessible_copy.specs.contracts.proof.Proof.{the_view}
use Rattle.accessible_copy.proofs.Undoing.{undoes, cut_ordered}
use Rattle.accessible_copy.proofs.OpenAfter.{kept_staying}
use Rattle.accessible_copy.proofs.marks.undo.Goals as goal

pub cut_back-requires : goal.cut_back-requires
cut_back-requires c =
    let (schema, of) = c.requires.run in
    let got : slice_get c.proof.inside.history.entries c.args.mark.firings ≡ Some c.in-Some.entry.now = search rules in
    let u = undoes schema (the_view c.proof.inside) c.args.mark.firings c.in-Some.entry.now (subst (IsProofOf schema) (sym c.proof.view_is) of) got in
    record { labels = u.base }

pub cut_back-requires-in-Some : goal.cut_back-requires-in-Some
cut_back-requires-in-Some c =
    let (schema, of) = c.requires.run in
    let got : slice_get c.proof.inside.history.entries c.args.mark.firings ≡ Some c.in-Some.entry.now = search rules in
    let u = undoes schema (the_view c.proof.inside) c.args.mark.firings c.in-Some.entry.now (subst (IsProofOf schema) (sym c.proof.view_is) of) got in
    record { labels = u.copy }

pub truncate-requires : goal.truncate-requires
truncate-requires c =
    let (schema, of) = c.requires.run in
    let got : slice_get c.proof.inside.history.entries c.args.mark.firings ≡ Some c.in-Some.entry.now = search rules in
    let u = undoes schema (the_view c.proof.inside) c.args.mark.firings c.in-Some.entry.now (subst (IsProofOf schema) (sym c.proof.view_is) of) got in
    u.known

pub returns-in-Some-clause-run : goal.returns-in-Some-clause-run
returns-in-Some-clause-run c = λ schema of.
    let got : slice_get c.proof.inside.history.entries c.args.mark.firings ≡ Some c.in-Some.entry.now = search rules in
    let u = undoes schema (the_view c.proof.inside) c.args.mark.firings c.in-Some.entry.now (subst (IsProofOf schema) (sym c.proof.view_is) of) got in
    rw (c.cut_back.ensures, c.cut_back-in-Some.ensures, c.truncate.ensures, c.truncate-in-Some.ensures) u.is

pub returns-in-Some-clause-ordered : goal.returns-in-Some-clause-ordered
returns-in-Some-clause-ordered c = λ schema of ordered.
    let view = the_view c.proof.inside in
    let got : slice_get c.proof.inside.history.entries c.args.mark.firings ≡ Some c.in-Some.entry.now = search rules in
    let u = undoes schema view c.args.mark.firings c.in-Some.entry.now (subst (IsProofOf schema) (sym c.proof.view_is) of) got in
    rw (c.cut_back.ensures, c.cut_back-in-Some.ensures, c.truncate.ensures, c.truncate-in-Some.ensures)
    (cut_ordered schema view c.args.mark.firings (c.in-Some.entry.now).before u.is (subst (IsOrdered schema) (sym c.proof.view_is) ordered))

pub returns-in_default-clause-log : goal.returns-in_default-clause-log
returns-in_default-clause-log c =
    let none : slice_get c.proof.inside.history.entries c.args.mark.firings ≡ None = search rules in
    let beyond : length c.args.proof.now.entries ≤ c.args.mark.firings = subst (λ (p : Proving). length p.entries ≤ c.args.mark.firings) c.proof.view_is (got_none c.proof.inside.history.entries c.args.mark.firings none) in
    sym (take_all c.args.mark.firings c.args.proof.now.entries beyond)

pub invariant_of-proof : goal.invariant_of-proof
invariant_of-proof c =
    let inside = c.proof.inside in
    let before = (c.in-Some.entry.now).before in
    let kept : IfSome c.take.result (λ one. AreOpenFacts inside.base.facts inside.known.constants inside.known.exposed one.value) = rw c.take.ensures.value c.proof.invariant.1 in
    let cut : IfSome c.cut_open-kept.result (λ one. AreOpenFacts inside.base.facts inside.known.constants (take before.exposed inside.known.exposed) one.value)
    = IfSome_then c.cut_open-kept.result c.cut_open-kept.ensures.cut (λ one from. from inside.base.facts inside.known.constants inside.known.exposed kept) in
    let even : c.cut_back-in-Some.new.self.next ≡ c.cut_back.new.self.next = search rules in
    (even, rw (c.put.ensures, c.truncate.ensures) (kept_staying c.cut_open-kept.result _ inside.base.facts c.cut_back.new.self.facts inside.known.constants (take before.exposed inside.known.exposed) c.cut_open-kept.ensures.stays (λ so. let long : length inside.base.facts ≤ before.base = search rules in ap (λ (s : State). s.facts) c.cut_back.ensures ∙ take_all before.base inside.base.facts long) cut))

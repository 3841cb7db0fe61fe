use Rattle.std.proofs.Common.{◌≡◌, length, refl, ap, subst, arith}
use Rattle.std.specs.Prelude.{Ok}
use Rattle.meaning.specs.Triggers.{IsQuiet}
use Rattle.access_schema.specs.Meaning.{meaning_of}
use Rattle.accessible_copy.specs.Proving.{Proving, IsOrdered}
use Rattle.accessible_copy.specs.Settling.{kind_state}
use Rattle.accessible_copy.proofs.Rounding.{not_spent, settled_ordered, settled_goes}
use Rattle.accessible_copy.proofs.Begun.{settled_still, settled_grew, settled_spent}
use Rattle.accessible_copy.proofs.rounds.settle_part.Goals as goal

pub returns-in_err-ended-clause-ordered : goal.returns-in_err-ended-clause-ordered
returns-in_err-ended-clause-ordered c = settled_ordered (meaning_of c.args.schema.now) c.args.copies c.args.proof.now c.settle.new.proof c.settle.ensures.more c.requires.ordered c.requires.bare

pub returns-in-Spent-clause-ordered : goal.returns-in-Spent-clause-ordered
returns-in-Spent-clause-ordered c = settled_ordered (meaning_of c.args.schema.now) c.args.copies c.args.proof.now c.settle.new.proof c.settle.ensures.more c.requires.ordered c.requires.bare

pub returns-in-Spent-clause-some : goal.returns-in-Spent-clause-some
returns-in-Spent-clause-some c =
    let (long, some) = (rw c.in-Spent.is at c.in_ok-ended.ensures.spent) refl in
    settled_spent (meaning_of c.args.schema.now) c.args.copies c.args.proof.now c.settle.new.proof c.requires.run c.settle.ensures.run c.settle.ensures.more some

pub returns-in-Spent-clause-spent : goal.returns-in-Spent-clause-spent
returns-in-Spent-clause-spent c = λ e.
    let ordered : IsOrdered (meaning_of c.args.schema.now) c.settle.new.proof = settled_ordered (meaning_of c.args.schema.now) c.args.copies c.args.proof.now c.settle.new.proof c.settle.ensures.more c.requires.ordered c.requires.bare in
    let (long, some) = (rw c.in-Spent.is at c.in_ok-ended.ensures.spent) refl in
    (long, settled_goes (meaning_of c.args.schema.now) c.args.proof.now c.settle.new.proof c.requires.run c.settle.ensures.run c.args.copies c.settle.ensures.more ordered c.requires.quiet c.requires.bare some)

pub returns-then-firings-before-clause-ordered : goal.returns-then-firings-before-clause-ordered
returns-then-firings-before-clause-ordered c = settled_ordered (meaning_of c.args.schema.now) c.args.copies c.args.proof.now c.settle.new.proof c.settle.ensures.more c.requires.ordered c.requires.bare

pub returns-then-firings-before-clause-none : goal.returns-then-firings-before-clause-none
returns-then-firings-before-clause-none c = λ e.
    let after : length c.proof-2.inside.history.entries ≡ length c.settle.new.proof.entries = ap (λ (p : Proving). length p.entries) c.proof-2.view_is in
    let before : length c.proof.inside.history.entries ≡ length c.args.proof.now.entries = ap (λ (p : Proving). length p.entries) c.proof.view_is in
    let even : length c.settle.new.proof.entries ≡ length c.args.proof.now.entries = let t = c.if-firings-before.true in let n = c.firings.ensures in let m = c.firings-before.ensures in omega arith in
    let same : c.settle.new.proof ≡ c.args.proof.now = settled_still (meaning_of c.args.schema.now) c.args.copies c.args.proof.now c.settle.new.proof c.requires.run c.settle.ensures.run c.settle.ensures.more even in
    let quiet : IsQuiet c.args.schema.now.rules (kind_state c.args.copies c.settle.new.proof.end) = not_spent c.in_ok-ended.ended c.in_default.not-Spent (λ q. c.in_ok-ended.ensures.quiet (ap (λ r. Ok r) q)) (λ d. c.in_ok-ended.ensures.going (ap (λ r. Ok r) d)) in
    (same, subst (λ (p : Proving). IsQuiet c.args.schema.now.rules (kind_state c.args.copies p.end)) same quiet)

pub end_part-requires : goal.end_part-requires
end_part-requires c = record {
  run = c.settle.ensures.run;
  ordered = settled_ordered (meaning_of c.args.schema.now) c.args.copies c.args.proof.now c.settle.new.proof c.settle.ensures.more c.requires.ordered c.requires.bare;
}

pub returns-in_err-end_part-clause-ordered : goal.returns-in_err-end_part-clause-ordered
returns-in_err-end_part-clause-ordered c = settled_ordered (meaning_of c.args.schema.now) c.args.copies c.args.proof.now c.settle.new.proof c.settle.ensures.more c.requires.ordered c.requires.bare

pub returns-clause-ordered : goal.returns-clause-ordered
returns-clause-ordered c = settled_ordered (meaning_of c.args.schema.now) c.args.copies c.args.proof.now c.settle.new.proof c.settle.ensures.more c.requires.ordered c.requires.bare

pub returns-clause-done : goal.returns-clause-done
returns-clause-done c = λ e. not_spent c.in_ok-ended.ended c.in_default.not-Spent (λ q. c.in_ok-ended.ensures.quiet (ap (λ r. Ok r) q)) (λ d. c.in_ok-ended.ensures.going (ap (λ r. Ok r) d))

pub returns-clause-some : goal.returns-clause-some
returns-clause-some c =
    let after : length c.proof-2.inside.history.entries ≡ length c.settle.new.proof.entries = ap (λ (p : Proving). length p.entries) c.proof-2.view_is in
    let before : length c.proof.inside.history.entries ≡ length c.args.proof.now.entries = ap (λ (p : Proving). length p.entries) c.proof.view_is in
    settled_grew (meaning_of c.args.schema.now) c.args.copies c.args.proof.now c.settle.new.proof c.requires.run c.settle.ensures.run c.settle.ensures.more
    (λ even. let t = c.if-firings-before.false in let n = c.firings.ensures in let m = c.firings-before.ensures in absurd (omega arith))

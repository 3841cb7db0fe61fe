use Rattle.std.proofs.Common.{sym, ap, ◌∙◌}
use Rattle.std.specs.BTreeMap.{get}
use Rattle.std.proofs.lemmas.Result.{on_ok_weaker, on_err_weaker}
use Rattle.homomorphism.specs.Listed.{key_cmp, coded_list}
use Rattle.homomorphism.proofs.Coded.{noted_other, noted_coded, noted_taken, listed_same, coded_all}
use Rattle.homomorphism.proofs.Refused.{on_err}
use Rattle.homomorphism.proofs.coded_lists.CodedLists.note.Goals as goal

pub returns-then-contains_key-clause-here : goal.returns-then-contains_key-clause-here
returns-then-contains_key-clause-here c = on_ok_weaker c.note_other.result (λ h. noted_other c.args.key c.args.number c.args.self.now c.note_other.new.self (sym c.contains_key.ensures ∙ c.if-contains_key.true) h) c.note_other.ensures.here

pub returns-then-contains_key-clause-others : goal.returns-then-contains_key-clause-others
returns-then-contains_key-clause-others c = on_ok_weaker c.note_other.result (λ h other differ. listed_same c.args.self.now c.note_other.new.self other (h other differ) (ap (λ m. coded_list m other) c.note_other.ensures.coded)) c.note_other.ensures.apart

pub returns-then-contains_key-clause-refused : goal.returns-then-contains_key-clause-refused
returns-then-contains_key-clause-refused c = on_err_weaker c.note_other.result (λ h other. listed_same c.args.self.now c.note_other.new.self other (h other) (ap (λ m. coded_list m other) c.note_other.ensures.coded)) c.note_other.ensures.refused

pub returns-in_err-back-clause-refused : goal.returns-in_err-back-clause-refused
returns-in_err-back-clause-refused c = on_err c.from_residual.result _ (λ other. listed_same c.args.self.now c.note_coded.new.self other (ap (λ m. get key_cmp m other) c.note_coded.ensures.others)
    (coded_all c.args.key c.args.self.now.coded c.note_coded.new.self.coded c.in_err-back.ensures.refused c.note_coded.ensures.apart other))

pub returns-in-None-clause-here : goal.returns-in-None-clause-here
returns-in-None-clause-here c = noted_coded c.args.key c.args.number c.args.self.now c.note_coded.new.self (sym c.contains_key.ensures ∙ c.if-contains_key.false) c.note_coded.ensures.others (rw c.in-None.is at c.in_ok-back.ensures.noted)

pub returns-in-None-clause-others : goal.returns-in-None-clause-others
returns-in-None-clause-others c = λ other differ. listed_same c.args.self.now c.note_coded.new.self other (ap (λ m. get key_cmp m other) c.note_coded.ensures.others) (c.note_coded.ensures.apart other differ)

pub returns-in-Some-clause-here : goal.returns-in-Some-clause-here
returns-in-Some-clause-here c =
    let taken = rw c.in-Some.is at c.in_ok-back.ensures.taken in
    on_ok_weaker c.note_other-in-Some.result (λ h. noted_taken c.args.key c.args.number c.args.self.now c.note_other-in-Some.new.self c.note_coded.new.self c.in-Some.key taken.0 (sym c.contains_key.ensures ∙ c.if-contains_key.false) c.note_coded.ensures.others taken.1 h) c.note_other-in-Some.ensures.here

pub returns-in-Some-clause-others : goal.returns-in-Some-clause-others
returns-in-Some-clause-others c =
    let taken = rw c.in-Some.is at c.in_ok-back.ensures.taken in
    on_ok_weaker c.note_other-in-Some.result (λ h other differ. listed_same c.args.self.now c.note_other-in-Some.new.self other (h other (λ e. differ (e ∙ taken.0)) ∙ ap (λ m. get key_cmp m other) c.note_coded.ensures.others)
    (ap (λ m. coded_list m other) c.note_other-in-Some.ensures.coded ∙ c.note_coded.ensures.apart other differ)) c.note_other-in-Some.ensures.apart

pub returns-in-Some-clause-refused : goal.returns-in-Some-clause-refused
returns-in-Some-clause-refused c =
    let taken = rw c.in-Some.is at c.in_ok-back.ensures.taken in
    on_err_weaker c.note_other-in-Some.result (λ h other. listed_same c.args.self.now c.note_other-in-Some.new.self other (h other ∙ ap (λ m. get key_cmp m other) c.note_coded.ensures.others)
    (ap (λ m. coded_list m other) c.note_other-in-Some.ensures.coded ∙ coded_all c.args.key c.args.self.now.coded c.note_coded.new.self.coded (taken.2 ∙ sym taken.1) c.note_coded.ensures.apart other)) c.note_other-in-Some.ensures.refused

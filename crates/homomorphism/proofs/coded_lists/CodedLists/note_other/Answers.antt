use Rattle.std.proofs.Common.{ap, sym, ◌∙◌, rules, Some}
use Rattle.std.specs.Map.{lookup}
use Rattle.std.specs.BTreeMap.{get, is_at}
use Rattle.std.proofs.lemmas.Map.Steps.{set_value_same}
use Rattle.homomorphism.specs.Listed.{key_cmp}
use Rattle.homomorphism.proofs.Exact.{key_apart}
use Rattle.homomorphism.proofs.Refused.{on_err}
use Rattle.homomorphism.proofs.coded_lists.CodedLists.note_other.Goals as goal

pub returns-in_err-push-in-Some-clause-refused : goal.returns-in_err-push-in-Some-clause-refused
returns-in_err-push-in-Some-clause-refused c =
    let same = (c.get_mut.follows.holds c.push.new.self).0 ∙ set_value_same (is_at (key_cmp c.args.key)) c.args.self.now.others.entries c.push.new.self (sym c.in-Some.ensures.value ∙ ap Some (sym c.in_err-push-in-Some.ensures.err)) in
    on_err c.from_residual.result _ (λ other. ap (λ es. lookup (is_at (key_cmp other)) es) same)

pub returns-in_ok-push-in-Some-clause-apart : goal.returns-in_ok-push-in-Some-clause-apart
returns-in_ok-push-in-Some-clause-apart c = λ other differ. ((c.get_mut.follows.holds c.push.new.self).3 (search rules)).2 other (key_apart c.args.key other differ)

pub returns-in_ok-insert-in-None-clause-apart : goal.returns-in_ok-insert-in-None-clause-apart
returns-in_ok-insert-in-None-clause-apart c = λ other differ. c.in_ok-insert-in-None.ensures.updates.2 other (key_apart c.args.key other differ) ∙ ap (λ m. get key_cmp m other) c.get_mut.follows.holds-at-none

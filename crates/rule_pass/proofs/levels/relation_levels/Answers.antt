use Rattle.std.proofs.Common.{◌≡◌, ◌∙◌, ℕ, length, ap, subst, sym}
use Rattle.std.proofs.lemmas.List.{length-replicate}
use Rattle.std.specs.Prelude.{slice_index}
use Rattle.meaning.specs.RuleOrder.{IsLevel}
use Rattle.rule_pass.specs.Levels.{RulesAreBelow}
use Rattle.rule_pass.proofs.Tables.{reached_none, written}
use Rattle.rule_pass.proofs.levels.relation_levels.Goals as goal

pub raise_until_still-requires-clause-reached : goal.raise_until_still-requires-clause-reached
raise_until_still-requires-clause-reached c = rw c.deref_mut.ensures.value (rw c.in_ok-levels.ensures (reached_none c.args.rules.now c.rules_width.result))

pub raise_until_still-requires-clause-below : goal.raise_until_still-requires-clause-below
raise_until_still-requires-clause-below c =
    let long : length c.deref_mut.result.now ≡ c.rules_width.result = ap length c.deref_mut.ensures.value ∙ ap length c.in_ok-levels.ensures ∙ length-replicate c.rules_width.result 0 in
    subst (λ n. RulesAreBelow n c.args.rules.now) (sym long) c.rules_width.ensures

pub returns-clause-below : goal.returns-clause-below
returns-clause-below c =
    let long : length c.deref_mut.result.now ≡ c.rules_width.result = ap length c.deref_mut.ensures.value ∙ ap length c.in_ok-levels.ensures ∙ length-replicate c.rules_width.result 0 in
    let whole = written c.in_ok-levels.levels.len c.raise_until_still.new.levels c.in_ok-levels.levels.items (c.raise_until_still.auto.levels ∙ ap length c.deref_mut.ensures.value) (sym c.in_ok-levels.levels.ok.0) in
    subst (λ levels. RulesAreBelow (length levels) c.args.rules.now) (sym whole) (subst (λ n. RulesAreBelow n c.args.rules.now) (sym (c.raise_until_still.auto.levels ∙ long)) c.rules_width.ensures)

pub returns-clause-levels : goal.returns-clause-levels
returns-clause-levels c =
    let whole = written c.in_ok-levels.levels.len c.raise_until_still.new.levels c.in_ok-levels.levels.items (c.raise_until_still.auto.levels ∙ ap length c.deref_mut.ensures.value) (sym c.in_ok-levels.levels.ok.0) in
    subst (λ levels. (rel : ℕ) → IsLevel c.args.rules.now rel (slice_index levels rel)) (sym whole) c.raise_until_still.ensures

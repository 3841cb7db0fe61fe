use Rattle.std.proofs.Common.{◌≡◌, ◌∙◌, map, sym, subst}
use Rattle.std.specs.Cmp.Lexicographic.{same_text, other_text}
use Rattle.std.proofs.lemmas.List.{take_all}
use Rattle.lists.proofs.Booleans.{denied_false, not_true, test_holds, test_fails}
use Rattle.data_verify.specs.Keys.{reading}
use Rattle.data_verify.proofs.Held.{same_more, same_there}
use Rattle.data_verify.proofs.row_key.same_key.Goals as goal

pub loop-variable-preserved : goal.loop-variable-preserved
loop-variable-preserved c = same_more (reading c.args.terms.now c.args.row.now) (reading c.args.other_terms.now c.args.other.now) c.args.variables.now c.loop-variable.variable-index c.loop-variable-test.true c.loop-variable.invariant
    (sym c.reading.ensures ∙ same_text _ _ (denied_false _ c.if-ne.ensures) ∙ c.reading-in-loop-variable.ensures)

pub returns-then-ne : goal.returns-then-ne
returns-then-ne c = test_fails (λ e. other_text _ _ (sym (not_true _ (sym c.if-ne.ensures)))
    (c.reading.ensures ∙ same_there (reading c.args.terms.now c.args.row.now) (reading c.args.other_terms.now c.args.other.now) c.args.variables.now c.loop-variable.variable-index c.loop-variable-test.true e ∙ sym c.reading-in-loop-variable.ensures))

pub returns : goal.returns
returns c = test_holds (subst (λ z. map (reading c.args.terms.now c.args.row.now) z ≡ map (reading c.args.other_terms.now c.args.other.now) z) (take_all c.loop-variable.variable-index c.args.variables.now c.loop-variable-test.false) c.loop-variable.invariant)

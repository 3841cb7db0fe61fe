use Rattle.std.proofs.Common.{◌≡◌}
use Rattle.meaning.specs.declared.types.Term.TheVariants.{Var}
use Rattle.homomorphism.proofs.Covering.{told, denied}
use Rattle.data_verify.specs.Inclusion.{StandsAt}
use Rattle.data_verify.proofs.Terms.{rest_of, stands_rest}
use Rattle.data_verify.proofs.fitting.stands_at.Goals.{else-is_variable-via-then-is_variable+else-not-same, else-is_variable-via-else-is_variable}
use Rattle.data_verify.proofs.fitting.stands_at.Goals as goal

pub loop-left-preserved : goal.loop-left-preserved
loop-left-preserved c =
    let first : c.term-item.result ≡ Var c.args.variable → c.other-item.result ≡ c.args.value.now = elim c.else-is_variable.branch [
      | else-is_variable-via-then-is_variable+else-not-same w ↦ λ e. told _ w.same.ensures w.if-not-same.false
      | else-is_variable-via-else-is_variable w ↦ λ e. absurd (denied _ c.is_variable.ensures w.if-is_variable.false e)
    ] in
    rest_of c.loop-left.left.now c.loop-left.values.now c.term-item.result c.other-item.result c.in-len1-up.len_at_least c.term-item.is c.in-len1-up-values.len_at_least c.other-item.is (StandsAt c.args.variable c.args.value.now) _ c.loop-left.invariant (stands_rest c.args.variable c.args.value.now _ _ _ _ first)

use Rattle.std.proofs.Common.{◌≡◌, ◌+◌, ℕ, List, take, sym, subst}
use Rattle.std.proofs.lemmas.List.{take_all}
use Rattle.meaning.specs.declared.types.Term.{Term}
use Rattle.meaning.specs.declared.types.Term.TheVariants.{Var, Const}
use Rattle.homomorphism.proofs.Covering.{told, denied}
use Rattle.data_verify.specs.Inclusion.{AreShared}
use Rattle.data_verify.proofs.KeySets.{shared_skip, shared_lacks, shared_more}
use Rattle.data_verify.proofs.keys.shared_variables.Goals.{in-Const, in-Var+then-has_variable+in_ok-push-in-Var, in-Var+else-has_variable}
use Rattle.data_verify.proofs.keys.shared_variables.Goals as goal

const_apart : (term : Term) (c : List ℕ) (x : ℕ) → term ≡ Const c → term ≡ Var x → ⊥
const_apart term c x e f = cc

pub loop-term-preserved : goal.loop-term-preserved
loop-term-preserved c = elim c.match-term.branch [
  | in-Const w ↦ rw w.shared-is (shared_skip c.args.body.now c.args.head.now c.loop-term.term-index c.term-item.result c.loop-term-test.true c.term-item.is c.loop-term.shared.items c.loop-term.invariant (λ x e h. const_apart _ _ x w.in-Const.is e))
  | in-Var+then-has_variable+in_ok-push-in-Var w ↦ rw w.shared-is (subst (AreShared c.args.body.now (take (c.loop-term.term-index + 1) c.args.head.now)) (sym w.in_ok-push-in-Var.ensures.items)
      (shared_more c.args.body.now c.args.head.now c.loop-term.term-index c.term-item.result c.loop-term-test.true c.term-item.is c.loop-term.shared.items c.loop-term.invariant w.in-Var.variable w.in-Var.is (told _ w.has_variable.ensures w.if-has_variable.true)))
  | in-Var+else-has_variable w ↦ rw w.shared-is (shared_lacks c.args.body.now c.args.head.now c.loop-term.term-index c.term-item.result c.loop-term-test.true c.term-item.is c.loop-term.shared.items c.loop-term.invariant w.in-Var.variable w.in-Var.is (λ h. denied _ w.has_variable.ensures w.if-has_variable.false h))
]

pub returns : goal.returns
returns c = subst (λ z. AreShared c.args.body.now z c.loop-term.shared.items) (take_all c.loop-term.term-index c.args.head.now c.loop-term-test.false) c.loop-term.invariant

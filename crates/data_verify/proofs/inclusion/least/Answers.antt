use Rattle.std.proofs.Common.{subst}
use Rattle.std.specs.Prelude.{option_copied}
use Rattle.std.proofs.lemmas.List.{take_all}
use Rattle.homomorphism.proofs.Covering.{told, denied}
use Rattle.data_verify.specs.Inclusion.{IsWithout, IsBelow, IsLeastIf}
use Rattle.data_verify.proofs.Lowest.{turn_keeps, turn_takes}
use Rattle.data_verify.proofs.inclusion.least.Goals.{then-is_below+in_ok-is_without+then-branch, else-is_below, else-is_below-via-then-is_below+in_ok-is_without+else-branch, else-is_below-via-else-is_below}
use Rattle.data_verify.proofs.inclusion.least.Goals as goal

pub loop-fact-preserved : goal.loop-fact-preserved
loop-fact-preserved c =
    let P = IsWithout c.args.body.now c.args.head.now c.args.variables.now c.args.keys.now in
    elim c.if-is_below.branch [
      | then-is_below+in_ok-is_without+then-branch w ↦ rw w.least-is (turn_takes P c.args.instance.now c.loop-fact.fact-index c.fact-item.result c.loop-fact-test.true c.fact-item.is (option_copied c.loop-fact.least) c.loop-fact.invariant (told _ c.is_below.ensures w.if-is_below.true) (told _ w.in_ok-is_without.ensures w.if-branch.true))
      | else-is_below w ↦
          let not : IsBelow c.fact-item.result (option_copied c.loop-fact.least) → P c.fact-item.result → ⊥ = elim w.else-is_below.branch [
            | else-is_below-via-then-is_below+in_ok-is_without+else-branch v ↦ λ b p. denied _ v.in_ok-is_without.ensures v.if-branch.false p
            | else-is_below-via-else-is_below v ↦ λ b p. denied _ c.is_below.ensures v.if-is_below.false b
          ] in
          rw w.least-is (turn_keeps P c.args.instance.now c.loop-fact.fact-index c.fact-item.result c.loop-fact-test.true c.fact-item.is (option_copied c.loop-fact.least) c.loop-fact.invariant not)
    ]

pub returns : goal.returns
returns c = subst (λ z. IsLeastIf (IsWithout c.args.body.now c.args.head.now c.args.variables.now c.args.keys.now) z (option_copied c.loop-fact.least)) (take_all c.loop-fact.fact-index c.args.instance.now c.loop-fact-test.false) c.loop-fact.invariant

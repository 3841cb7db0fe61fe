use Rattle.std.proofs.Common.{◌≡◌, List, refl, sym, subst}
use Rattle.std.specs.Prelude.{Contains}
use Rattle.std.proofs.lemmas.List.{take_all}
use Rattle.lists.proofs.Places.{got_indexed}
use Rattle.lists.proofs.Booleans.{test_holds, test_fails}
use Rattle.meaning.specs.declared.types.Val.{Val}
use Rattle.homomorphism.proofs.Covering.{told, denied}
use Rattle.exposure_search.proofs.Wanting.{front_each}
use Rattle.exposure_search.proofs.candidates.is_among.Goals as goal

pub returns-then-same : goal.returns-then-same
returns-then-same c = test_holds (subst (λ v. Contains c.args.vals.now v) (told _ c.same.ensures c.if-same.true) (c.loop-other.other-index, c.loop-other-test.true, sym c.other-item.is))

pub loop-other-preserved : goal.loop-other-preserved
loop-other-preserved c =
    front_each (λ (v : Val). v ≡ c.args.val.now → ⊥) c.args.vals.now c.loop-other.other-index c.other-item.result (got_indexed c.args.vals.now c.loop-other.other-index c.other-item.result c.loop-other-test.true c.other-item.is)
    c.loop-other.invariant (denied _ c.same.ensures c.if-same.false)

pub returns : goal.returns
returns c =
    test_fails (λ among. subst (λ (vals : List Val). (v : Val) → Contains vals v → v ≡ c.args.val.now → ⊥) (take_all c.loop-other.other-index c.args.vals.now c.loop-other-test.false) c.loop-other.invariant c.args.val.now among refl)

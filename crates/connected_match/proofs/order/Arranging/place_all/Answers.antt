use Rattle.std.proofs.Common.{subst, ◌≡◌, arith, ⊎_elim}
use Rattle.std.proofs.lemmas.Bool.{cases_lt}
use Rattle.connected_match.specs.Orders.{IsPlaced}
use Rattle.connected_match.proofs.Arranging.{placed_all}
use Rattle.connected_match.proofs.order.Arranging.place_all.Goals as goal

pub loop-number-preserved : goal.loop-number-preserved
loop-number-preserved c = record {
  arranging = c.in_ok-place.ensures.arranging;
  placed = λ k low. ⊎_elim (λ less. c.in_ok-place.ensures.stays k (c.loop-number.invariant.placed k less))
      (λ past. let e : c.loop-number.number ≡ k = omega (arith, low, past) in subst (IsPlaced c.place.new.self) e c.in_ok-place.ensures.placed)
      (cases_lt k c.loop-number.number);
}

pub returns : goal.returns
returns c = placed_all c.args.atoms.now c.loop-number.self c.loop-number.invariant.arranging (λ k low. c.loop-number.invariant.placed k (omega (arith, low, c.loop-number-test.false)))

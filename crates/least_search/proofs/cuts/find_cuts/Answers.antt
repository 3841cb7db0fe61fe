use Rattle.std.proofs.Common.{◌≡◌, ◌++◌, List, [], ◌∷◌, length, refl, sym, ap, ◌∙◌, subst, take, drop, rules}
use Rattle.std.proofs.Math.Seq.{take-append_seam}
use Rattle.least_search.specs.declared.residues.Residue.{Residue}
use Rattle.least_search.specs.declared.cuts.Cut.{Cut}
use Rattle.least_search.specs.Sides.{IsNearSide, HavePaid}
use Rattle.least_search.proofs.Cutting.{AreFound, found_none, found_more, found_cuts}
use Rattle.least_search.proofs.cuts.find_cuts.Goals as goal

pub loop-wanted-init : goal.loop-wanted-init
loop-wanted-init g c =
    let none : c.new-cuts.result.items ≡ [] = c.new-cuts.ensures.items in
    record {
      back = refl;
      found = subst (λ (cuts : List Cut). AreFound (g.S.Space.size c.args.space.now) (g.S.Space.CanMove c.args.space.now) (g.S.Space.HasGoal c.args.space.now) cuts c.in_ok-residues.residues.items) (sym none)
          (found_none (g.S.Space.size c.args.space.now) (g.S.Space.CanMove c.args.space.now) (g.S.Space.HasGoal c.args.space.now) c.in_ok-residues.residues.items c.in_ok-residues.ensures);
    }

pub returns-in_default-clause-cuts : goal.returns-in_default-clause-cuts
returns-in_default-clause-cuts g c = found_cuts (g.S.Space.size c.args.space.now) (g.S.Space.CanMove c.args.space.now) (g.S.Space.HasGoal c.args.space.now) c.loop-wanted.cuts.items c.loop-wanted.residues.items c.loop-wanted.invariant.found

pub returns-in_default-least_left-clause-cuts : goal.returns-in_default-least_left-clause-cuts
returns-in_default-least_left-clause-cuts g c = found_cuts (g.S.Space.size c.args.space.now) (g.S.Space.CanMove c.args.space.now) (g.S.Space.HasGoal c.args.space.now) c.loop-wanted.cuts.items c.loop-wanted.residues.items c.loop-wanted.invariant.found

pub returns-then-weight-eq0-clause-cuts : goal.returns-then-weight-eq0-clause-cuts
returns-then-weight-eq0-clause-cuts g c = found_cuts (g.S.Space.size c.args.space.now) (g.S.Space.CanMove c.args.space.now) (g.S.Space.HasGoal c.args.space.now) c.loop-wanted.cuts.items c.loop-wanted.residues.items c.loop-wanted.invariant.found

pub returns-clause-cuts : goal.returns-clause-cuts
returns-clause-cuts g c = found_cuts (g.S.Space.size c.args.space.now) (g.S.Space.CanMove c.args.space.now) (g.S.Space.HasGoal c.args.space.now) c.loop-wanted.cuts.items c.loop-wanted.residues.items c.loop-wanted.invariant.found

pub loop-wanted-preserved : goal.loop-wanted-preserved
loop-wanted-preserved g c =
    let back : c.near_side.new.space ≡ c.args.space.now = c.in_ok-side.ensures.back ∙ c.loop-wanted.invariant.back in
    let near : IsNearSide (g.S.Space.size c.args.space.now) (g.S.Space.CanMove c.args.space.now) (g.S.Space.HasGoal c.args.space.now) c.in-Some.side =
    subst (λ s. IsNearSide (g.S.Space.size s) (g.S.Space.CanMove s) (g.S.Space.HasGoal s) c.in-Some.side) c.loop-wanted.invariant.back (search rules) in
    let old : c.deref_mut.result.now ≡ c.loop-wanted.residues.items = c.deref_mut.ensures.value in
    let weight : c.from-weight.result ≡ c.in-Some-least_left.weight = c.from-weight.ensures in
    let paid : HavePaid (g.S.Space.CanMove c.args.space.now) c.in-Some.side.set.items c.from-weight.result c.loop-wanted.residues.items c.pay.new.residues =
    subst (λ (xs : List Residue). HavePaid (g.S.Space.CanMove c.args.space.now) c.in-Some.side.set.items c.from-weight.result xs c.pay.new.residues) old
    (subst (λ w. HavePaid (g.S.Space.CanMove c.args.space.now) c.in-Some.side.set.items w c.deref_mut.result.now c.pay.new.residues) (sym weight)
    (subst (λ s. HavePaid (g.S.Space.CanMove s) c.in-Some.side.set.items c.in-Some-least_left.weight c.deref_mut.result.now c.pay.new.residues) back c.pay.ensures)) in
    let long : c.loop-wanted.residues.len ≡ length c.pay.new.residues = c.loop-wanted.residues.ok.0 ∙ ap length (sym old) ∙ sym c.pay.auto.residues in
    let whole : take c.loop-wanted.residues.len (c.pay.new.residues ++ drop (length c.pay.new.residues) c.loop-wanted.residues.items) ≡ c.pay.new.residues =
    ap (λ n. take n (c.pay.new.residues ++ drop (length c.pay.new.residues) c.loop-wanted.residues.items)) long ∙ take-append_seam c.pay.new.residues (drop (length c.pay.new.residues) c.loop-wanted.residues.items) in
    record {
      back = back;
      found = subst (λ (cuts : List Cut). AreFound (g.S.Space.size c.args.space.now) (g.S.Space.CanMove c.args.space.now) (g.S.Space.HasGoal c.args.space.now) cuts (take c.loop-wanted.residues.len (c.pay.new.residues ++ drop (length c.pay.new.residues) c.loop-wanted.residues.items))) (sym c.in_ok-push.ensures.items)
          (subst (λ (xs : List Residue). AreFound (g.S.Space.size c.args.space.now) (g.S.Space.CanMove c.args.space.now) (g.S.Space.HasGoal c.args.space.now) (c.loop-wanted.cuts.items ++ record { set = c.in-Some.side.set; weight = c.from-weight.result } ∷ []) xs) (sym whole)
          (found_more (g.S.Space.size c.args.space.now) (g.S.Space.CanMove c.args.space.now) (g.S.Space.HasGoal c.args.space.now) c.loop-wanted.cuts.items (record { set = c.in-Some.side.set; weight = c.from-weight.result }) c.in-Some.side c.loop-wanted.residues.items c.pay.new.residues c.loop-wanted.invariant.found near refl paid));
    }

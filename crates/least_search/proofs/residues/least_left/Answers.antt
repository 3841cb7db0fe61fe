use Rattle.std.proofs.Common.{◌≡◌, ◌++◌, ◌∷◌, [], ℕ, Bool, true, false, List, Option, take, slice_index_or, sym, subst}
use Rattle.std.proofs.lemmas.List.{take_more, take_all}
use Rattle.least_search.specs.declared.residues.Residue.{Residue}
use Rattle.least_search.specs.Sides.{LeastOf, no_residue}
use Rattle.least_search.proofs.Cutting.{least_open, least_shut}
use Rattle.least_search.proofs.residues.least_left.Goals as goal
use Rattle.least_search.proofs.residues.least_left.Goals.{then-is_open, else-is_open}

pub loop-residue-preserved : goal.loop-residue-preserved
loop-residue-preserved g c =
    let more = take_more c.args.residues.now c.loop-residue.residue-index no_residue c.loop-residue-test.true in
    let set : c.deref-in-loop-residue.result.now ≡ c.args.side.now.set.items = c.deref-in-loop-residue.ensures.value in
    elim c.if-is_open.branch [
      | then-is_open w ↦
          subst (λ (xs : List Residue). LeastOf (g.S.Space.CanMove c.args.space.now) c.args.side.now.set.items xs c.if-is_open.least) (sym more)
          (subst (λ (o : Option ℕ). LeastOf (g.S.Space.CanMove c.args.space.now) c.args.side.now.set.items (take c.loop-residue.residue-index c.args.residues.now ++ slice_index_or c.args.residues.now c.loop-residue.residue-index no_residue ∷ []) o) (sym w.least-is)
          (least_open (g.S.Space.CanMove c.args.space.now) c.args.side.now.set.items (take c.loop-residue.residue-index c.args.residues.now) (slice_index_or c.args.residues.now c.loop-residue.residue-index no_residue) c.loop-residue.least w.lesser.result c.loop-residue.invariant w.lesser.ensures.left w.lesser.ensures.least))
      | else-is_open w ↦
          subst (λ (xs : List Residue). LeastOf (g.S.Space.CanMove c.args.space.now) c.args.side.now.set.items xs c.if-is_open.least) (sym more)
          (subst (λ (o : Option ℕ). LeastOf (g.S.Space.CanMove c.args.space.now) c.args.side.now.set.items (take c.loop-residue.residue-index c.args.residues.now ++ slice_index_or c.args.residues.now c.loop-residue.residue-index no_residue ∷ []) o) (sym w.least-is)
          (least_shut (g.S.Space.CanMove c.args.space.now) c.args.side.now.set.items (take c.loop-residue.residue-index c.args.residues.now) (slice_index_or c.args.residues.now c.loop-residue.residue-index no_residue) c.loop-residue.least c.loop-residue.invariant
          (λ can. let yes : c.is_open.result ≡ true = c.is_open.ensures.1 (subst (λ (s : List Bool). g.S.Space.CanMove c.args.space.now s (slice_index_or c.args.residues.now c.loop-residue.residue-index no_residue).step) (sym set) can) in let no : c.is_open.result ≡ false = w.if-is_open.false in absurd (cc))))
    ]

pub returns : goal.returns
returns g c =
    subst (λ (xs : List Residue). LeastOf (g.S.Space.CanMove c.args.space.now) c.args.side.now.set.items xs c.loop-residue.least) (take_all c.loop-residue.residue-index c.args.residues.now c.loop-residue-test.false) c.loop-residue.invariant

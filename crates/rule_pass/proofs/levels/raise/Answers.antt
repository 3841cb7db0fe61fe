use Rattle.std.proofs.Common.{◌≡◌, ◌++◌, ◌∷◌, [], ◌<◌, ◌≤◌, ◌+◌, take, length, arith, refl}
use Rattle.std.specs.Prelude.{slice_index}
use Rattle.lists.proofs.Places.{take_indexed}
use Rattle.homomorphism.proofs.AtomByAtom.{is_among}
use Rattle.rule_pass.proofs.Tables.{raises_none, raises_over, raises_more, sum_rises, sum_kept}
use Rattle.rule_pass.proofs.levels.raise.Goals.{then-levels-rel, else-levels-rel}
use Rattle.rule_pass.proofs.levels.raise.Goals as goal

pub bounds-levels-rel : goal.bounds-levels-rel
bounds-levels-rel c = rw c.loop-atom.auto.levels (c.requires c.atom-item.result (is_among c.args.atoms.now c.loop-atom.atom-index c.atom-item.result c.loop-atom-test.true c.atom-item.is))

pub bounds-levels-rel-then-levels-rel : goal.bounds-levels-rel-then-levels-rel
bounds-levels-rel-then-levels-rel c = rw c.loop-atom.auto.levels (c.requires c.atom-item.result (is_among c.args.atoms.now c.loop-atom.atom-index c.atom-item.result c.loop-atom-test.true c.atom-item.is))

pub loop-atom-init : goal.loop-atom-init
loop-atom-init c = record { raises = raises_none c.args.least c.args.levels.now; rose = λ e. absurd (cc); stays = λ e. refl }

pub loop-atom-preserved : goal.loop-atom-preserved
loop-atom-preserved c =
    let fits : c.atom-item.result.rel < length c.loop-atom.levels = rw c.loop-atom.auto.levels (c.requires c.atom-item.result (is_among c.args.atoms.now c.loop-atom.atom-index c.atom-item.result c.loop-atom-test.true c.atom-item.is)) in
    let one_more : take (c.loop-atom.atom-index + 1) c.args.atoms.now ≡ take c.loop-atom.atom-index c.args.atoms.now ++ c.atom-item.result ∷ [] = take_indexed c.args.atoms.now c.loop-atom.atom-index c.atom-item.result c.loop-atom-test.true c.atom-item.is in
    elim c.if-levels-rel.branch [
      | then-levels-rel w ↦
          let low : slice_index c.loop-atom.levels c.atom-item.result.rel < c.args.least = w.if-levels-rel.true in
          let before = sum_kept c.loop-atom.rose c.args.levels.now c.loop-atom.levels c.loop-atom.invariant.rose c.loop-atom.invariant.stays in
          let rises = sum_rises c.loop-atom.levels c.atom-item.result.rel c.args.least fits low in
          rw (one_more, w.levels-is) (record {
            raises = raises_more _ c.atom-item.result c.args.least c.args.levels.now c.loop-atom.levels fits low c.loop-atom.invariant.raises;
            rose = λ e. omega arith;
            stays = λ e. absurd (cc);
          })
      | else-levels-rel w ↦
          let high : c.args.least ≤ slice_index c.loop-atom.levels c.atom-item.result.rel = w.if-levels-rel.false in
          rw (one_more, w.levels-is, w.rose-is) (record {
            raises = raises_over _ c.atom-item.result c.args.least c.args.levels.now c.loop-atom.levels high c.loop-atom.invariant.raises;
            rose = c.loop-atom.invariant.rose;
            stays = c.loop-atom.invariant.stays;
          })
    ]

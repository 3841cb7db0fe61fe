use Rattle.std.proofs.Common.{length}
use Rattle.homomorphism.proofs.Binding.{place_fits}
use Rattle.homomorphism.proofs.Choosing.{found_value}
use Rattle.homomorphism.proofs.fact_index.FactIndex.candidates.Goals.{in-Some+then-numbers-best, in-Some+else-numbers-best, in_default}
use Rattle.homomorphism.proofs.fact_index.FactIndex.candidates.Goals as goal

pub sought-requires : goal.sought-requires
sought-requires c =
    let is = rw c.as_slice-term-items.ensures at c.term-item.is in
    let l = rw c.as_slice-term-items.ensures at c.loop-position-test.true in
    place_fits c.args.atom.now.terms c.loop-position.position c.term-item.result (length c.args.given.now) l is c.requires

pub loop-position-preserved : goal.loop-position-preserved
loop-position-preserved c =
    let is = rw c.as_slice-term-items.ensures at c.term-item.is in
    let l = rw c.as_slice-term-items.ensures at c.loop-position-test.true in
    let sought = c.in_ok-val.ensures in
    elim c.match-branch-2.branch [
      | in-Some+then-numbers-best w ↦ rw w.best-is (found_value c.args.self.now.positions c.args.self.now.lists c.args.atom.now c.args.given.now w.numbers-numbers.result.now c.loop-position.position c.term-item.result w.in-Some.val l is (rw w.in-Some.is at sought).0 (rw w.in-Some.is at sought).1 w.numbers-numbers.ensures)
      | in-Some+else-numbers-best w ↦ rw w.best-is c.loop-position.invariant
      | in_default w ↦ rw w.best-is c.loop-position.invariant
    ]

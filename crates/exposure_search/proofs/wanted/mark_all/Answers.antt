use Rattle.std.proofs.Common.{◌≡◌, ◌+◌, Some, sym, ap, subst}
use Rattle.std.specs.Prelude.{slice_get, Ok}
use Rattle.std.proofs.lemmas.List.{take_all}
use Rattle.lists.proofs.Places.{got_indexed}
use Rattle.exposure_search.specs.Relevance.{AllMarked}
use Rattle.exposure_search.proofs.Wanting.{AreSet, set_grew, set_same}
use Rattle.exposure_search.proofs.wanted.mark_all.Goals.{then-branch, else-branch}
use Rattle.exposure_search.proofs.wanted.mark_all.Goals as goal

pub loop-atom-preserved : goal.loop-atom-preserved
loop-atom-preserved c =
    let atoms = c.args.atoms.now in
    let i = c.loop-atom.atom-index in
    let old = c.args.marks.now.items in
    let now = c.loop-atom.marks.items in
    let new = c.mark_one.new.marks.items in
    let got : slice_get atoms i ≡ Some c.atom-item.result = got_indexed atoms i c.atom-item.result c.loop-atom-test.true c.atom-item.is in
    elim c.if-branch.branch [
      | then-branch w ↦
          subst (λ grew. AreSet atoms (i + 1) old new grew) (sym w.grew-is)
          (set_grew atoms i old now c.loop-atom.grew c.loop-atom.invariant c.atom-item.result got new c.in_ok-mark_one.ensures.stays c.in_ok-mark_one.ensures.there)
      | else-branch w ↦
          subst (λ grew. AreSet atoms (i + 1) old new grew) (sym w.grew-is)
          (set_same atoms i old now c.loop-atom.grew c.loop-atom.invariant c.atom-item.result got new c.in_ok-mark_one.ensures.stays c.in_ok-mark_one.ensures.there (c.in_ok-mark_one.ensures.none (ap (λ b. Ok b) w.if-branch.false)))
    ]

pub returns-clause-all : goal.returns-clause-all
returns-clause-all c = subst (λ list. AllMarked c.loop-atom.marks.items list) (take_all c.loop-atom.atom-index c.args.atoms.now c.loop-atom-test.false) c.loop-atom.invariant.all

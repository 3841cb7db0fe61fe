use Rattle.std.proofs.Common.{subst}
use Rattle.std.proofs.lemmas.List.{take_all}
use Rattle.meaning.specs.declared.types.Val.TheVariants.{Const}
use Rattle.meaning.specs.Matching.{AreFacts, GroundsOf}
use Rattle.homomorphism.specs.Bindings.{at}
use Rattle.homomorphism.proofs.AtomByAtom.{is_among}
use Rattle.homomorphism.proofs.Covering.{told, denied}
use Rattle.homomorphism.proofs.Extending.{atom_within}
use Rattle.homomorphism.proofs.Heads.{are_more}
use Rattle.homomorphism.proofs.head.are_there.Goals as goal

pub is_there-requires : goal.is_there-requires
is_there-requires c = atom_within c.args.atoms.now c.loop-atom.atom-index c.atom-item.result _ c.loop-atom-test.true c.atom-item.is c.requires

pub returns-then-not-branch-clause-no : goal.returns-then-not-branch-clause-no
returns-then-not-branch-clause-no c = λ e are. denied _ c.in_ok-is_there.ensures c.if-not-branch.true (are c.atom-item.result (is_among c.args.atoms.now c.loop-atom.atom-index c.atom-item.result c.loop-atom-test.true c.atom-item.is))

pub loop-atom-preserved : goal.loop-atom-preserved
loop-atom-preserved c = are_more c.args.store.now c.args.atoms.now c.loop-atom.atom-index c.atom-item.result (at c.args.values.now.vals) c.loop-atom-test.true c.atom-item.is c.loop-atom.invariant (told _ c.in_ok-is_there.ensures c.if-not-branch.false)

pub returns-clause-yes : goal.returns-clause-yes
returns-clause-yes c = λ e. subst (AreFacts Const (GroundsOf c.args.store.now) (at c.args.values.now.vals)) (take_all c.loop-atom.atom-index c.args.atoms.now c.loop-atom-test.false) c.loop-atom.invariant

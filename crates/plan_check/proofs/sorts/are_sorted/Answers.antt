use Rattle.std.proofs.Common.{refl}
use Rattle.meaning.specs.declared.types.Atom.{Atom}
use Rattle.meaning.specs.declared.types.Term.TheVariants.{Const as Said}
use Rattle.meaning.specs.Sorts.{AreSorted}
use Rattle.access_schema.specs.Meaning.{meaning_of}
use Rattle.sql_select.proofs.Sorted.{before_more, all_ones}
use Rattle.plan_check.proofs.sorts.are_sorted.Goals as goal

pub loop-atom-preserved : goal.loop-atom-preserved
loop-atom-preserved c =
    before_more (λ (atom : Atom). AreSorted Said (meaning_of c.args.schema.now) atom.rel atom.terms) c.args.atoms.now
    c.args.atoms.now c.loop-atom.atom-index c.atom-item.result refl c.loop-atom-test.true c.atom-item.is
    c.loop-atom.invariant (c.is_sorted.ensures.0 c.if-not-is_sorted.false)

pub returns : goal.returns
returns c = (
  (λ _. all_ones (λ (atom : Atom). AreSorted Said (meaning_of c.args.schema.now) atom.rel atom.terms) c.args.atoms.now
      c.args.atoms.now c.loop-atom.atom-index refl c.loop-atom-test.false c.loop-atom.invariant),
  (λ _. refl),
)

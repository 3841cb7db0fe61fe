use Rattle.std.proofs.Common.{List, length, subst}
use Rattle.std.proofs.lemmas.List.{take_all}
use Rattle.std.specs.Prelude.{Contains}
use Rattle.lists.proofs.Places.{got_indexed}
use Rattle.homomorphism.proofs.Extending.{atom_within}
use Rattle.meaning.specs.declared.types.Atom.{Atom}
use Rattle.exposure_search.proofs.Wanting.{front_each}
use Rattle.exposure_search.proofs.Imaging.{NeverIs, never_made}
use Rattle.exposure_search.proofs.images.fits_some.Goals as goal

pub fits-requires : goal.fits-requires
fits-requires c = atom_within c.args.atoms.now c.loop-atom.atom-index c.atom-item.result (length c.args.given.now) c.loop-atom-test.true c.atom-item.is c.requires

pub loop-atom-preserved : goal.loop-atom-preserved
loop-atom-preserved c =
    front_each (NeverIs c.args.given.now c.args.fact.now) c.args.atoms.now c.loop-atom.atom-index c.atom-item.result (got_indexed c.args.atoms.now c.loop-atom.atom-index c.atom-item.result c.loop-atom-test.true c.atom-item.is)
    c.loop-atom.invariant (c.fits.ensures c.if-fits.false)

pub returns : goal.returns
returns c e =
    never_made c.args.given.now c.args.atoms.now c.args.fact.now
    (subst (λ (l : List Atom). (atom : Atom) → Contains l atom → NeverIs c.args.given.now c.args.fact.now atom) (take_all c.loop-atom.atom-index c.args.atoms.now c.loop-atom-test.false) c.loop-atom.invariant)

use Rattle.std.proofs.Common.{take}
use Rattle.std.specs.Prelude.{Contains}
use Rattle.meaning.specs.declared.types.Atom.{Atom}
use Rattle.exposure_search.proofs.Imaging.{NeverIs}
use Rattle.exposure_search.proofs.images.fits_some.Given as goal

-- none of the first atoms makes the fact
abbrev pub invariant-loop-atom : goal.invariant-loop-atom
invariant-loop-atom l = (atom : Atom) → Contains (take l.atom-index l.atoms) atom → NeverIs l.given l.fact atom

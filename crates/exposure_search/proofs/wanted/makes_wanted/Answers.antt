use Rattle.std.proofs.Common.{sym, ap, subst, ⊎_elim}
use Rattle.std.specs.Prelude.{Contains}
use Rattle.meaning.specs.declared.types.Ground.{Ground}
use Rattle.exposure_search.specs.Tries.{IsMarked}
use Rattle.exposure_search.proofs.wanted.makes_wanted.Goals as goal

pub returns : goal.returns
returns c e fact makes wants =
    ⊎_elim (λ image. c.makes_image.ensures e fact makes image)
    (λ on. c.has_marked.ensures c.if-has_marked.false makes.head (subst (λ atoms. Contains atoms makes.head) (sym c.as_slice.ensures) makes.of_rule) (subst (λ r. IsMarked c.args.wanted.now r) (sym (ap (λ (f : Ground). f.rel) makes.makes)) on))
    wants

use Rattle.std.proofs.Common.{List, subst}
use Rattle.meaning.specs.declared.types.Term.{Term}
use Rattle.exposure_search.specs.Relevance.{NeverMatch}
use Rattle.exposure_search.proofs.makers.can_make.Goals as goal

pub returns : goal.returns
returns c e rel =
    subst (λ (made : List Term). NeverMatch c.args.given.now c.args.next c.args.width made c.args.atom.now.terms) c.as_slice.ensures
    (subst (λ (asked : List Term). NeverMatch c.args.given.now c.args.next c.args.width c.as_slice.result.now asked) c.as_slice-2.ensures (c.can_match.ensures e))

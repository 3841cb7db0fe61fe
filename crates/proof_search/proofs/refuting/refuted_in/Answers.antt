use Rattle.std.proofs.Common.{◌<◌, List, sym, subst}
use Rattle.std.specs.Prelude.{Contains}
use Rattle.meaning.specs.declared.types.Ground.{Ground}
use Rattle.meaning.specs.declared.types.Val.TheVariants.{Label}
use Rattle.proof_search.proofs.refuting.refuted_in.Goals as goal

pub closing-requires : goal.closing-requires
closing-requires c fact k among inside =
    let end = c.args.proof.now.end in
    let copied : Contains end.copy fact = subst (λ (facts : List Ground). Contains facts fact) c.in_ok-copy.ensures among in
    let low : k < end.next = c.requires.exhausted.kept.copy_named fact (Label k) copied inside in
    subst (λ n. k < n) (sym c.next.ensures) low

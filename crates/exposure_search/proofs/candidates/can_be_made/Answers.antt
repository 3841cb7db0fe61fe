use Rattle.std.proofs.Common.{◌≡◌, ◌<◌, List, true, false, sym, ◌∙◌, subst, inr, ⊎_elim, arith}
use Rattle.meaning.specs.declared.types.Val.{Val}
use Rattle.homomorphism.proofs.Covering.{told}
use Rattle.exposure_search.specs.Ahead.{facts_along}
use Rattle.exposure_search.specs.Candidates.{AreHeld}
use Rattle.exposure_search.proofs.MovesFrom.{refusal}
use Rattle.exposure_search.proofs.candidates.can_be_made.Goals as goal

pub returns-else-candidate : goal.returns-else-candidate
returns-else-candidate c =
    let facts = facts_along c.args.facts.now c.args.path.now in
    let less : c.from.result < c.args.below = c.if-from-below.false in
    let cost : c.from.result ≡ c.args.candidate.now.step.cost = c.from.ensures in (
      (λ yes. record {
        low = omega arith;
        lacks = told _ c.is_clear.ensures c.if-not-is_clear.false;
        known = subst (λ (vals : List Val). AreHeld facts vals) c.as_slice.ensures.value (told _ c.are_held.ensures c.if-not-are_held.false);
        gains = inr (λ held. (refusal _ c.are_held-else-candidate.ensures).0 yes (subst (λ (vals : List Val). AreHeld facts vals) (sym c.as_slice-else-candidate.ensures.value) held));
      }),
      (λ made. (refusal _ c.are_held-else-candidate.ensures).1 (λ held. ⊎_elim
          (λ need. let clash : true ≡ false = sym need ∙ c.if-candidate.false in absurd (cc))
          (λ not_held. not_held (subst (λ (vals : List Val). AreHeld facts vals) c.as_slice-else-candidate.ensures.value held)) made.gains)),
    )

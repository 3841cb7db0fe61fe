use Rattle.std.proofs.Common.{◌≡◌, ◌+◌, ◌++◌, ◌∷◌, [], length, sym, ap, ◌∙◌, subst, ⊎_elim, arith}
use Rattle.std.specs.Prelude.{Contains}
use Rattle.std.proofs.lemmas.List.{length_push}
use Rattle.std.proofs.lemmas.List.Elements.{Contains-push_cases}
use Rattle.meaning.specs.declared.types.Firing.{Firing}
use Rattle.proof_search.proofs.exposing.cheapest.Goals as goal
use Rattle.proof_search.proofs.exposing.cheapest.Goals.{then-place-first+then-cost_of-least+in_ok-copy-2+in_ok-push-2, else-place-first}

pub loop-place-preserved : goal.loop-place-preserved
loop-place-preserved c =
    elim c.if-place-first.branch [
      | then-place-first+then-cost_of-least+in_ok-copy-2+in_ok-push-2 w ↦
          let pushed : c.if-place-first.cheap ≡ c.loop-place.cheap ++ c.index-found-place.result ∷ [] = w.cheap-is ∙ w.in_ok-push-2.ensures.ok ∙ ap (λ (f : Firing). c.loop-place.cheap ++ f ∷ []) w.in_ok-copy-2.ensures in
          let long : length c.if-place-first.cheap ≡ length c.loop-place.cheap + 1 = ap length pushed ∙ length_push c.loop-place.cheap c.index-found-place.result in
          record {
            among = λ firing there. ⊎_elim (λ old. c.loop-place.invariant.among firing old)
                (λ e. subst (λ f. Contains c.args.found.now f) e (c.loop-place.place, c.loop-place-test.true, sym c.index-found-place.is))
                (Contains-push_cases c.loop-place.cheap c.index-found-place.result firing (subst (λ l. Contains l firing) pushed there));
            some = omega arith;
          }
      | else-place-first w ↦ rw w.cheap-is c.loop-place.invariant
    ]

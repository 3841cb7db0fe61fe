use Rattle.std.proofs.Common.{◌≡◌, ◌+◌, Some, take, get_or, sym, ◌∙◌, subst, inl, inr, ⊎_elim}
use Rattle.std.specs.Prelude.{Contains, slice_get}
use Rattle.std.proofs.lemmas.Option.{slice_get-get_or}
use Rattle.lists.proofs.Members.{some_injective}
use Rattle.accessible_copy.specs.Known.{known_values}
use Rattle.accessible_copy.specs.OpenFacts.{held_by}
use Rattle.exposure_search.specs.Relevance.{HoldsInput}
use Rattle.exposure_search.proofs.Following.{IsReached, reached_more, reached_none, input_next}
use Rattle.exposure_search.proofs.relevance.Marking.follow_inputs.Goals.{in-Some+in_ok-reach_all, in_default}
use Rattle.exposure_search.proofs.relevance.Marking.follow_inputs.Goals as goal

pub loop-place-preserved : goal.loop-place-preserved
loop-place-preserved c =
    let i = c.loop-place.place-index in
    let places = c.args.places.now in
    let vals = c.args.vals.now in
    let holders = c.args.holders.now in
    let known = known_values c.args.proof.now.constants c.args.proof.now.end.exposed in
    let p = get_or places i 0 in
    let got : slice_get places i ≡ Some p = slice_get-get_or places i 0 c.loop-place-test.true in
    elim c.match-unknown_at.branch [
      | in-Some+in_ok-reach_all w ↦
          let there : slice_get vals p ≡ Some w.in-Some.val.now = w.in-Some.ensures.some in
          let held = w.numbers.ensures in
          subst (λ s. IsReached (HoldsInput holders known vals (take (i + 1) places)) c.args.self.now s) (sym w.self-is)
          (reached_more (HoldsInput holders known vals (take i places)) (Contains w.numbers.result.now) (HoldsInput holders known vals (take (i + 1) places)) c.args.self.now c.loop-place.self w.reach_all.new.self c.loop-place.invariant
          (record { grows = w.in_ok-reach_all.ensures.grows; reached = w.in_ok-reach_all.ensures.reached })
          (λ n holds. ⊎_elim (λ old. inl old)
          (λ (v, at, unknown, has). inr (subst (λ ns. Contains ns n) (sym held) (subst (λ u. Contains (held_by holders u) n) (some_injective v w.in-Some.val.now (sym at ∙ there)) has)))
          (input_next holders known vals places i p got n holds)))
      | in_default w ↦
          subst (λ s. IsReached (HoldsInput holders known vals (take (i + 1) places)) c.args.self.now s) (sym w.self-is)
          (reached_more (HoldsInput holders known vals (take i places)) (λ n. ⊥) (HoldsInput holders known vals (take (i + 1) places)) c.args.self.now c.loop-place.self c.loop-place.self c.loop-place.invariant
          (reached_none (λ n. ⊥) c.loop-place.self (λ n none. none))
          (λ n holds. ⊎_elim (λ old. inl old) (λ (v, at, unknown, has). absurd (unknown (w.in_default.ensures.none v at))) (input_next holders known vals places i p got n holds)))
    ]

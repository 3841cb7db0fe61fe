use Rattle.std.proofs.Common.{◌≡◌, ◌+◌, Some, None, take, get_or, sym, ◌∙◌, subst, inl, inr, ⊎_elim, rules}
use Rattle.std.specs.Prelude.{slice_get}
use Rattle.std.proofs.lemmas.List.{take_all}
use Rattle.std.proofs.lemmas.Option.{slice_get-get_or, none-some}
use Rattle.lists.proofs.Members.{some_injective}
use Rattle.meaning.specs.declared.types.Method.{Method}
use Rattle.accessible_copy.specs.Known.{known_values}
use Rattle.exposure_search.specs.Relevance.{HoldsInput, IsAskedBy}
use Rattle.exposure_search.proofs.Following.{IsReached, reached_more, reached_none, asked_next}
use Rattle.exposure_search.proofs.relevance.Marking.follow.Goals.{in-Some+in_ok-follow_inputs, in_default}
use Rattle.exposure_search.proofs.relevance.Marking.follow.Goals as goal

pub loop-number-preserved : goal.loop-number-preserved
loop-number-preserved c =
    let i = c.loop-number.number-index in
    let numbers = c.numbers-number-items.result.now in
    let methods = c.args.schema.now.methods in
    let vals = c.args.fact.now.vals in
    let holders = c.args.holders.now in
    let known = known_values c.args.proof.now.constants c.args.proof.now.end.exposed in
    let n = get_or numbers i 0 in
    let got : slice_get numbers i ≡ Some n = slice_get-get_or numbers i 0 c.loop-number-test.true in
    elim c.match-get.branch [
      | in-Some+in_ok-follow_inputs w ↦
          let there : slice_get methods n ≡ Some w.in-Some.method.now = search rules in
          subst (λ s. IsReached (IsAskedBy methods holders known vals (take (i + 1) numbers)) c.args.self.now s) (sym w.self-is)
          (reached_more (IsAskedBy methods holders known vals (take i numbers)) (HoldsInput holders known w.as_slice.result.now w.as_slice-in-Some.result.now) (IsAskedBy methods holders known vals (take (i + 1) numbers)) c.args.self.now c.loop-number.self w.follow_inputs.new.self c.loop-number.invariant
          (record { grows = w.in_ok-follow_inputs.ensures.grows; reached = w.in_ok-follow_inputs.ensures.reached })
          (λ k asked. ⊎_elim (λ old. inl old)
          (λ (method, named, holds). inr (subst (λ ps. HoldsInput holders known w.as_slice.result.now ps k) (sym w.as_slice-in-Some.ensures) (subst (λ vs. HoldsInput holders known vs w.in-Some.method.now.inputs k) (sym w.as_slice.ensures)
          (subst (λ (m : Method). HoldsInput holders known vals m.inputs k) (some_injective method w.in-Some.method.now (sym named ∙ there)) holds))))
          (asked_next methods holders known vals numbers i n got k asked)))
      | in_default w ↦
          let none : slice_get methods n ≡ None = search rules in
          subst (λ s. IsReached (IsAskedBy methods holders known vals (take (i + 1) numbers)) c.args.self.now s) (sym w.self-is)
          (reached_more (IsAskedBy methods holders known vals (take i numbers)) (λ k. ⊥) (IsAskedBy methods holders known vals (take (i + 1) numbers)) c.args.self.now c.loop-number.self c.loop-number.self c.loop-number.invariant
          (reached_none (λ k. ⊥) c.loop-number.self (λ k no'. no'))
          (λ k asked. ⊎_elim (λ old. inl old) (λ (method, named, holds). absurd (none-some method (sym none ∙ named))) (asked_next methods holders known vals numbers i n got k asked)))
    ]

pub returns-clause-reached : goal.returns-clause-reached
returns-clause-reached c number asked =
    let known = known_values c.args.proof.now.constants c.args.proof.now.end.exposed in
    let whole = take_all c.loop-number.number-index c.numbers-number-items.result.now c.loop-number-test.false in
    c.loop-number.invariant.reached number (subst (λ ns. IsAskedBy c.args.schema.now.methods c.args.holders.now known c.args.fact.now.vals ns number) (sym (whole ∙ c.numbers-number-items.ensures)) asked)

use Rattle.std.proofs.Common.{◌≡◌, ◌+◌, ◌∷◌, [], ◌++◌, take, sym, subst, ⊎_elim}
use Rattle.std.specs.Prelude.{Contains}
use Rattle.std.proofs.lemmas.List.{take_all}
use Rattle.std.proofs.lemmas.List.Elements.{Contains-push, Contains-push_cases}
use Rattle.lists.proofs.Places.{take_got, got_indexed}
use Rattle.meaning.specs.declared.types.Val.{Val}
use Rattle.accessible_copy.specs.OpenFacts.{held_by}
use Rattle.accessible_copy.proofs.HeldValues.{held_more}
use Rattle.accessible_copy.proofs.holders.Holders.add_all.Goals as goal

pub loop-val-preserved : goal.loop-val-preserved
loop-val-preserved c =
    let item = c.val-item.result in
    let turn : take (c.loop-val.val-index + 1) c.args.vals.now ≡ take c.loop-val.val-index c.args.vals.now ++ item ∷ [] =
    take_got c.args.vals.now c.loop-val.val-index item (got_indexed c.args.vals.now c.loop-val.val-index item c.loop-val-test.true c.val-item.is) in
    let more = held_more c.loop-val.self c.add.new.self item c.args.number c.in_ok-add.ensures.here c.in_ok-add.ensures.others in
    let here : Contains (held_by c.add.new.self item) c.args.number = subst (λ l. Contains l c.args.number) (sym c.in_ok-add.ensures.here) (Contains-push (held_by c.loop-val.self item) c.args.number) in (
      (λ value h. ⊎_elim (λ old. more value c.args.number (c.loop-val.invariant.0 value old)) (λ same. subst (λ (v : Val). Contains (held_by c.add.new.self v) c.args.number) same here)
          (Contains-push_cases (take c.loop-val.val-index c.args.vals.now) item value (subst (λ l. Contains l value) turn h))),
      (λ value n h. more value n (c.loop-val.invariant.1 value n h)),
    )

pub returns-clause-here : goal.returns-clause-here
returns-clause-here c = λ value h. c.loop-val.invariant.0 value (subst (λ l. Contains l value) (sym (take_all c.loop-val.val-index c.args.vals.now c.loop-val-test.false)) h)

use Rattle.std.proofs.Common.{◌∷◌, [], ◌++◌, take, drop, sym, subst, ⊎_elim}
use Rattle.std.specs.Prelude.{Contains, slice_index}
use Rattle.std.proofs.lemmas.List.{take_all, take_more}
use Rattle.std.proofs.lemmas.List.Elements.{Contains-append_left, Contains-append_right, Contains-push, Contains-push_cases}
use Rattle.accessible_copy.specs.Known.{known_values, facts_of}
use Rattle.accessible_copy.specs.OpenFacts.{IsOpen}
use Rattle.accessible_copy.proofs.OpenListed.{kept_behind}
use Rattle.accessible_copy.proofs.open_facts.OpenFacts.add_open.Goals.{then-is_to_list+in_ok-push, else-is_to_list}
use Rattle.accessible_copy.proofs.open_facts.OpenFacts.add_open.Goals as goal

pub loop-number-preserved : goal.loop-number-preserved
loop-number-preserved c =
    let held = c.numbers-held.result.now in
    let index = c.loop-number.number-index in
    let item = slice_index held index in
    let old = c.loop-number.numbers.items in
    let front = drop c.args.self.now.passed c.args.self.now.listed.items in
    let turn = take_more held index 0 c.loop-number-test.true in
    elim c.if-is_to_list.branch [
      | then-is_to_list+in_ok-push w ↦ rw (w.numbers-is, w.in_ok-push.ensures.items) (
        (λ n h. Contains-append_left old (item ∷ []) n (c.loop-number.invariant.0 n h)),
        (λ n h is. ⊎_elim (λ k. kept_behind front old (old ++ item ∷ []) (λ m among. Contains-append_left old (item ∷ []) m among) n (c.loop-number.invariant.1 n k is))
            (λ same. subst (λ m. Contains (front ++ (old ++ item ∷ [])) m) same (Contains-append_right front (old ++ item ∷ []) item (Contains-push old item)))
            (Contains-push_cases (take index held) item n (subst (λ l. Contains l n) turn h))),
      )
      | else-is_to_list w ↦ rw w.numbers-is (
        (λ n h. c.loop-number.invariant.0 n h),
        (λ n h is. ⊎_elim (λ k. c.loop-number.invariant.1 n k is)
            (λ same. subst (λ m. Contains (front ++ old) m) same (Contains-append_left front old item (c.is_to_list.ensures w.if-is_to_list.false
            (subst (λ k. IsOpen c.args.self.now.ways.items c.args.facts.now (known_values c.args.known.now.constants (facts_of c.args.known.now.exposed)) (facts_of c.args.known.now.exposed) k) (sym same) is))))
            (Contains-push_cases (take index held) item n (subst (λ l. Contains l n) turn h))),
      )
    ]

pub returns-clause-added : goal.returns-clause-added
returns-clause-added c = λ n among is.
    let here : Contains c.numbers-held.result.now n = subst (λ l. Contains l n) (sym c.numbers-held.ensures) among in
    c.loop-number.invariant.1 n (subst (λ l. Contains l n) (sym (take_all c.loop-number.number-index c.numbers-held.result.now c.loop-number-test.false)) here) is

use Rattle.std.proofs.Common.{◌≡◌, ◌≤◌, List, [], Bool, false, refl, ap, ◌∙◌, subst, ⊎_elim, arith, rules}
use Rattle.std.specs.Prelude.{replicate}
use Rattle.least_search.specs.declared.waiting.Waiter.{Waiter}
use Rattle.least_search.specs.Walks.{no_facts}
use Rattle.least_search.specs.Ways.{way_along}
use Rattle.least_search.specs.Cuts.{rest}
use Rattle.least_search.specs.Frontier.{IsWaiterOf}
use Rattle.least_search.proofs.Sets.{none_is}
use Rattle.least_search.proofs.Steps.{contains_none}
use Rattle.least_search.proofs.frontier.first_waiting.Goals as goal

pub returns-in_default-clause-only : goal.returns-in_default-clause-only
returns-in_default-clause-only c waiter there = absurd (contains_none c.new-waiting.result waiter c.new-waiting.ensures there)

pub returns-in_default-clause-here : goal.returns-in_default-clause-here
returns-in_default-clause-here c less =
    let falses : c.in_ok-empty.empty.items ≡ replicate c.args.facts false = search rules in
    let high : c.args.bound ≤ rest c.args.cuts.now (no_facts c.args.facts) = subst (λ (s : List Bool). c.args.bound ≤ rest c.args.cuts.now s) (c.deref.ensures.value ∙ falses ∙ none_is c.args.facts) c.in_default.ensures in
    absurd (omega arith)

pub returns-clause-only : goal.returns-clause-only
returns-clause-only c waiter there =
    let falses : c.in_ok-empty.empty.items ≡ replicate c.args.facts false = search rules in
    let due : c.in-Some.rest ≡ rest c.args.cuts.now (no_facts c.args.facts) = c.in-Some.ensures.0 ∙ ap (rest c.args.cuts.now) (c.deref.ensures.value ∙ falses ∙ none_is c.args.facts) in
    ⊎_elim
    (λ same. subst (λ (w : Waiter). (w.number ≡ 0) × IsWaiterOf c.args.cuts.now c.args.bound (way_along c.args.facts []) w) same
    (refl, record { sum = omega arith; due = due; low = c.in-Some.ensures.1 }))
    (λ old. absurd (contains_none c.new-waiting.result waiter c.new-waiting.ensures old)) (c.in_ok-push.ensures.only waiter there)

pub returns-clause-here : goal.returns-clause-here
returns-clause-here c less = (record { sum = c.in-Some.rest; rest = c.in-Some.rest; number = 0 }, c.in_ok-push.ensures.waiter, refl)

use Rattle.std.proofs.Common.{◌≡◌, ◌∷◌, ◌++◌, [], ◌∙◌, List, ap}
use Rattle.meaning.specs.declared.types.Fact.{Fact}
use Rattle.data_verify.proofs.Including.{one_each, only, all_met, least_breaking}
use Rattle.data_verify.proofs.inclusion.least_without.Goals as goal

pub returns-in-None-clause-none : goal.returns-in-None-clause-none
returns-in-None-clause-none c =
    let one = one_each c.args.rule.now c.requires in
    let body = only c.args.rule.now.body c.as_slice.result.now c.body-item.result c.as_slice.ensures one.0 c.body-item.is in
    let head = only c.args.rule.now.head c.as_slice-2.result.now c.head-item.result c.as_slice-2.ensures one.1 c.head-item.is in
    let shared = rw c.as_slice-3.ensures at (rw c.as_slice-4.ensures at c.in_ok-variables.ensures) in
    let keys = rw c.as_slice-5.ensures.value at c.in_ok-keys.ensures in
    let none = rw c.in-None.is at (rw c.as_slice-6.ensures.value at c.in_ok-least.ensures) in
    all_met c.args.instance.now c.args.rule.now c.body-item.result c.head-item.result body head c.in_ok-variables.variables.items shared c.in_ok-keys.keys keys none

pub returns-clause-some : goal.returns-clause-some
returns-clause-some c =
    let one = one_each c.args.rule.now c.requires in
    let body = only c.args.rule.now.body c.as_slice.result.now c.body-item.result c.as_slice.ensures one.0 c.body-item.is in
    let head = only c.args.rule.now.head c.as_slice-2.result.now c.head-item.result c.as_slice-2.ensures one.1 c.head-item.is in
    let shared = rw c.as_slice-3.ensures at (rw c.as_slice-4.ensures at c.in_ok-variables.ensures) in
    let keys = rw c.as_slice-5.ensures.value at c.in_ok-keys.ensures in
    let least = rw c.in-Some.is at (rw c.as_slice-6.ensures.value at c.in_ok-least.ensures) in
    let told : c.push.new.self ≡ c.in_ok-copy-in-Some.field-0 ∷ [] = c.in_ok-push-in-Some.ensures.ok ∙ ap (λ (z : List Fact). z ++ c.in_ok-copy-in-Some.field-0 ∷ []) c.new-facts.ensures in
    rw told (least_breaking c.args.instance.now c.args.rule.now c.body-item.result c.head-item.result body head c.in_ok-variables.variables.items shared c.in_ok-keys.keys keys c.in-Some.fact.now c.in_ok-copy-in-Some.field-0 least c.in_ok-copy-in-Some.ensures)

use Rattle.std.proofs.Common.{◌≡◌, ◌∙◌, ◌+◌, ◌<◌, ◌^◌, Some, List, map, length, slice_get, sym, ap, subst, arith}
use Rattle.std.proofs.lemmas.Option.{slice_get_within}
use Rattle.lists.proofs.Members.{some_injective}
use Rattle.meaning.specs.declared.types.Atom.{Atom}
use Rattle.meaning.specs.declared.types.Ground.{Ground}
use Rattle.meaning.specs.declared.types.Rule.{Rule}
use Rattle.meaning.specs.Added.{with_facts}
use Rattle.meaning.specs.Matching.{OccursIn}
use Rattle.meaning.specs.Triggers.{IsTrigger, LabelsBelow, assigned, ground, bound, fired}
use Rattle.meaning_laws.proofs.Carrying.{occurs_below}
use Rattle.rule_pass.proofs.Bounds.{made_below}
use Rattle.rule_pass.proofs.OnePass.{numbered_at}
use Rattle.rule_pass.proofs.firing.fire.Goals as goal

pub ground_under-requires : goal.ground_under-requires
ground_under-requires g c x occurs =
    let its : IsTrigger c.args.rules.now c.args.state.now c.args.trigger c.requires.active.0 = c.requires.active.1.trigger_is in
    let fits : c.args.trigger.rule < length c.args.rules.now = slice_get_within c.args.rules.now c.args.trigger.rule c.requires.active.0 its.numbered in
    let got : slice_get c.args.rules.now c.args.trigger.rule ≡ Some c.index-as_slice-trigger.result = numbered_at c.args.rules.now c.args.trigger.rule c.index-as_slice-trigger.result fits (rw c.as_slice.ensures at c.index-as_slice-trigger.is) in
    let one : c.requires.active.0 ≡ c.index-as_slice-trigger.result = some_injective c.requires.active.0 c.index-as_slice-trigger.result (sym its.numbered ∙ got) in
    let is : IsTrigger c.args.rules.now c.args.state.now c.args.trigger c.index-as_slice-trigger.result = subst (IsTrigger c.args.rules.now c.args.state.now c.args.trigger) one its in
    let occurring : OccursIn c.index-as_slice-trigger.result.head x = subst (λ (atoms : List Atom). OccursIn atoms x) c.as_slice-2.ensures occurs in
    let below : x < bound c.index-as_slice-trigger.result.head = occurs_below c.index-as_slice-trigger.result.head x occurring in
    let width : length c.args.trigger.values ≡ bound c.index-as_slice-trigger.result.body = is.width in
    let room : (fired c.args.state.now c.args.trigger c.index-as_slice-trigger.result).next < 2 ^ 32 = c.requires.labels c.index-as_slice-trigger.result got in
    omega arith

pub add-requires-clause-labels : goal.add-requires-clause-labels
add-requires-clause-labels g c below =
    let its : IsTrigger c.args.rules.now c.args.state.now c.args.trigger c.requires.active.0 = c.requires.active.1.trigger_is in
    let fits : c.args.trigger.rule < length c.args.rules.now = slice_get_within c.args.rules.now c.args.trigger.rule c.requires.active.0 its.numbered in
    let got : slice_get c.args.rules.now c.args.trigger.rule ≡ Some c.index-as_slice-trigger.result = numbered_at c.args.rules.now c.args.trigger.rule c.index-as_slice-trigger.result fits (rw c.as_slice.ensures at c.index-as_slice-trigger.is) in
    let one : c.requires.active.0 ≡ c.index-as_slice-trigger.result = some_injective c.requires.active.0 c.index-as_slice-trigger.result (sym its.numbered ∙ got) in
    let is : IsTrigger c.args.rules.now c.args.state.now c.args.trigger c.index-as_slice-trigger.result = subst (IsTrigger c.args.rules.now c.args.state.now c.args.trigger) one its in
    let news : c.in_ok-news.news.items ≡ map (ground (assigned c.args.trigger)) c.index-as_slice-trigger.result.head = c.in_ok-news.ensures ∙ ap (map (ground (assigned c.args.trigger))) c.as_slice-2.ensures in
    let width : c.variables_width-width.result ≡ bound c.index-as_slice-trigger.result.head = c.variables_width-width.ensures ∙ ap bound c.as_slice-3.ensures in
    let next : c.args.trigger.fresh + c.saturating_sub-labels.result ≡ (fired c.args.state.now c.args.trigger c.index-as_slice-trigger.result).next = let a = c.saturating_sub-labels.ensures in let b = c.len.ensures in let d = is.width in omega arith in
    subst (λ (facts : List Ground). LabelsBelow facts (c.args.trigger.fresh + c.saturating_sub-labels.result)) (sym news)
    (subst (LabelsBelow (map (ground (assigned c.args.trigger)) c.index-as_slice-trigger.result.head)) (sym next)
    (made_below c.args.rules.now c.args.state.now c.args.trigger c.index-as_slice-trigger.result c.requires.numbered is below))

pub returns-in-Ok-clause-fired : goal.returns-in-Ok-clause-fired
returns-in-Ok-clause-fired g c = λ rule got.
    let its : IsTrigger c.args.rules.now c.args.state.now c.args.trigger c.requires.active.0 = c.requires.active.1.trigger_is in
    let fits : c.args.trigger.rule < length c.args.rules.now = slice_get_within c.args.rules.now c.args.trigger.rule c.requires.active.0 its.numbered in
    let here : slice_get c.args.rules.now c.args.trigger.rule ≡ Some c.index-as_slice-trigger.result = numbered_at c.args.rules.now c.args.trigger.rule c.index-as_slice-trigger.result fits (rw c.as_slice.ensures at c.index-as_slice-trigger.is) in
    let one : c.index-as_slice-trigger.result ≡ rule = some_injective c.index-as_slice-trigger.result rule (sym here ∙ got) in
    let same : c.requires.active.0 ≡ rule = some_injective c.requires.active.0 rule (sym its.numbered ∙ got) in
    let is : IsTrigger c.args.rules.now c.args.state.now c.args.trigger rule = subst (IsTrigger c.args.rules.now c.args.state.now c.args.trigger) same its in
    let news : c.in_ok-news.news.items ≡ map (ground (assigned c.args.trigger)) rule.head = c.in_ok-news.ensures ∙ ap (map (ground (assigned c.args.trigger))) (c.as_slice-2.ensures ∙ ap (λ (r : Rule). r.head) one) in
    let width : c.variables_width-width.result ≡ bound rule.head = c.variables_width-width.ensures ∙ ap bound (c.as_slice-3.ensures ∙ ap (λ (r : Rule). r.head) one) in
    let next : c.args.trigger.fresh + c.saturating_sub-labels.result ≡ (fired c.args.state.now c.args.trigger rule).next = let a = c.saturating_sub-labels.ensures in let b = c.len.ensures in let d = is.width in omega arith in
    c.in-Ok.ensures.added ∙ ap (λ facts. record { facts = with_facts c.args.state.now.facts facts; next = c.args.trigger.fresh + c.saturating_sub-labels.result }) news ∙ ap (λ n. record { facts = with_facts c.args.state.now.facts (map (ground (assigned c.args.trigger)) rule.head); next = n }) next

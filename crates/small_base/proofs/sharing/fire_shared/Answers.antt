use Rattle.std.proofs.Common.{◌≡◌, ◌∙◌, ◌+◌, ◌-◌, ◌<◌, ◌≤◌, List, map, refl, sym, ap, subst, arith}
use Rattle.lists.proofs.Members.{contains_got}
use Rattle.meaning.specs.declared.types.Atom.{Atom}
use Rattle.meaning.specs.declared.types.Ground.{Ground}
use Rattle.meaning.specs.Added.{with_facts}
use Rattle.meaning.specs.Matching.{OccursIn}
use Rattle.meaning.specs.Triggers.{State, IsNumbered, LabelsBelow, assigned, ground, bound}
use Rattle.meaning_laws.proofs.Carrying.{occurs_below}
use Rattle.access_schema.specs.declared.limits.TheConstants.{MOST_VARIABLES}
use Rattle.access_schema.specs.Meaning.{meaning_of}
use Rattle.access_schema.proofs.Keeping.{rules_fit}
use Rattle.small_base.proofs.Growing.{shared_at, few_variables, shared_below, shared_grows}
use Rattle.small_base.proofs.sharing.fire_shared.Goals as goal

pub ground_under-requires : goal.ground_under-requires
ground_under-requires c x occurs =
    let rule = c.index-as_slice-trigger.result in
    let is = shared_at c.args.schema.now.rules c.args.state.now.facts c.args.trigger.now rule c.requires.trigger (rw c.as_slice.ensures at c.index-as_slice-trigger.is) in
    let below : x < bound rule.head = occurs_below rule.head x (subst (λ (atoms : List Atom). OccursIn atoms x) c.as_slice-2.ensures occurs) in
    let few : bound rule.head ≤ MOST_VARIABLES = few_variables c.args.schema.now rule (contains_got c.args.schema.now.rules c.args.trigger.now.rule rule is.numbered) in
    let low = c.requires.labels in
    omega arith

pub overflow_cast-labels : goal.overflow_cast-labels
overflow_cast-labels c =
    let rule = c.index-as_slice-trigger.result in
    let is = shared_at c.args.schema.now.rules c.args.state.now.facts c.args.trigger.now rule c.requires.trigger (rw c.as_slice.ensures at c.index-as_slice-trigger.is) in
    let few : bound rule.head ≤ MOST_VARIABLES = few_variables c.args.schema.now rule (contains_got c.args.schema.now.rules c.args.trigger.now.rule rule is.numbered) in
    let width : c.variables_width-width.result ≡ bound rule.head = c.variables_width-width.ensures ∙ ap bound c.as_slice-3.ensures in
    let labels = c.saturating_sub-labels.ensures in
    omega arith

pub overflow_add-trigger : goal.overflow_add-trigger
overflow_add-trigger c =
    let rule = c.index-as_slice-trigger.result in
    let is = shared_at c.args.schema.now.rules c.args.state.now.facts c.args.trigger.now rule c.requires.trigger (rw c.as_slice.ensures at c.index-as_slice-trigger.is) in
    let few : bound rule.head ≤ MOST_VARIABLES = few_variables c.args.schema.now rule (contains_got c.args.schema.now.rules c.args.trigger.now.rule rule is.numbered) in
    let width : c.variables_width-width.result ≡ bound rule.head = c.variables_width-width.ensures ∙ ap bound c.as_slice-3.ensures in
    let labels = c.saturating_sub-labels.ensures in
    let low = c.requires.labels in
    omega arith

pub add-requires-clause-labels : goal.add-requires-clause-labels
add-requires-clause-labels c below =
    let rule = c.index-as_slice-trigger.result in
    let is = shared_at c.args.schema.now.rules c.args.state.now.facts c.args.trigger.now rule c.requires.trigger (rw c.as_slice.ensures at c.index-as_slice-trigger.is) in
    let numbered : IsNumbered rule = (rules_fit c.args.schema.now c.args.schema.now.constants (λ t among. among)).numbered rule (contains_got c.args.schema.now.rules c.args.trigger.now.rule rule is.numbered) in
    let news : c.in_ok-news.news.items ≡ map (ground (assigned c.args.trigger.now)) rule.head = c.in_ok-news.ensures ∙ ap (map (ground (assigned c.args.trigger.now))) c.as_slice-2.ensures in
    let width : c.variables_width-width.result ≡ bound rule.head = c.variables_width-width.ensures ∙ ap bound c.as_slice-3.ensures in
    let later : c.args.state.now.next ≤ c.max-next.result = let a = c.max-next.ensures in let b = c.next.ensures.next in omega arith in
    let enough : c.args.trigger.now.fresh + (bound rule.head - bound rule.body) ≤ c.max-next.result =
    let a = c.max-next.ensures in let b = c.saturating_sub-labels.ensures in let d = c.len.ensures in let e = is.width in omega arith in
    subst (λ (facts : List Ground). LabelsBelow facts c.max-next.result) (sym news)
    (shared_below c.args.schema.now.rules c.args.state.now.facts c.args.trigger.now rule is numbered c.args.state.now.next c.max-next.result below later enough)

pub returns : goal.returns
returns c =
    let rule = c.index-as_slice-trigger.result in
    let is = shared_at c.args.schema.now.rules c.args.state.now.facts c.args.trigger.now rule c.requires.trigger (rw c.as_slice.ensures at c.index-as_slice-trigger.is) in
    let of_rules = contains_got c.args.schema.now.rules c.args.trigger.now.rule rule is.numbered in
    let fits = rules_fit c.args.schema.now c.args.schema.now.constants (λ t among. among) in
    let news : c.in_ok-news.news.items ≡ map (ground (assigned c.args.trigger.now)) rule.head = c.in_ok-news.ensures ∙ ap (map (ground (assigned c.args.trigger.now))) c.as_slice-2.ensures in
    let width : c.variables_width-width.result ≡ bound rule.head = c.variables_width-width.ensures ∙ ap bound c.as_slice-3.ensures in
    let facts : c.add.new.self.facts ≡ with_facts c.args.state.now.facts (map (ground (assigned c.args.trigger.now)) rule.head) = ap (λ (s : State). s.facts) c.in_ok-add.ensures.added ∙ ap (with_facts c.args.state.now.facts) news in
    let next : c.add.new.self.next ≡ c.max-next.result = ap (λ (s : State). s.next) c.in_ok-add.ensures.added in
    let later : c.args.state.now.next ≤ c.add.new.self.next = let a = c.max-next.ensures in let b = c.next.ensures.next in omega arith in
    let enough : c.args.trigger.now.fresh + (bound rule.head - bound rule.body) ≤ c.add.new.self.next =
    let a = c.max-next.ensures in let b = c.saturating_sub-labels.ensures in let d = c.len.ensures in let e = is.width in omega arith in
    shared_grows c.args.schema.now.rules c.args.state.now.facts c.args.trigger.now rule is (fits.numbered rule of_rules) (meaning_of c.args.schema.now) c.args.state.now c.add.new.self refl facts fits of_rules later enough

use Rattle.std.proofs.Common.{◌≡◌, ◌∙◌, ◌<◌, List, Some, length, map, sym, ap, arith}
use Rattle.std.specs.Prelude.{slice_get}
use Rattle.std.proofs.lemmas.Option.{slice_get_within}
use Rattle.std.proofs.lemmas.Result.{IfOk-weaker}
use Rattle.lists.proofs.Members.{some_injective}
use Rattle.lists.proofs.Places.{got_indexed}
use Rattle.meaning.specs.declared.types.Rule.{Rule}
use Rattle.meaning.specs.declared.types.Val.{Val}
use Rattle.meaning.specs.Added.{with_facts}
use Rattle.meaning.specs.Triggers.{assigned, ground, bound}
use Rattle.homomorphism.specs.Bindings.{at}
use Rattle.plan_extract.proofs.GoingBack.{body_at}
use Rattle.plan_extract.proofs.wanting.want_body.Goals as goal

pub facts_at-requires : goal.facts_at-requires
facts_at-requires c =
    let (rule, has) = c.requires in
    let low : c.args.trigger.now.rule < length c.args.schema.now.rules = slice_get_within c.args.schema.now.rules c.args.trigger.now.rule rule has.numbered in
    let got : slice_get c.args.schema.now.rules c.args.trigger.now.rule ≡ Some c.index-as_slice-trigger.result = got_indexed c.args.schema.now.rules c.args.trigger.now.rule c.index-as_slice-trigger.result low (rw c.as_slice.ensures at c.index-as_slice-trigger.is) in
    let one : rule ≡ c.index-as_slice-trigger.result = some_injective rule c.index-as_slice-trigger.result (sym has.numbered ∙ got) in
    let width : length c.args.trigger.now.values ≡ bound c.index-as_slice-trigger.result.body = has.width ∙ ap (λ (r : Rule). bound r.body) one in
    let atoms : bound c.as_slice-2.result.now ≡ bound c.index-as_slice-trigger.result.body = ap bound c.as_slice-2.ensures in
    let vals : length c.as_slice-3.result.now ≡ length c.args.trigger.now.values = ap length c.as_slice-3.ensures in
    omega arith

pub returns : goal.returns
returns c =
    IfOk-weaker c.add_all.result (λ _. c.add_all.new.self ≡ with_facts c.args.wanted.now c.in_ok-body.body.items)
    (λ _. (rule : Rule) → slice_get c.args.schema.now.rules c.args.trigger.now.rule ≡ Some rule → c.add_all.new.self ≡ with_facts c.args.wanted.now (map (ground (assigned c.args.trigger.now)) rule.body))
    (λ _ added rule named.
    let (other, has) = c.requires in
    let low : c.args.trigger.now.rule < length c.args.schema.now.rules = slice_get_within c.args.schema.now.rules c.args.trigger.now.rule rule named in
    let got : slice_get c.args.schema.now.rules c.args.trigger.now.rule ≡ Some c.index-as_slice-trigger.result = got_indexed c.args.schema.now.rules c.args.trigger.now.rule c.index-as_slice-trigger.result low (rw c.as_slice.ensures at c.index-as_slice-trigger.is) in
    let one : c.index-as_slice-trigger.result ≡ rule = some_injective c.index-as_slice-trigger.result rule (sym got ∙ named) in
    let same : other ≡ rule = some_injective other rule (sym has.numbered ∙ named) in
    let width : length c.args.trigger.now.values ≡ bound rule.body = has.width ∙ ap (λ (r : Rule). bound r.body) same in
    let body : c.in_ok-body.body.items ≡ map (ground (assigned c.args.trigger.now)) rule.body =
    c.in_ok-body.ensures
    ∙ ap (λ (vals : List Val). map (ground (at vals)) c.as_slice-2.result.now) c.as_slice-3.ensures
    ∙ ap (map (ground (at c.args.trigger.now.values))) (c.as_slice-2.ensures ∙ ap (λ (r : Rule). r.body) one)
    ∙ body_at c.args.trigger.now rule width in
    added ∙ ap (with_facts c.args.wanted.now) body) c.add_all.ensures.added

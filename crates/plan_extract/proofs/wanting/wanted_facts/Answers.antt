use Rattle.std.proofs.Common.{◌≡◌, ◌∙◌, ◌-◌, ◌≤◌, List, map, refl, sym, ap, subst}
use Rattle.meaning.specs.declared.types.Ground.{Ground}
use Rattle.meaning.specs.Added.{with_facts}
use Rattle.meaning.specs.Triggers.{assigned, ground}
use Rattle.access_schema.specs.Meaning.{meaning_of}
use Rattle.accessible_copy.specs.declared.entry.Sizes.{Sizes}
use Rattle.plan_extract.specs.Passes.{IsBack}
use Rattle.plan_extract.proofs.GoingBack.{back_start, back_rule, back_skip, back_keep}
use Rattle.plan_extract.proofs.wanting.wanted_facts.Goals.{then-makes_one+in_ok-want_body, else-makes_one}
use Rattle.plan_extract.proofs.wanting.wanted_facts.Goals as goal

pub loop-trigger-init : goal.loop-trigger-init
loop-trigger-init c =
    let added : c.add_all.new.self ≡ with_facts c.found_by-wanted.result c.args.atoms.items = c.in_ok-add_all.ensures.added in
    back_start (meaning_of c.args.schema.now) c.args.proof.now c.args.atoms.items c.mark-left.result.firings c.sizes-after.result.copy c.add_all.new.self c.requires.run c.requires.there c.mark-left.ensures (ap (λ (sizes : Sizes). sizes.copy) c.sizes-after.ensures)
    (added ∙ ap (λ (start : List Ground). with_facts start c.args.atoms.items) c.found_by-wanted.ensures)

pub want_body-requires : goal.want_body-requires
want_body-requires c =
    let (low, (entry, got, copies, size)) = c.in-Some.ensures.some in
    back_rule (meaning_of c.args.schema.now) c.args.proof.now c.args.atoms.items c.loop-trigger.left c.loop-trigger.after c.loop-trigger.wanted c.loop-trigger.invariant entry c.in-Some.trigger.now low got copies

pub loop-trigger-preserved : goal.loop-trigger-preserved
loop-trigger-preserved c =
    let schema = meaning_of c.args.schema.now in
    let proof = c.args.proof.now in
    let trigger = c.in-Some.trigger.now in
    let (low, (entry, got, copies, size)) = c.in-Some.ensures.some in
    elim c.if-makes_one.branch [
      | then-makes_one+in_ok-want_body w ↦
          let (rule, has) = back_rule schema proof c.args.atoms.items c.loop-trigger.left c.loop-trigger.after c.loop-trigger.wanted c.loop-trigger.invariant entry trigger low got copies in
          let added : w.want_body.new.wanted ≡ with_facts c.loop-trigger.wanted (map (ground (assigned trigger)) rule.body) = w.in_ok-want_body.ensures rule has.numbered in
          let some = w.if-makes_one.ensures.some refl in
          subst (λ (facts : List Ground). IsBack schema proof c.args.atoms.items (c.loop-trigger.left - 1) c.in-Some.before facts) (sym (w.wanted-is ∙ added))
          (subst (λ n. IsBack schema proof c.args.atoms.items (c.loop-trigger.left - 1) n (with_facts c.loop-trigger.wanted (map (ground (assigned trigger)) rule.body))) size
          (back_keep schema proof c.args.atoms.items c.loop-trigger.left c.loop-trigger.after c.loop-trigger.wanted c.loop-trigger.invariant entry trigger low got copies rule has.numbered
          (some.0, some.1, subst (λ n. n ≤ some.0) (sym size) some.2, some.3, some.4, some.5)))
      | else-makes_one w ↦
          subst (λ (facts : List Ground). IsBack schema proof c.args.atoms.items (c.loop-trigger.left - 1) c.in-Some.before facts) (sym w.wanted-is)
          (subst (λ n. IsBack schema proof c.args.atoms.items (c.loop-trigger.left - 1) n c.loop-trigger.wanted) size
          (back_skip schema proof c.args.atoms.items c.loop-trigger.left c.loop-trigger.after c.loop-trigger.wanted c.loop-trigger.invariant entry trigger low got copies
          (λ number fact high. w.if-makes_one.ensures.none refl number fact (subst (λ n. n ≤ number) size high))))
    ]

pub returns : goal.returns
returns c = record { left = c.loop-trigger.left; after = c.loop-trigger.after; back = c.loop-trigger.invariant; early = c.in_default.ensures.none }

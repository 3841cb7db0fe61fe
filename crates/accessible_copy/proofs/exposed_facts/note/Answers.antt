use Rattle.std.proofs.Common.{◌≡◌, ◌≢◌, ◌++◌, ◌∷◌, [], List, Ok, true, false, length, refl, sym, ap, subst, ◌∙◌, rules, arith}
use Rattle.std.specs.Prelude.{Contains, slice_index}
use Rattle.std.proofs.lemmas.Option.{slice_get_within}
use Rattle.meaning.specs.declared.types.Ground.{Ground}
use Rattle.meaning.specs.Added.{with_fact}
use Rattle.meaning_laws.proofs.Added.{with_new}
use Rattle.accessible_copy.proofs.Others.{others_within, others_first, others_more, indexed_as}
use Rattle.accessible_copy.proofs.exposed_facts.note.Goals as goal

pub returns-then-branch-clause-noted : goal.returns-then-branch-clause-noted
returns-then-branch-clause-noted c = λ are new.
    let facts = c.args.facts.now in
    let fact = c.args.fact.now in
    let firsts = c.note_relation.new.firsts.items in
    let told : c.note_relation.result ≡ Ok true = search rules in
    let kept = indexed_as facts c.args.firsts.now.items firsts c.args.others.now are (c.note_relation.ensures.kept are.0) (λ n one got. c.note_relation.ensures.same n one are.0 got) in
    (c.in_ok-note_relation.ensures.next are.0 fact refl, kept.1 ∙ sym (others_first firsts facts fact (c.note_relation.ensures.first told)))

pub returns-clause-noted : goal.returns-clause-noted
returns-clause-noted c = λ are new.
    let facts = c.args.facts.now in
    let fact = c.args.fact.now in
    let firsts = c.note_relation.new.firsts.items in
    let others = c.args.others.now in
    let told : c.note_relation.result ≡ Ok false = search rules in
    let kept = indexed_as facts c.args.firsts.now.items firsts others are (c.note_relation.ensures.kept are.0) (λ n one got. c.note_relation.ensures.same n one are.0 got) in
    let not : Contains others fact → ⊥ = λ h. new (others_within 0 firsts facts fact (subst (λ (l : List Ground). Contains l fact) kept.1 h)) in
    let inserted : c.insert.new.self ≡ with_fact others fact = search rules in
    let apart : slice_index firsts fact.rel ≢ length facts = λ e.
    let (one, at, of) = c.note_relation.ensures.other told in
    let within = slice_get_within facts (slice_index firsts fact.rel) one at in
    omega arith in
    (c.in_ok-note_relation.ensures.next are.0 fact refl, inserted ∙ with_new others fact not ∙ ap (λ (l : List Ground). l ++ fact ∷ []) kept.1 ∙ sym (others_more firsts facts fact apart))

pub returns-in_err-note_relation-clause-kept : goal.returns-in_err-note_relation-clause-kept
returns-in_err-note_relation-clause-kept c = λ are. indexed_as c.args.facts.now c.args.firsts.now.items c.note_relation.new.firsts.items c.args.others.now are (c.note_relation.ensures.kept are.0) (λ n fact got. c.note_relation.ensures.same n fact are.0 got)

pub returns-then-branch-clause-kept : goal.returns-then-branch-clause-kept
returns-then-branch-clause-kept c = λ are. indexed_as c.args.facts.now c.args.firsts.now.items c.note_relation.new.firsts.items c.args.others.now are (c.note_relation.ensures.kept are.0) (λ n fact got. c.note_relation.ensures.same n fact are.0 got)

pub returns-in_err-copy-clause-kept : goal.returns-in_err-copy-clause-kept
returns-in_err-copy-clause-kept c = λ are. indexed_as c.args.facts.now c.args.firsts.now.items c.note_relation.new.firsts.items c.args.others.now are (c.note_relation.ensures.kept are.0) (λ n fact got. c.note_relation.ensures.same n fact are.0 got)

pub returns-in_err-insert-clause-kept : goal.returns-in_err-insert-clause-kept
returns-in_err-insert-clause-kept c = λ are. indexed_as c.args.facts.now c.args.firsts.now.items c.note_relation.new.firsts.items c.args.others.now are (c.note_relation.ensures.kept are.0) (λ n fact got. c.note_relation.ensures.same n fact are.0 got)

pub returns-clause-kept : goal.returns-clause-kept
returns-clause-kept c = λ are. indexed_as c.args.facts.now c.args.firsts.now.items c.note_relation.new.firsts.items c.args.others.now are (c.note_relation.ensures.kept are.0) (λ n fact got. c.note_relation.ensures.same n fact are.0 got)

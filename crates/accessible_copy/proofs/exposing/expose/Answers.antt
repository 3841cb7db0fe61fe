use Rattle.std.proofs.Common.{◌≡◌, length, sym, ap, ◌∙◌, subst}
use Rattle.access_schema.specs.Meaning.{meaning_of}
use Rattle.accessible_copy.specs.Known.{known_values, facts_of}
use Rattle.accessible_copy.specs.Proving.{Proving, IsProofOf, IsOrdered}
use Rattle.accessible_copy.specs.Exposing.{with_exposure}
use Rattle.accessible_copy.proofs.ExposureEntries.{exposed_proof, exposed_ordered}
use Rattle.accessible_copy.proofs.OpenAfter.{kept_before}
use Rattle.accessible_copy.proofs.exposing.expose.Goals as goal

pub followed-kept-requires : goal.followed-kept-requires
followed-kept-requires c =
    let made : c.add_exposure.new.proof ≡ with_exposure c.args.proof.now c.args.method c.args.fact.now =
    c.in-Ok.ensures.exposed ∙ ap (λ (p : Proving). with_exposure p c.args.method c.args.fact.now) c.taken_open-kept.ensures.same in
    let wide : c.width-width.result ≡ length (known_values c.args.proof.now.constants (facts_of c.args.proof.now.exposed)) =
    subst (λ (p : Proving). c.width-width.result ≡ length (known_values p.constants (facts_of p.exposed))) c.proof.view_is c.width-width.ensures in
    kept_before c.taken_open-kept.result c.args.proof.now c.add_exposure.new.proof c.args.method c.args.fact.now c.width-width.result made wide c.taken_open-kept.ensures.kept

pub returns-in-Ok-clause-run : goal.returns-in-Ok-clause-run
returns-in-Ok-clause-run c =
    let (of, active) = c.requires.active in
    let made : c.add_exposure.new.proof ≡ with_exposure c.args.proof.now c.args.method c.args.fact.now =
    c.in-Ok.ensures.exposed ∙ ap (λ (p : Proving). with_exposure p c.args.method c.args.fact.now) c.taken_open-kept.ensures.same in
    subst (IsProofOf (meaning_of c.args.schema.now)) (sym (c.proof-2.view_is ∙ made))
    (exposed_proof (meaning_of c.args.schema.now) c.args.proof.now c.args.method c.args.fact.now of c.requires.run active c.requires.part c.requires.quiet)

pub returns-in-Ok-clause-ordered : goal.returns-in-Ok-clause-ordered
returns-in-Ok-clause-ordered c = λ run.
    let (of, active) = c.requires.active in
    let made : c.add_exposure.new.proof ≡ with_exposure c.args.proof.now c.args.method c.args.fact.now =
    c.in-Ok.ensures.exposed ∙ ap (λ (p : Proving). with_exposure p c.args.method c.args.fact.now) c.taken_open-kept.ensures.same in
    subst (IsOrdered (meaning_of c.args.schema.now)) (sym (c.proof-2.view_is ∙ made))
    (exposed_ordered (meaning_of c.args.schema.now) c.args.proof.now c.args.method c.args.fact.now of c.requires.run active c.requires.part c.requires.quiet run)

use Rattle.std.proofs.Common.{◌≡◌, ◌≤◌, [], ◌∷◌, ◌++◌, length, sym, ◌∙◌, subst, arith}
use Rattle.std.specs.Prelude.{Contains}
use Rattle.std.proofs.lemmas.List.Elements.{Contains-push}
use Rattle.meaning.specs.declared.types.Ground.{Ground}
use Rattle.access_schema.specs.Meaning.{meaning_of}
use Rattle.homomorphism.proofs.Covering.{denied}
use Rattle.accessible_copy.specs.Proving.{Proving}
use Rattle.accessible_copy.proofs.Listed.{fact_is}
use Rattle.accessible_copy.proofs.Pushing.{goes_expose}
use Rattle.accessible_copy.proofs.rounds.expose_once.Goals as goal

pub returns-then-firings-budget-clause-spent : goal.returns-then-firings-budget-clause-spent
returns-then-firings-budget-clause-spent c = λ e.
    let not : Contains c.args.proof.now.end.exposed c.in-Expose.fact → ⊥ = λ h. denied _ c.has.ensures c.if-has.false (subst (λ (p : Proving). Contains p.end.exposed c.in-Expose.fact) (sym c.proof.view_is) h) in
    let long : c.args.budget ≤ length c.args.proof.now.entries = subst (λ (p : Proving). c.args.budget ≤ length p.entries) c.proof.view_is (let n = c.firings.ensures in let t = c.if-firings-budget.true in omega arith) in
    (long, goes_expose (meaning_of c.args.schema.now) c.args.proof.now c.requires.run c.requires.ordered c.requires.quiet c.in-Expose.method c.in-Expose.fact (c.requires.active c.in-Expose.method c.in-Expose.fact c.in-Expose.is not))

pub returns-clause-shown : goal.returns-clause-shown
returns-clause-shown c = λ e number fact same.
    let fact_same : c.in-Expose.fact ≡ fact = fact_is c.in-Expose.method number c.in-Expose.fact fact (sym c.in-Expose.is ∙ same) in
    subst (λ (p : Proving). Contains p.end.exposed fact) (sym c.in_ok-expose.ensures.exposed)
    (subst (λ (f : Ground). Contains (c.args.proof.now.end.exposed ++ c.in-Expose.fact ∷ []) f) fact_same (Contains-push c.args.proof.now.end.exposed c.in-Expose.fact))

use Rattle.std.proofs.Common.{◌≡◌, ◌≤◌, Ok, length, ap, ◌∙◌, subst}
use Rattle.meaning.specs.Runs.{opening}
use Rattle.access_schema.specs.Meaning.{meaning_of}
use Rattle.accessible_copy.specs.Proving.{Proving}
use Rattle.exposure_search.specs.Making.{IsBaseProof}
use Rattle.exposure_search.specs.Exploring.{IsRunBeyond}
use Rattle.exposure_search.proofs.Settled.{kept_some, kept_none}
use Rattle.exposure_search.proofs.founding.base_proof.Goals as goal

pub returns-clause-base : goal.returns-clause-base
returns-clause-base c =
    rw c.then_some.ensures (kept_some c.in-Ok.quiet c.fire_base.new.proof (λ (proof : Proving). IsBaseProof (meaning_of c.args.schema.now) proof) (λ on. c.in-Ok.ensures.quiet (ap (λ b. Ok b) on)))

pub returns-clause-start : goal.returns-clause-start
returns-clause-start c =
    rw c.then_some.ensures (kept_some c.in-Ok.quiet c.fire_base.new.proof (λ (proof : Proving). proof.start ≡ opening c.args.query.now) (λ on. c.in-Ok.ensures.start ∙ c.in_ok-proof.ensures.start))

pub returns-clause-constants : goal.returns-clause-constants
returns-clause-constants c =
    rw c.then_some.ensures (kept_some c.in-Ok.quiet c.fire_base.new.proof (λ (proof : Proving). proof.constants ≡ c.args.known.now) (λ on. c.in-Ok.ensures.constants ∙ c.in_ok-proof.ensures.constants))

pub returns-clause-few : goal.returns-clause-few
returns-clause-few c =
    rw c.then_some.ensures (kept_some c.in-Ok.quiet c.fire_base.new.proof (λ (proof : Proving). length proof.entries ≤ c.args.budget) (λ on. c.in-Ok.ensures.few))

pub returns-clause-none : goal.returns-clause-none
returns-clause-none c =
    rw c.then_some.ensures (kept_none c.in-Ok.quiet c.fire_base.new.proof _ (λ off.
    subst (λ start. IsRunBeyond (meaning_of c.args.schema.now) c.args.known.now start c.args.budget) c.in_ok-proof.ensures.start
    (subst (λ known. IsRunBeyond (meaning_of c.args.schema.now) known c.in_ok-proof.proof.start c.args.budget) c.in_ok-proof.ensures.constants (c.in-Ok.ensures.spent (ap (λ b. Ok b) off)))))

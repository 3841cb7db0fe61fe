use Rattle.std.proofs.Common.{inr, sym, ◌∙◌, subst, ⊎_elim}
use Rattle.std.specs.Prelude.{Contains}
use Rattle.lists.proofs.Members.{some_injective}
use Rattle.meaning.specs.declared.types.Ground.{Ground}
use Rattle.homomorphism.proofs.Covering.{denied}
use Rattle.accessible_copy.proofs.Listed.{known_from}
use Rattle.exposure_search.proofs.listing.gains.Goals as goal

pub returns-then-not-is_marked-clause-yes : goal.returns-then-not-is_marked-clause-yes
returns-then-not-is_marked-clause-yes c e among =
    let (v, has, new) = c.has_unknown.ensures.yes e in
    new (known_from c.args.proof.now.constants c.args.proof.now.end.exposed v (inr (c.args.fact.now, among, subst (λ vs. Contains vs v) c.as_slice.ensures has)))

pub returns-then-not-is_marked-clause-no : goal.returns-then-not-is_marked-clause-no
returns-then-not-is_marked-clause-no c e fresh adds =
    ⊎_elim (λ on. denied _ c.is_marked.ensures c.if-not-is_marked.true on)
    (λ (fact, v, at, has, new). new (c.has_unknown.ensures.no e v (subst (λ vs. Contains vs v) (sym c.as_slice.ensures) (subst (λ (f : Ground). Contains f.vals v) (some_injective fact c.args.fact.now (sym at ∙ c.requires)) has))))
    adds

pub returns-then-has_exposed-clause-no : goal.returns-then-has_exposed-clause-no
returns-then-has_exposed-clause-no c e fresh adds = fresh (c.has_exposed.ensures.0 c.if-has_exposed.true)

pub returns-clause-yes : goal.returns-clause-yes
returns-clause-yes c e among = denied _ c.has_exposed.ensures c.if-has_exposed.false among

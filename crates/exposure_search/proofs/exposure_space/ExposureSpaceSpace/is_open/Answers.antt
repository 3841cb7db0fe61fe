use Rattle.std.proofs.Common.{◌≡◌, ◌↔◌, ◌∙◌, List, sym, subst}
use Rattle.std.specs.Prelude.{IsTrue}
use Rattle.meaning.specs.declared.types.Ground.{Ground}
use Rattle.access_schema.specs.Meaning.{meaning_of}
use Rattle.least_search.specs.Walks.{no_facts}
use Rattle.exposure_search.specs.declared.candidates.Candidate.{Candidate}
use Rattle.exposure_search.specs.Ahead.{facts_along}
use Rattle.exposure_search.specs.Candidates.{AreCandidates, IsOpenFrom}
use Rattle.exposure_search.specs.Exploring.{space_size, CanExpose}
use Rattle.exposure_search.specs.Aims.{space_of, LeadsTo}
use Rattle.exposure_search.specs.Spaces.{open_walk}
use Rattle.exposure_search.proofs.Early.{open_along}
use Rattle.exposure_search.proofs.exposure_space.ExposureSpaceSpace.is_open.Goals as goal

pub returns : goal.returns
returns c =
    let aim = c.self.inside.aim in
    let proof = c.self.inside.proof in
    let ready = c.self.invariant.ready in
    let path = c.args.path.now in
    let set = c.args.set.now in
    let step = c.args.step.now in
    let walk : LeadsTo (space_of aim proof) path set = subst (λ s. LeadsTo s path set) (sym c.self.view_is) (open_walk c.args.self.now path (no_facts (space_size c.args.self.now)) set c.requires) in
    let are : AreCandidates aim.schema.now.methods proof.constants proof.end.base aim.marks aim.candidates.items =
    subst (λ (facts : List Ground). AreCandidates aim.schema.now.methods proof.constants facts aim.marks aim.candidates.items) ready.facts_are c.self.invariant.candidates in
    let facts : c.as_slice-2.result.now ≡ proof.end.base = c.as_slice-2.ensures.value ∙ ready.facts_are in
    let said : IsTrue c.is_open.result ↔ IsOpenFrom (facts_along proof.end.base path) set aim.candidates.items step =
    subst (λ (base : List Ground). IsTrue c.is_open.result ↔ IsOpenFrom (facts_along base path) set aim.candidates.items step) facts
    (subst (λ (candidates : List Candidate). IsTrue c.is_open.result ↔ IsOpenFrom (facts_along c.as_slice-2.result.now path) set candidates step) c.as_slice.ensures.value c.is_open.ensures) in
    let open' = open_along (meaning_of aim.schema.now) proof path set walk ready.exposes.run aim.marks aim.candidates.items are step in (
      (λ yes'. subst (λ s. CanExpose s set step) c.self.view_is (open'.0 (said.0 yes'))),
      (λ can. said.1 (open'.1 (subst (λ s. CanExpose s set step) (sym c.self.view_is) can))),
    )

use Rattle.std.proofs.Common.{◌≡◌, ◌∙◌, List, map, sym, ap, subst}
use Rattle.std.specs.Prelude.{Contains}
use Rattle.std.proofs.lemmas.Result.{IfOk-weaker}
use Rattle.meaning.specs.declared.types.Ground.{Ground}
use Rattle.access_schema.specs.Meaning.{meaning_of}
use Rattle.least_search.specs.declared.space.Move.{Move}
use Rattle.exposure_search.specs.declared.candidates.Candidate.{Candidate}
use Rattle.exposure_search.specs.Candidates.{AreCandidates}
use Rattle.exposure_search.specs.Exploring.{CanExpose}
use Rattle.exposure_search.proofs.Opened.{among_moves}
use Rattle.exposure_search.proofs.exposure_space.ExposureSpaceSpace.candidates.Goals as goal

pub returns : goal.returns
returns c =
    let aim = c.self.inside.aim in
    let proof = c.self.inside.proof in
    let ready = c.self.invariant.ready in
    let are : AreCandidates aim.schema.now.methods proof.constants proof.end.base aim.marks aim.candidates.items =
    subst (λ (facts : List Ground). AreCandidates aim.schema.now.methods proof.constants facts aim.marks aim.candidates.items) ready.facts_are c.self.invariant.candidates in
    IfOk-weaker c.candidate_moves.result _ _ (λ moves is set move can.
    let all : moves.items ≡ map (λ (candidate : Candidate). candidate.step) aim.candidates.items = is ∙ ap (λ (candidates : List Candidate). map (λ (candidate : Candidate). candidate.step) candidates) c.as_slice.ensures.value in
    subst (λ (list : List Move). Contains list move) (sym all)
    (among_moves (meaning_of aim.schema.now) proof ready.exposes.run aim.marks aim.candidates.items are set move (subst (λ s. CanExpose s set move) (sym c.self.view_is) can))) c.candidate_moves.ensures

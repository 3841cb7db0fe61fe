use Rattle.std.proofs.Common.{◌≡◌, ◌<◌, List, Bool, length, ap, ◌∙◌, subst, arith}
use Rattle.std.specs.Prelude.{Contains}
use Rattle.std.proofs.lemmas.Option.{slice_get_within}
use Rattle.meaning.specs.declared.types.Ground.{Ground}
use Rattle.access_schema.specs.Meaning.{meaning_of}
use Rattle.exposure_search.specs.declared.candidates.Candidate.{Candidate}
use Rattle.exposure_search.specs.Ahead.{AreTheMarked}
use Rattle.exposure_search.specs.Candidates.{AreCandidates, IsCandidateIndex}
use Rattle.exposure_search.proofs.Explored.{begins_only, begins_bare, begins_long}
use Rattle.exposure_search.proofs.aiming.Aim.of.Goals as goal

pub relevant_facts-requires-clause-none : goal.relevant_facts-requires-clause-none
relevant_facts-requires-clause-none c = begins_bare (meaning_of c.args.schema.now) c.args.proof.now c.requires.base

pub candidates_of-requires-clause-none : goal.candidates_of-requires-clause-none
candidates_of-requires-clause-none c = begins_bare (meaning_of c.args.schema.now) c.args.proof.now c.requires.base

pub of-requires-2 : goal.of-requires-2
of-requires-2 c candidate among =
    let its = c.in_ok-candidates.ensures.each candidate (subst (λ (candidates : List Candidate). Contains candidates candidate) c.as_slice-4.ensures.value among) in
    let low : candidate.step.fact < length c.as_slice-3.result.now = slice_get_within c.as_slice-3.result.now candidate.step.fact its.fact its.at in
    let long : length c.as_slice-3.result.now ≡ length c.in_ok-facts.facts.items = ap length c.as_slice-3.ensures.value in
    let count = c.len.ensures in
    omega arith

pub returns-clause-aimed : goal.returns-clause-aimed
returns-clause-aimed c = record {
  ready = record {
    exposes = begins_only (meaning_of c.args.schema.now) c.args.proof.now c.requires.base;
    facts_are = c.in_ok-facts.ensures;
    methods_are = c.in_ok-methods.ensures;
    bases_are = c.mark-bases.ensures ∙ begins_long (meaning_of c.args.schema.now) c.args.proof.now c.requires.base;
    counted = c.requires.counted;
    few = c.requires.few;
    low = c.requires.budget;
    relevant = c.in_ok-marks.ensures;
  };
  makers = subst (λ (marks : List Bool). AreTheMarked marks c.in_ok-makers.makers.items) c.as_slice-2.ensures.value c.in_ok-makers.ensures;
  candidates = subst (λ (facts : List Ground). AreCandidates c.args.schema.now.methods c.args.proof.now.constants facts c.in_ok-marks.marks c.in_ok-candidates.candidates.items) c.as_slice-3.ensures.value c.in_ok-candidates.ensures;
  named = c.requires.named;
  index = subst (λ (candidates : List Candidate). IsCandidateIndex candidates c.in_ok-index.index) c.as_slice-4.ensures.value c.in_ok-index.ensures;
}

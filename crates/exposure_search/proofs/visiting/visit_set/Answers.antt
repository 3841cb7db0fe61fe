use Rattle.std.proofs.Common.{List, ℕ, Ok, ap, subst, arith}
use Rattle.meaning.specs.declared.types.Ground.{Ground}
use Rattle.meaning.specs.declared.types.Rule.{Rule}
use Rattle.access_schema.specs.Meaning.{meaning_of}
use Rattle.exposure_search.specs.declared.candidates.Candidate.{Candidate}
use Rattle.exposure_search.specs.Ahead.{CannotFire, facts_along}
use Rattle.exposure_search.specs.Candidates.{AreCandidates, AreMovesFrom}
use Rattle.exposure_search.proofs.Missing.{cannot_make}
use Rattle.exposure_search.proofs.Early.{bare_end, bare_moves}
use Rattle.exposure_search.proofs.visiting.visit_set.Goals as goal

pub is_bare-requires-clause-still : goal.is_bare-requires-clause-still
is_bare-requires-clause-still c off =
    cannot_make c.args.aim.now.schema.now.rules c.args.aim.now.marks.makers.items c.args.aim.now.makers.items (facts_along c.args.aim.now.facts.items c.args.path.now) c.requires.aimed.makers
    (subst (λ (facts : List Ground). CannotFire c.args.aim.now.schema.now.rules c.args.aim.now.makers.items (facts_along facts c.args.path.now)) c.as_slice-3.ensures.value
    (subst (λ (makers : List ℕ). CannotFire c.args.aim.now.schema.now.rules makers (facts_along c.as_slice-3.result.now c.args.path.now)) c.as_slice-2.ensures.value
    (subst (λ (rules : List Rule). CannotFire rules c.as_slice-2.result.now (facts_along c.as_slice-3.result.now c.args.path.now)) c.as_slice.ensures (c.may_fire-fires.ensures off))))

pub visit_copy-requires-clause-still : goal.visit_copy-requires-clause-still
visit_copy-requires-clause-still c off =
    cannot_make c.args.aim.now.schema.now.rules c.args.aim.now.marks.makers.items c.args.aim.now.makers.items (facts_along c.args.aim.now.facts.items c.args.path.now) c.requires.aimed.makers
    (subst (λ (facts : List Ground). CannotFire c.args.aim.now.schema.now.rules c.args.aim.now.makers.items (facts_along facts c.args.path.now)) c.as_slice-3.ensures.value
    (subst (λ (makers : List ℕ). CannotFire c.args.aim.now.schema.now.rules makers (facts_along c.as_slice-3.result.now c.args.path.now)) c.as_slice-2.ensures.value
    (subst (λ (rules : List Rule). CannotFire rules c.as_slice-2.result.now (facts_along c.as_slice-3.result.now c.args.path.now)) c.as_slice.ensures (c.may_fire-fires.ensures off))))

pub returns-clause-visit : goal.returns-clause-visit
returns-clause-visit c = record {
  ended = bare_end (meaning_of c.args.aim.now.schema.now) c.args.proof.now c.args.path.now c.args.set.now c.requires.walk c.args.aim.now.queries.now c.args.aim.now.head.now c.args.aim.now.budget c.args.aim.now.marks
      (c.in_ok-is_bare.ensures (ap Ok c.if-not-branch.false));
  few = omega arith;
  spent = λ e. absurd (cc);
  moves = bare_moves (meaning_of c.args.aim.now.schema.now) c.args.proof.now c.args.path.now c.args.set.now c.requires.walk c.args.aim.now.queries.now c.args.aim.now.head.now c.args.aim.now.budget c.args.aim.now.marks c.requires.aimed.ready.exposes.run
      c.args.aim.now.candidates.items c.args.below c.in_ok-moves.moves.items
      (subst (λ (facts : List Ground). AreCandidates c.args.aim.now.schema.now.methods c.args.proof.now.constants facts c.args.aim.now.marks c.args.aim.now.candidates.items) c.requires.aimed.ready.facts_are c.requires.aimed.candidates)
      (subst (λ (facts : List Ground). AreMovesFrom (facts_along facts c.args.path.now) c.args.set.now c.args.below c.args.aim.now.candidates.items c.in_ok-moves.moves.items) c.requires.aimed.ready.facts_are
      (subst (λ (facts : List Ground). AreMovesFrom (facts_along facts c.args.path.now) c.args.set.now c.args.below c.args.aim.now.candidates.items c.in_ok-moves.moves.items) c.as_slice-5.ensures.value
      (subst (λ (candidates : List Candidate). AreMovesFrom (facts_along c.as_slice-5.result.now c.args.path.now) c.args.set.now c.args.below candidates c.in_ok-moves.moves.items) c.as_slice-4.ensures.value c.in_ok-moves.ensures)));
}

use Rattle.std.proofs.Common.{◌≡◌, ◌+◌, ◌++◌, ◌∷◌, [], List, ℕ, take, sym, subst}
use Rattle.std.specs.Prelude.{Contains, slice_index}
use Rattle.std.proofs.lemmas.List.{take_more, take_all}
use Rattle.accessible_copy.proofs.Listed.{at_index}
use Rattle.exposure_search.proofs.MovesFrom.{added_more, added_less}
use Rattle.exposure_search.proofs.candidates.add_candidates.Goals as goal
use Rattle.exposure_search.proofs.candidates.add_candidates.Goals.{in-Some+in_ok-push, in_default}

pub candidate_of-requires-clause-named : goal.candidate_of-requires-clause-named
candidate_of-requires-clause-named c = c.requires.named (slice_index c.args.numbers.now c.loop-number.number-index) (at_index c.args.numbers.now c.loop-number.number-index c.loop-number-test.true)

pub loop-number-preserved : goal.loop-number-preserved
loop-number-preserved c =
    let number = slice_index c.args.numbers.now c.loop-number.number-index in
    let turn : take (c.loop-number.number-index + 1) c.args.numbers.now ≡ take c.loop-number.number-index c.args.numbers.now ++ number ∷ [] = take_more c.args.numbers.now c.loop-number.number-index 0 c.loop-number-test.true in
    elim c.match-branch-2.branch [
      | in-Some+in_ok-push w ↦
          let is = rw w.in-Some.is at c.in_ok-candidate.ensures.is in
          let step = rw w.in-Some.is at c.in_ok-candidate.ensures.step in
          rw (w.candidates-is, turn, w.in_ok-push.ensures.items) (added_more c.args.schema.now.methods c.args.proof.now.constants c.args.place c.args.fact.now c.args.needed c.args.candidates.now.items
          (take c.loop-number.number-index c.args.numbers.now) c.loop-number.candidates.items c.loop-number.invariant number w.in-Some.candidate is step)
      | in_default w ↦
          let none = rw w.in_default.is at c.in_ok-candidate.ensures.none in
          rw (w.candidates-is, turn) (added_less c.args.schema.now.methods c.args.proof.now.constants c.args.place c.args.fact.now c.args.needed c.args.candidates.now.items
          (take c.loop-number.number-index c.args.numbers.now) c.loop-number.candidates.items c.loop-number.invariant number none)
    ]

pub returns-clause-all : goal.returns-clause-all
returns-clause-all c number method exposed among =
    c.loop-number.invariant.all number method exposed (subst (λ (numbers : List ℕ). Contains numbers number) (sym (take_all c.loop-number.number-index c.args.numbers.now c.loop-number-test.false)) among)

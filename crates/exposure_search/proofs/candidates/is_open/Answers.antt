use Rattle.std.proofs.Common.{◌≡◌, ◌≤◌, ◌∙◌, ℕ, List, Some, length, sym, subst, arith}
use Rattle.std.specs.Prelude.{Contains, slice_get, slice_index}
use Rattle.std.proofs.lemmas.List.{take_all}
use Rattle.std.proofs.lemmas.Option.{slice_get_within, slice_get-get_or}
use Rattle.lists.proofs.Booleans.{test_holds, test_fails}
use Rattle.lists.proofs.Members.{contains_got, some_injective}
use Rattle.lists.proofs.Places.{got_indexed, got_member}
use Rattle.homomorphism.proofs.Covering.{told, denied}
use Rattle.least_search.specs.declared.space.Move.{Move}
use Rattle.exposure_search.specs.declared.candidates.Candidate.{Candidate}
use Rattle.exposure_search.specs.Ahead.{facts_along}
use Rattle.exposure_search.specs.Candidates.{numbers_of, IsMoveOf}
use Rattle.exposure_search.proofs.Wanting.{front_each}
use Rattle.exposure_search.proofs.candidates.is_open.Goals as goal
use Rattle.exposure_search.proofs.candidates.is_open.Goals.{in-Some+else-is_move_of, in_default}

pub returns-then-is_move_of : goal.returns-then-is_move_of
returns-then-is_move_of c =
    let number = slice_index c.numbers-numbers.result.now c.loop-number.number-index in
    let at : slice_get c.args.candidates.now number ≡ Some c.in-Some.candidate.now = got_indexed c.args.candidates.now number c.in-Some.candidate.now c.in-Some.ensures.lookup.3.0 c.in-Some.ensures.lookup.1 in
    test_holds (record {
      lacks = told _ c.is_clear.ensures c.if-not-is_clear.false;
      candidate = c.in-Some.candidate.now;
      among = contains_got c.args.candidates.now number c.in-Some.candidate.now at;
      its = told _ c.is_move_of.ensures c.if-is_move_of.true;
    })

pub loop-number-preserved : goal.loop-number-preserved
loop-number-preserved c =
    let facts = facts_along c.args.facts.now c.args.path.now in
    let candidates = c.args.candidates.now in
    let number = slice_index c.numbers-numbers.result.now c.loop-number.number-index in
    front_each (λ (k : ℕ). (candidate : Candidate) → slice_get candidates k ≡ Some candidate → IsMoveOf facts c.args.step.now candidate → ⊥) c.numbers-numbers.result.now c.loop-number.number-index number
    (slice_get-get_or c.numbers-numbers.result.now c.loop-number.number-index 0 c.loop-number-test.true) c.loop-number.invariant
    (λ candidate at its. elim c.match-get.branch [
      | in-Some+else-is_move_of w ↦
          let got : slice_get candidates number ≡ Some w.in-Some.candidate.now = got_indexed candidates number w.in-Some.candidate.now w.in-Some.ensures.lookup.3.0 w.in-Some.ensures.lookup.1 in
          denied _ w.is_move_of.ensures w.if-is_move_of.false (subst (λ one. IsMoveOf facts c.args.step.now one) (some_injective candidate w.in-Some.candidate.now (sym at ∙ got)) its)
      | in_default w ↦
          let past : length candidates ≤ number = w.in_default.ensures.lookup.3 in
          let low = slice_get_within candidates number candidate at in
          absurd (omega arith)
    ])

pub returns : goal.returns
returns c =
    let numbers = c.numbers-numbers.result.now in
    test_fails (λ from.
    let (number, at) = got_member c.args.candidates.now from.candidate from.among in
    let there : Contains (numbers_of c.args.index.now c.args.step.now.fact) number = subst (λ (step : Move). Contains (numbers_of c.args.index.now step.fact) number) from.its.step (c.requires number from.candidate at) in
    let seen : Contains numbers number = subst (λ (l : List ℕ). Contains l number) (sym c.numbers-numbers.ensures) there in
    c.loop-number.invariant number (subst (λ (l : List ℕ). Contains l number) (sym (take_all c.loop-number.number-index numbers c.loop-number-test.false)) seen) from.candidate at from.its)

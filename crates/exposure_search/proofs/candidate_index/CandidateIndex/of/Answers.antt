use Rattle.std.proofs.Common.{◌≡◌, List, ◌+◌, ◌++◌, ◌∷◌, [], ◌≤◌, ◌∙◌, Some, length, take, subst, sym, arith}
use Rattle.std.specs.Prelude.{slice_get}
use Rattle.std.proofs.lemmas.List.{length-take-le, take_all}
use Rattle.lists.proofs.Members.{contains_got}
use Rattle.lists.proofs.Places.{take_got, got_indexed}
use Rattle.exposure_search.specs.declared.candidates.Candidate.{Candidate}
use Rattle.exposure_search.specs.Candidates.{numbers_of}
use Rattle.exposure_search.proofs.CandidateLists.{index_more}
use Rattle.exposure_search.proofs.candidate_index.CandidateIndex.of.Goals as goal

pub note-requires : goal.note-requires
note-requires c =
    let at : slice_get c.args.candidates.now c.loop-number.number ≡ Some c.index-candidates-number.result = got_indexed c.args.candidates.now c.loop-number.number c.index-candidates-number.result c.loop-number-test.true c.index-candidates-number.is in
    let low = c.requires c.index-candidates-number.result (contains_got c.args.candidates.now c.loop-number.number c.index-candidates-number.result at) in
    let long = c.loop-number.invariant.1 in
    omega arith

pub loop-number-preserved : goal.loop-number-preserved
loop-number-preserved c =
    let candidate = c.index-candidates-number.result in
    let number = c.loop-number.number in
    let here : slice_get c.args.candidates.now number ≡ Some candidate = got_indexed c.args.candidates.now number candidate c.loop-number-test.true c.index-candidates-number.is in
    let turn : take (number + 1) c.args.candidates.now ≡ take number c.args.candidates.now ++ candidate ∷ [] = take_got c.args.candidates.now number candidate here in
    let low : number ≤ length c.args.candidates.now = (let t = c.loop-number-test.true in omega arith) in
    let long : number ≡ length (take number c.args.candidates.now) = sym (length-take-le number c.args.candidates.now low) in (
      rw turn
          (index_more (take number c.args.candidates.now) candidate c.loop-number.numbers.items c.note.new.lists.items c.loop-number.invariant.0
          (subst (λ n. numbers_of c.note.new.lists.items candidate.step.fact ≡ numbers_of c.loop-number.numbers.items candidate.step.fact ++ n ∷ []) long c.in_ok-note.ensures.here) c.in_ok-note.ensures.others),
      c.in_ok-note.ensures.long ∙ c.loop-number.invariant.1,
    )

pub returns : goal.returns
returns c number candidate at =
    c.loop-number.invariant.0 number candidate (subst (λ (candidates : List Candidate). slice_get candidates number ≡ Some candidate) (sym (take_all c.loop-number.number c.args.candidates.now c.loop-number-test.false)) at)

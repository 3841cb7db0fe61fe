use Rattle.std.proofs.Common.{◌≡◌, ◌+◌, ◌<◌, ◌++◌, ◌∷◌, [], length, length-append, append_assoc, take, sym, ap, ◌∙◌, subst, arith}
use Rattle.std.specs.List.{AllZip}
use Rattle.std.specs.Vec.Iter.{into_iter_items}
use Rattle.std.proofs.lemmas.Grind.{common_steps}
use Rattle.std.proofs.lemmas.List.{take_all}
use Rattle.std.proofs.lemmas.Option.{slice_get_within}
use Rattle.lists.proofs.Members.{contains_got}
use Rattle.lists.proofs.Places.{take_got}
use Rattle.plan_extract.proofs.Zips.{zip_length, zip_push}
use Rattle.proof_search.specs.Questions.{IsFirstFor, IsChoiceFor}
use Rattle.proof_search.proofs.Found.{at_turn, first_at}
use Rattle.proof_search.proofs.branches.chosen_branches.Goals as goal

pub bounds-queries-number : goal.bounds-queries-number
bounds-queries-number c =
    let (query, at, first) = at_turn c.args.questions.now c.args.firsts c.loop-first.yielded (into_iter_items c.loop-first.first-iterator) c.in-Some.first
    (into_iter_items c.next.new.self) c.loop-first.number c.requires.firsts c.loop-first.invariant.parts c.in-Some.ensures.steps.0 c.loop-first.invariant.number in
    subst (λ list. c.loop-first.number < length list) (sym c.as_slice-queries.ensures) (slice_get_within c.args.questions.now.queries.now c.loop-first.number query at)

pub choice_for-requires-clause-among : goal.choice_for-requires-clause-among
choice_for-requires-clause-among c =
    let (got, first) = first_at c.args.questions.now c.args.firsts c.loop-first.yielded (into_iter_items c.loop-first.first-iterator) c.in-Some.first
    (into_iter_items c.next.new.self) c.loop-first.number c.requires.firsts c.loop-first.invariant.parts c.in-Some.ensures.steps.0 c.loop-first.invariant.number
    c.as_slice-queries.result.now c.as_slice-queries.ensures c.index-queries-number.result c.index-queries-number.is in
    contains_got c.args.questions.now.queries.now c.loop-first.number c.index-queries-number.result got

pub choice_for-requires-clause-first : goal.choice_for-requires-clause-first
choice_for-requires-clause-first c =
    let (got, first) = first_at c.args.questions.now c.args.firsts c.loop-first.yielded (into_iter_items c.loop-first.first-iterator) c.in-Some.first
    (into_iter_items c.next.new.self) c.loop-first.number c.requires.firsts c.loop-first.invariant.parts c.in-Some.ensures.steps.0 c.loop-first.invariant.number
    c.as_slice-queries.result.now c.as_slice-queries.ensures c.index-queries-number.result c.index-queries-number.is in
    first

pub loop-first-preserved : goal.loop-first-preserved
loop-first-preserved c =
    let asked = c.args.questions.now in
    let taken = c.loop-first.yielded in
    let first = c.in-Some.first in
    let rest = into_iter_items c.next.new.self in
    let parts = c.loop-first.invariant.parts in
    let number = c.loop-first.invariant.number in
    let query = c.index-queries-number.result in
    let choice = c.in_ok-choice_for.field-0 in
    let before = c.loop-first.choices in
    let (got, its) = first_at asked c.args.firsts taken (into_iter_items c.loop-first.first-iterator) first rest c.loop-first.number c.requires.firsts parts c.in-Some.ensures.steps.0 number
    c.as_slice-queries.result.now c.as_slice-queries.ensures query c.index-queries-number.is in
    record {
      parts = append_assoc taken (first ∷ []) rest ∙ ap (λ list. taken ++ list) (sym c.in-Some.ensures.steps.0) ∙ parts;
      number = let more = length-append taken (first ∷ []) in omega (arith, number, more);
      chosen = subst (AllZip (IsChoiceFor asked c.args.search) (take (c.loop-first.number + 1) asked.queries.now)) (sym c.in_ok-push.ensures.ok)
          (subst (λ list. AllZip (IsChoiceFor asked c.args.search) list (before ++ choice ∷ [])) (sym (take_got asked.queries.now c.loop-first.number query got))
          (zip_push (IsChoiceFor asked c.args.search) (take c.loop-first.number asked.queries.now) before query choice c.loop-first.invariant.chosen c.in_ok-choice_for.ensures));
    }

pub returns : goal.returns
returns c =
    let asked = c.args.questions.now in
    let all : c.loop-first.yielded ≡ c.args.firsts = grind (arith, common_steps, c.in-None.ensures) in
    let number = c.loop-first.invariant.number in
    let same = ap length all in
    let long = zip_length (IsFirstFor asked) asked.queries.now c.args.firsts c.requires.firsts in
    subst (λ list. AllZip (IsChoiceFor asked c.args.search) list c.loop-first.choices) (take_all c.loop-first.number asked.queries.now (omega (arith, number, same, long)))
    c.loop-first.invariant.chosen

use Rattle.std.proofs.Common.{◌≡◌, ◌<◌, ◌≤◌, List, Some, None, length, sym, ap, ◌∙◌, subst, arith}
use Rattle.std.specs.Prelude.{slice_get}
use Rattle.std.proofs.lemmas.Option.{slice_get_within}
use Rattle.lists.proofs.Members.{some_injective}
use Rattle.lists.proofs.Places.{got_indexed}
use Rattle.meaning.specs.declared.types.Ground.{Ground}
use Rattle.least_search.specs.declared.space.Move.{Move}
use Rattle.access_schema.specs.Meaning.{meaning_of}
use Rattle.exposure_search.proofs.Offering.{served_more, served_less}
use Rattle.exposure_search.proofs.listing.active_moves.Goals as goal
use Rattle.exposure_search.proofs.listing.active_moves.Goals.{in-Some+in_ok-push, in_default}

pub relevant_move-requires-clause-at : goal.relevant_move-requires-clause-at
relevant_move-requires-clause-at c =
    ap (λ (fs : List Ground). slice_get fs c.loop-place.place) (sym c.requires.facts) ∙ got_indexed c.args.facts.now c.loop-place.place c.index-facts-place.result c.loop-place-test.true c.index-facts-place.is

pub loop-place-preserved : goal.loop-place-preserved
loop-place-preserved c =
    let at : slice_get c.args.proof.now.end.base c.loop-place.place ≡ Some c.index-facts-place.result = ap (λ (fs : List Ground). slice_get fs c.loop-place.place) (sym c.requires.facts) ∙ got_indexed c.args.facts.now c.loop-place.place c.index-facts-place.result c.loop-place-test.true c.index-facts-place.is in
    elim c.match-relevant_move.branch [
      | in-Some+in_ok-push w ↦
          rw (w.moves-is, w.in_ok-push.ensures.items) (served_more (meaning_of c.args.schema.now) c.args.proof.now c.args.marks.now c.args.below c.loop-place.moves.items c.loop-place.place c.loop-place.invariant c.args.methods.now c.requires.methods c.index-facts-place.result at w.in-Some.step w.in-Some.ensures.active
          (λ gains number method among active low. let (move, is, cheap) = c.relevant_move.ensures.least w.in-Some.ensures.active.2 gains number method among active low in
          let same : move ≡ w.in-Some.step = some_injective move w.in-Some.step (sym is ∙ w.in-Some.is) in subst (λ (m : Move). m.cost ≤ method.cost) same cheap))
      | in_default w ↦
          rw w.moves-is (served_less (meaning_of c.args.schema.now) c.args.proof.now c.args.marks.now c.args.below c.loop-place.moves.items c.loop-place.place c.loop-place.invariant c.args.methods.now c.requires.methods c.index-facts-place.result at
          (λ on gains number method among active low. let (move, is, cheap) = c.relevant_move.ensures.least on gains number method among active low in
          let none : c.relevant_move.result ≡ None = w.in_default.is in absurd (cc)))
    ]

pub returns-clause-active : goal.returns-clause-active
returns-clause-active c move among = c.loop-place.invariant.active move among

pub returns-clause-all : goal.returns-clause-all
returns-clause-all c move active on gains low =
    c.loop-place.invariant.served move active on gains low
    (let within : move.fact < length c.args.proof.now.end.base = slice_get_within c.args.proof.now.end.base move.fact active.fact active.at in
    let count : length c.args.facts.now ≡ length c.args.proof.now.end.base = ap length c.requires.facts in
    let end : length c.args.facts.now ≤ c.loop-place.place = c.loop-place-test.false in omega arith)

use Rattle.std.proofs.Common.{◌≡◌, ◌+◌, ◌++◌, ◌∷◌, [], List, take, sym, ap, ◌∙◌, subst}
use Rattle.std.specs.Prelude.{Ok, Some, slice_get}
use Rattle.std.proofs.lemmas.List.{take_all}
use Rattle.lists.proofs.Members.{contains_got}
use Rattle.lists.proofs.Places.{take_got, got_indexed}
use Rattle.meaning.specs.declared.types.Firing.{Firing}
use Rattle.access_schema.specs.Meaning.{meaning_of}
use Rattle.accessible_copy.proofs.Rounding.{IsExposing, made_may, listed_can, still_active, exposing_none, exposing_more, exposing_done}
use Rattle.accessible_copy.proofs.rounds.expose_part.Goals as goal

pub loop-firing-init : goal.loop-firing-init
loop-firing-init c = exposing_none (meaning_of c.args.schema.now) c.args.proof.now c.args.budget c.requires.run c.requires.ordered c.requires.some

pub expose_once-requires-clause-active : goal.expose_once-requires-clause-active
expose_once-requires-clause-active c = λ number fact e not.
    let got : slice_get c.args.found.now c.loop-firing.firing-index ≡ Some c.firing-item.result = rw (← c.as_slice-firing-items.ensures) (got_indexed c.as_slice-firing-items.result.now c.loop-firing.firing-index c.firing-item.result c.loop-firing-test.true c.firing-item.is) in
    still_active (meaning_of c.args.schema.now) c.args.proof.now c.loop-firing.proof c.requires.run c.loop-firing.invariant.is c.loop-firing.invariant.made number fact
    (listed_can (meaning_of c.args.schema.now) c.args.proof.now c.args.found.now c.firing-item.result number fact c.requires.found (contains_got c.args.found.now c.loop-firing.firing-index c.firing-item.result got) e) not

pub returns-in_err-expose_once-clause-more : goal.returns-in_err-expose_once-clause-more
returns-in_err-expose_once-clause-more c =
    let got : slice_get c.args.found.now c.loop-firing.firing-index ≡ Some c.firing-item.result = rw (← c.as_slice-firing-items.ensures) (got_indexed c.as_slice-firing-items.result.now c.loop-firing.firing-index c.firing-item.result c.loop-firing-test.true c.firing-item.is) in
    made_may (meaning_of c.args.schema.now) c.args.proof.now c.loop-firing.proof c.expose_once.new.proof c.args.found.now c.firing-item.result c.requires.found (contains_got c.args.found.now c.loop-firing.firing-index c.firing-item.result got) c.loop-firing.invariant.made c.expose_once.ensures.made

pub returns-then-not-branch-clause-more : goal.returns-then-not-branch-clause-more
returns-then-not-branch-clause-more c =
    let got : slice_get c.args.found.now c.loop-firing.firing-index ≡ Some c.firing-item.result = rw (← c.as_slice-firing-items.ensures) (got_indexed c.as_slice-firing-items.result.now c.loop-firing.firing-index c.firing-item.result c.loop-firing-test.true c.firing-item.is) in
    made_may (meaning_of c.args.schema.now) c.args.proof.now c.loop-firing.proof c.expose_once.new.proof c.args.found.now c.firing-item.result c.requires.found (contains_got c.args.found.now c.loop-firing.firing-index c.firing-item.result got) c.loop-firing.invariant.made c.expose_once.ensures.made

pub loop-firing-preserved : goal.loop-firing-preserved
loop-firing-preserved c =
    let here : slice_get c.as_slice-firing-items.result.now c.loop-firing.firing-index ≡ Some c.firing-item.result = got_indexed c.as_slice-firing-items.result.now c.loop-firing.firing-index c.firing-item.result c.loop-firing-test.true c.firing-item.is in
    let got : slice_get c.args.found.now c.loop-firing.firing-index ≡ Some c.firing-item.result = rw (← c.as_slice-firing-items.ensures) here in
    let turn : take (c.loop-firing.firing-index + 1) c.as_slice-firing-items.result.now ≡ take c.loop-firing.firing-index c.as_slice-firing-items.result.now ++ c.firing-item.result ∷ [] = take_got c.as_slice-firing-items.result.now c.loop-firing.firing-index c.firing-item.result here in
    subst (λ (l : List Firing). IsExposing (meaning_of c.args.schema.now) c.args.proof.now c.expose_once.new.proof l c.args.budget) (sym turn)
    (exposing_more (meaning_of c.args.schema.now) c.args.proof.now c.loop-firing.proof c.expose_once.new.proof c.args.found.now (take c.loop-firing.firing-index c.as_slice-firing-items.result.now) c.firing-item.result c.args.budget c.requires.found
    (contains_got c.args.found.now c.loop-firing.firing-index c.firing-item.result got) c.loop-firing.invariant c.expose_once.ensures.run c.expose_once.ensures.ordered c.expose_once.ensures.made c.expose_once.ensures.budget
    (c.in_ok-expose_once.ensures.shown (ap (λ b. Ok b) c.if-not-branch.false)))

pub returns-clause-done : goal.returns-clause-done
returns-clause-done c = λ e.
    exposing_done (meaning_of c.args.schema.now) c.args.proof.now c.loop-firing.proof c.args.found.now c.args.budget c.requires.quiet c.requires.some c.requires.found
    (subst (λ (l : List Firing). IsExposing (meaning_of c.args.schema.now) c.args.proof.now c.loop-firing.proof l c.args.budget) (take_all c.loop-firing.firing-index c.as_slice-firing-items.result.now c.loop-firing-test.false ∙ c.as_slice-firing-items.ensures) c.loop-firing.invariant)

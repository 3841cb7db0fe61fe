use Rattle.std.proofs.Common.{◌≡◌, Some, None, sym, ◌∙◌, subst, rules}
use Rattle.std.specs.Prelude.{Contains}
use Rattle.homomorphism.proofs.Covering.{told}
use Rattle.accessible_copy.specs.Known.{known_values}
use Rattle.exposure_search.specs.Tries.{IsMarked, Adds}
use Rattle.exposure_search.proofs.listing.relevant_move.Goals as goal

pub returns-then-gains-clause-least : goal.returns-then-gains-clause-least
returns-then-gains-clause-least c on gains number method among active low =
    let (move, is, cheap) = c.cheapest_move.ensures.least number method (subst (λ ns. Contains ns number) (sym c.numbers.ensures) among) active low in
    let got : c.cheapest_move.result ≡ Some c.in_ok-step.step = search rules in
    (move, sym got ∙ is, cheap)

pub returns-then-gains-clause-active : goal.returns-then-gains-clause-active
returns-then-gains-clause-active c = let (here, active) = c.in_ok-step.ensures.active (c.gains.ensures.yes c.if-gains.true) in (here, active, subst (λ marks. IsMarked marks c.args.place) c.as_slice.ensures.value (told _ c.is_marked.ensures c.if-not-is_marked.false))

pub returns-else-gains-clause-least : goal.returns-else-gains-clause-least
returns-else-gains-clause-least c on adds number method among active low = absurd (c.gains.ensures.no c.if-gains.false active.new (subst (λ needed. Adds (known_values c.args.proof.now.constants c.args.proof.now.end.exposed) c.args.proof.now.end.base needed c.args.place) (sym c.as_slice-2.ensures.value) adds))

pub returns-in_err-step-clause-least : goal.returns-in_err-step-clause-least
returns-in_err-step-clause-least c on gains number method among active low =
    let (move, is, cheap) = c.cheapest_move.ensures.least number method (subst (λ ns. Contains ns number) (sym c.numbers.ensures) among) active low in
    let none : c.cheapest_move.result ≡ None = search rules in
    absurd (cc)

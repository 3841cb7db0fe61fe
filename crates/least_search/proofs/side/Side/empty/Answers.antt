use Rattle.std.proofs.Common.{◌≡◌, List, false, sym, ap, ◌∙◌, subst, rules}
use Rattle.std.specs.Prelude.{replicate}
use Rattle.least_search.specs.declared.space.Move.{Move}
use Rattle.least_search.specs.Walks.{IsWalk, no_facts}
use Rattle.least_search.proofs.Sets.{none_is}
use Rattle.least_search.proofs.side.Side.empty.Goals as goal

pub returns : goal.returns
returns g c =
    let falses : c.in_ok-vec.field-0.items ≡ replicate c.facts.result false = search rules in
    let none : c.in_ok-vec.field-0.items ≡ no_facts (g.S.Space.size c.args.space.now) = falses ∙ none_is c.facts.result ∙ ap no_facts c.facts.ensures in
    subst (λ (path : List Move). IsWalk (g.S.Space.CanMove c.args.space.now) (no_facts (g.S.Space.size c.args.space.now)) path c.in_ok-vec.field-0.items) (sym c.new.ensures.items) none

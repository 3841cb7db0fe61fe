use Rattle.std.proofs.Common.{[], subst, sym, arith}
use Rattle.connected_match.specs.Chains.{IsChain, Completes}
use Rattle.connected_match.specs.Orders.{HasSame}
use Rattle.connected_match.proofs.Going.{chain_fits}
use Rattle.connected_match.proofs.Reordered.{same_bound, some_match, no_match}
use Rattle.connected_match.proofs.matching.has_match.Goals as goal

pub chain-requires : goal.chain-requires
chain-requires c =
    let same : HasSame c.args.atoms.now c.in_ok-ordered.ordered.items = subst (λ l. HasSame l c.in_ok-ordered.ordered.items) c.as_slice.ensures c.in_ok-ordered.ensures in
    let few = same_bound c.args.atoms.now c.in_ok-ordered.ordered.items same in
    rw c.as_slice-3.ensures (omega (arith, few, c.requires))

pub completes-requires : goal.completes-requires
completes-requires c = rw c.as_slice-4.ensures.value (chain_fits c.as_slice-3.result.now c.in_ok-ordered.ordered.items c.in_ok-links.links.items [] c.in_ok-links.ensures)

pub returns-clause-yes : goal.returns-clause-yes
returns-clause-yes c = λ is.
    let same : HasSame c.args.atoms.now c.in_ok-ordered.ordered.items = subst (λ l. HasSame l c.in_ok-ordered.ordered.items) c.as_slice.ensures c.in_ok-ordered.ensures in
    let chain : IsChain c.args.given.now [] c.in_ok-ordered.ordered.items c.in_ok-links.links.items = subst (λ given. IsChain given [] c.in_ok-ordered.ordered.items c.in_ok-links.links.items) c.as_slice-3.ensures c.in_ok-links.ensures in
    some_match c.args.store.now c.args.given.now c.args.atoms.now c.in_ok-ordered.ordered.items c.in_ok-links.links.items same chain
    (subst (λ links. Completes c.args.store.now links []) c.as_slice-4.ensures.value (c.in_ok-completes.ensures.yes is))

pub returns-clause-no : goal.returns-clause-no
returns-clause-no c = λ is.
    let same : HasSame c.args.atoms.now c.in_ok-ordered.ordered.items = subst (λ l. HasSame l c.in_ok-ordered.ordered.items) c.as_slice.ensures c.in_ok-ordered.ensures in
    let chain : IsChain c.args.given.now [] c.in_ok-ordered.ordered.items c.in_ok-links.links.items = subst (λ given. IsChain given [] c.in_ok-ordered.ordered.items c.in_ok-links.links.items) c.as_slice-3.ensures c.in_ok-links.ensures in
    no_match c.args.store.now c.args.given.now c.args.atoms.now c.in_ok-ordered.ordered.items c.in_ok-links.links.items same chain
    (λ goes. c.in_ok-completes.ensures.no is (subst (λ links. Completes c.args.store.now links []) (sym c.as_slice-4.ensures.value) goes))

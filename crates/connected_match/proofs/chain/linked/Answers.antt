use Rattle.std.proofs.Common.{rules, ◌≡◌, ◌≤◌, ◌∙◌, ◌∷◌, [], ◌-◌, List, ℕ, ap, sym, subst, map, take, drop, length}
use Rattle.meaning.specs.Triggers.{terms_bound}
use Rattle.connected_match.specs.Chains.{place_in, local_in, given_at}
use Rattle.connected_match.proofs.Linking.{row_short, rest_below, is_link_of}
use Rattle.connected_match.proofs.chain.linked.Goals as goal

pub slice_bounds-values_of-count : goal.slice_bounds-values_of-count
slice_bounds-values_of-count c = rw c.deref.ensures.value (row_short c.args.row.now c.as_slice.result.now c.in_ok-names.names.items c.in_ok-names.ensures)

pub slice_bounds-values_of-start : goal.slice_bounds-values_of-start
slice_bounds-values_of-start c = rw c.deref.ensures.value (row_short c.args.row.now c.as_slice.result.now c.in_ok-names.names.items c.in_ok-names.ensures)

pub values_of-requires : goal.values_of-requires
values_of-requires c = rw c.deref.ensures.value
    (rest_below c.args.row.now c.as_slice.result.now c.in_ok-names.names.items c.in_ok-names.ensures (length c.args.given.now) (subst (λ l. terms_bound l ≤ length c.args.given.now) (sym c.as_slice.ensures) c.requires))

pub returns : goal.returns
returns c =
    let names : List ℕ = c.in_ok-names.names.items in
    let atoms : c.atoms-2.inside.members.items ≡ record { rel = c.args.atom.now.rel; terms = c.in_ok-local_terms.field-0 } ∷ [] = search rules in
    let local : c.in_ok-local_terms.field-0 ≡ map (local_in names) c.args.atom.now.terms =
    c.in_ok-local_terms.ensures ∙ ap (λ l. map (local_in l) c.as_slice-2.result.now) c.as_slice-3.ensures.value ∙ ap (map (local_in names)) c.as_slice-2.ensures in
    is_link_of c.args.row.now c.as_slice.result.now names c.in_ok-names.ensures c.args.given.now c.args.atom.now c.args.next.now
    (record { atoms = c.atoms-2.inside.members.items; values = c.in_ok-values_of.field-0; kept = c.in_ok-places_of.field-0 })
    (sym c.as_slice.ensures) (atoms ∙ ap (λ terms. record { rel = c.args.atom.now.rel; terms = terms } ∷ []) local)
    (c.in_ok-values_of.ensures ∙ ap (λ l. map (given_at c.args.given.now) (take (length l - length c.args.row.now) (drop (length c.args.row.now) l))) c.deref.ensures.value)
    (c.in_ok-places_of.ensures ∙ ap (λ l. map (place_in l) c.args.next.now) c.as_slice-4.ensures.value)

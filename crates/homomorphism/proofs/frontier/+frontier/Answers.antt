use Rattle.std.proofs.Common.{rules, refl, subst, sym, ap, append_assoc, ◌≡◌, ◌∙◌, ◌∷◌, ◌++◌, [], Some, None, ◌<◌, ◌≤◌, ◌-◌, arith, ℕ, length, map, slice_get, slice_index_or, take, drop, Contains}
use Rattle.std.proofs.lemmas.Grind.{common_steps}
use Rattle.std.proofs.lemmas.List.{append-nil}
use Rattle.meaning.specs.Matching.{OccursIn}
use Rattle.meaning.specs.Triggers.{ground, bound, terms_bound}
use Rattle.meaning.specs.declared.types.Val.{Val}
use Rattle.homomorphism.specs.Bindings.{Agrees}
use Rattle.homomorphism.specs.Narrowing.{value_or_none}
use Rattle.homomorphism.specs.Listed.{AreCandidates}
use Rattle.homomorphism.specs.Matches.{IsMatch, NoMatch}
use Rattle.homomorphism.specs.Ways.{IsWay}
use Rattle.homomorphism.specs.Widening.{Touches, AreFree, taken}
use Rattle.homomorphism.proofs.AtomByAtom.{is_among}
use Rattle.homomorphism.proofs.Binding.{none_left}
use Rattle.homomorphism.proofs.Choosing.{picked, place_below, place_picked, place_is}
use Rattle.homomorphism.proofs.Extending.{atom_within, first_is, rest_within}
use Rattle.homomorphism.proofs.FrontierMatches.{bound_there, by_none, frontier_one, frontier_none, frontier_end, frontier_all, covered_by, by_with, by_without}
use Rattle.homomorphism.proofs.Touching.{default, free_within}
use Rattle.homomorphism.proofs.frontier.+frontier.Goals.{then-branch+in_ok-frontier, else-branch}
use Rattle.homomorphism.proofs.frontier.+frontier.Goals as goal

pub returns-in_default-clause-found : goal.returns-in_default-clause-found
returns-in_default-clause-found t c =
    let none : c.args.order.now ≡ [] = none_left c.args.order.now c.in_default.len_below in
    let is : c.in_ok-filled.field-0.vals ≡ map value_or_none c.args.given.now.items = c.in_ok-filled.ensures ∙ ap (map value_or_none) c.as_slice.ensures.value in
    (c.in_ok-filled.field-0 ∷ [], c.in_ok-push.ensures.items, frontier_end c.args.store.now c.args.atoms.now c.args.order.now c.args.head.now c.args.given.now.items c.in_ok-filled.field-0 none c.requires.covered is)

pub returns-in_ok-push-2-clause-found : goal.returns-in_ok-push-2-clause-found
returns-in_ok-push-2-clause-found t c =
    let has : (x : ℕ) → OccursIn c.args.head.now x → slice_get c.args.given.now.items x ≡ Some None → ⊥ = subst (λ g. (x : ℕ) → OccursIn c.args.head.now x → slice_get g x ≡ Some None → ⊥) c.as_slice-2.ensures.value (c.are_bound.ensures c.if-are_bound.true) in
    let is : IsMatch c.args.store.now (taken c.args.atoms.now c.args.order.now) c.args.given.now.items c.in-Some.one.vals = rw c.as_slice-then-are_bound.ensures.value at (rw c.in-Some.is at c.in_ok-one.ensures.some) in
    (c.in-Some.one ∷ [], c.in_ok-push-2.ensures.items, frontier_one c.args.store.now (taken c.args.atoms.now c.args.order.now) c.args.head.now c.args.given.now.items c.in-Some.one (λ x o l. bound_there c.args.given.now.items x l (has x o)) is)

pub returns-in_default-2-clause-found : goal.returns-in_default-2-clause-found
returns-in_default-2-clause-found t c =
    let none : NoMatch c.args.store.now (taken c.args.atoms.now c.args.order.now) c.args.given.now.items = rw c.as_slice-then-are_bound.ensures.value at (rw c.in_default-2.is at c.in_ok-one.ensures.none) in
    ([], sym (append-nil c.args.found.now.items), frontier_none c.args.store.now (taken c.args.atoms.now c.args.order.now) c.args.head.now c.args.given.now.items none)

pub bounds-atoms-place : goal.bounds-atoms-place
bounds-atoms-place t c =
    let is = default c.args.order.now 0 0 (slice_index_or c.args.order.now 0 0) c.in-len1-up.len_at_least in
    c.requires.within (slice_index_or c.args.order.now 0 0) (first_is c.args.order.now (slice_index_or c.args.order.now 0 0) c.in-len1-up.len_at_least is)

pub offset_bounds-atoms-place : goal.offset_bounds-atoms-place
offset_bounds-atoms-place t c =
    let is = default c.args.order.now 0 0 (slice_index_or c.args.order.now 0 0) c.in-len1-up.len_at_least in
    let below : slice_index_or c.args.order.now 0 0 < length c.args.atoms.now = c.requires.within (slice_index_or c.args.order.now 0 0) (first_is c.args.order.now (slice_index_or c.args.order.now 0 0) c.in-len1-up.len_at_least is) in
    search (rules, below)

pub free_variables-requires : goal.free_variables-requires
free_variables-requires t c =
    let is = default c.args.order.now 0 0 (slice_index_or c.args.order.now 0 0) c.in-len1-up.len_at_least in
    let below : slice_index_or c.args.order.now 0 0 < length c.args.atoms.now = c.requires.within (slice_index_or c.args.order.now 0 0) (first_is c.args.order.now (slice_index_or c.args.order.now 0 0) c.in-len1-up.len_at_least is) in
    let fits : terms_bound c.index-atoms-place.result.terms ≤ length c.args.given.now.items = atom_within c.args.atoms.now (slice_index_or c.args.order.now 0 0) c.index-atoms-place.result (length c.args.given.now.items) below c.index-atoms-place.is c.requires.fits in
    rw c.as_slice-3.ensures (rw c.as_slice-4.ensures.value fits)

pub candidates-requires : goal.candidates-requires
candidates-requires t c =
    let is = default c.args.order.now 0 0 (slice_index_or c.args.order.now 0 0) c.in-len1-up.len_at_least in
    let below : slice_index_or c.args.order.now 0 0 < length c.args.atoms.now = c.requires.within (slice_index_or c.args.order.now 0 0) (first_is c.args.order.now (slice_index_or c.args.order.now 0 0) c.in-len1-up.len_at_least is) in
    let fits : terms_bound c.index-atoms-place.result.terms ≤ length c.args.given.now.items = atom_within c.args.atoms.now (slice_index_or c.args.order.now 0 0) c.index-atoms-place.result (length c.args.given.now.items) below c.index-atoms-place.is c.requires.fits in
    rw c.as_slice-5.ensures.value fits

pub loop-number-init : goal.loop-number-init
loop-number-init t c = record {
  same = refl;
  found = ([], sym (append-nil c.args.found.now.items), by_none c.args.store.now c.index-atoms-place.result (taken c.args.atoms.now (take (length c.args.order.now - 1) (drop 1 c.args.order.now))) c.args.head.now c.args.given.now.items);
}

pub bounds-facts-number : goal.bounds-facts-number
bounds-facts-number t c =
    place_below c.args.store.now c.facts-facts.result.now c.facts-facts.ensures.facts c.index-atoms-place.result c.as_slice-5.result.now c.in_ok-number-items.number-items.now c.in_ok-number-items.ensures c.loop-number.number-index c.loop-number-test.true

pub offset_bounds-facts-number : goal.offset_bounds-facts-number
offset_bounds-facts-number t c =
    let found : slice_index_or c.in_ok-number-items.number-items.now c.loop-number.number-index 0 < length c.facts-facts.result.now = place_below c.args.store.now c.facts-facts.result.now c.facts-facts.ensures.facts c.index-atoms-place.result c.as_slice-5.result.now c.in_ok-number-items.number-items.now c.in_ok-number-items.ensures c.loop-number.number-index c.loop-number-test.true in
    search (rules, found)

pub take_fact-requires-clause-fits : goal.take_fact-requires-clause-fits
take_fact-requires-clause-fits t c =
    let is = default c.args.order.now 0 0 (slice_index_or c.args.order.now 0 0) c.in-len1-up.len_at_least in
    let below : slice_index_or c.args.order.now 0 0 < length c.args.atoms.now = c.requires.within (slice_index_or c.args.order.now 0 0) (first_is c.args.order.now (slice_index_or c.args.order.now 0 0) c.in-len1-up.len_at_least is) in
    let fits : terms_bound c.index-atoms-place.result.terms ≤ length c.args.given.now.items = atom_within c.args.atoms.now (slice_index_or c.args.order.now 0 0) c.index-atoms-place.result (length c.args.given.now.items) below c.index-atoms-place.is c.requires.fits in
    subst (λ g. terms_bound c.index-atoms-place.result.terms ≤ length g) (sym c.loop-number.invariant.same) fits

pub frontier-requires : goal.frontier-requires
frontier-requires t c =
    let is = default c.args.order.now 0 0 (slice_index_or c.args.order.now 0 0) c.in-len1-up.len_at_least in
    let below : slice_index_or c.args.order.now 0 0 < length c.args.atoms.now = c.requires.within (slice_index_or c.args.order.now 0 0) (first_is c.args.order.now (slice_index_or c.args.order.now 0 0) c.in-len1-up.len_at_least is) in
    let touched : Touches c.index-atoms-place.result.terms c.args.given.now.items c.take_fact.new.given.items = subst (λ g. Touches c.index-atoms-place.result.terms g c.take_fact.new.given.items) c.loop-number.invariant.same (c.in_ok-take_fact.ensures.touched c.if-branch.true) in
    let way : IsWay c.index-facts-number.result c.index-atoms-place.result c.args.given.now.items c.take_fact.new.given.items = subst (λ g. IsWay c.index-facts-number.result c.index-atoms-place.result g c.take_fact.new.given.items) c.loop-number.invariant.same (c.in_ok-take_fact.ensures.yes c.if-branch.true) in (
      grind (arith, common_steps),
      (
        subst (λ n. bound c.args.atoms.now ≤ n) (sym touched.0) c.requires.fits,
        (
          rest_within c.args.order.now (slice_index_or c.args.order.now 0 0) (λ n. n < length c.args.atoms.now) c.in-len1-up.len_at_least is c.requires.within,
          covered_by c.args.store.now c.args.atoms.now c.args.order.now (slice_index_or c.args.order.now 0 0) c.index-atoms-place.result c.args.given.now.items c.in-len1-up.len_at_least is below c.index-atoms-place.is c.index-facts-number.result c.take_fact.new.given.items way c.requires.covered,
        ),
      ),
    )

pub release-requires : goal.release-requires
release-requires t c =
    let free : AreFree c.index-atoms-place.result.terms c.args.given.now.items c.in_ok-free.free.items = rw c.as_slice-3.ensures at (rw c.as_slice-4.ensures.value at c.in_ok-free.ensures) in
    let touched : Touches c.index-atoms-place.result.terms c.args.given.now.items c.take_fact.new.given.items = subst (λ g. Touches c.index-atoms-place.result.terms g c.take_fact.new.given.items) c.loop-number.invariant.same (c.in_ok-take_fact.ensures.touched c.if-branch.true) in
    λ x h. subst (λ g. x < length g) (sym c.in_ok-frontier.ensures.same) (subst (λ n. x < n) (sym touched.0) (free_within c.index-atoms-place.result.terms c.args.given.now.items c.in_ok-free.free.items free x (subst (λ z. Contains z x) c.as_slice-then-branch.ensures.value h)))

pub loop-number-preserved : goal.loop-number-preserved
loop-number-preserved t c =
    let facts = picked c.args.store.now c.in_ok-number-items.number-items.now in
    let rest = taken c.args.atoms.now (take (length c.args.order.now - 1) (drop 1 c.args.order.now)) in
    let free : AreFree c.index-atoms-place.result.terms c.args.given.now.items c.in_ok-free.free.items = rw c.as_slice-3.ensures at (rw c.as_slice-4.ensures.value at c.in_ok-free.ensures) in
    let within = place_picked c.args.store.now c.facts-facts.result.now c.facts-facts.ensures.facts c.index-atoms-place.result c.as_slice-5.result.now c.in_ok-number-items.number-items.now c.in_ok-number-items.ensures c.loop-number.number-index c.loop-number-test.true in
    let at = place_is c.args.store.now c.facts-facts.result.now c.facts-facts.ensures.facts c.index-atoms-place.result c.as_slice-5.result.now c.in_ok-number-items.number-items.now c.in_ok-number-items.ensures c.loop-number.number-index c.loop-number-test.true c.index-facts-number.result c.index-facts-number.is in
    let found : slice_index_or c.in_ok-number-items.number-items.now c.loop-number.number-index 0 < length c.facts-facts.result.now = place_below c.args.store.now c.facts-facts.result.now c.facts-facts.ensures.facts c.index-atoms-place.result c.as_slice-5.result.now c.in_ok-number-items.number-items.now c.in_ok-number-items.ensures c.loop-number.number-index c.loop-number-test.true in
    let among : Contains c.args.store.now c.index-facts-number.result = subst (λ fs. Contains fs c.index-facts-number.result) c.facts-facts.ensures.facts (is_among c.facts-facts.result.now (slice_index_or c.in_ok-number-items.number-items.now c.loop-number.number-index 0) c.index-facts-number.result found c.index-facts-number.is) in
    let (matches, so, by) = c.loop-number.invariant.found in
    elim c.if-branch.branch [
      | then-branch+in_ok-frontier w ↦
          let touched : Touches c.index-atoms-place.result.terms c.args.given.now.items c.take_fact.new.given.items = subst (λ g. Touches c.index-atoms-place.result.terms g c.take_fact.new.given.items) c.loop-number.invariant.same (c.in_ok-take_fact.ensures.touched w.if-branch.true) in
          let way : IsWay c.index-facts-number.result c.index-atoms-place.result c.args.given.now.items c.take_fact.new.given.items = subst (λ g. IsWay c.index-facts-number.result c.index-atoms-place.result g c.take_fact.new.given.items) c.loop-number.invariant.same (c.in_ok-take_fact.ensures.yes w.if-branch.true) in
          let (more, added, are) = w.in_ok-frontier.ensures.found in
          rw w.given-is (rw w.found-is (record {
            same = w.release.ensures c.index-atoms-place.result.terms c.args.given.now.items (rw w.as_slice-then-branch.ensures.value free) (subst (Touches c.index-atoms-place.result.terms c.args.given.now.items) (sym w.in_ok-frontier.ensures.same) touched);
            found = (
              matches ++ more,
              added ∙ ap (λ all. all ++ more) so ∙ append_assoc _ matches more,
              by_with facts c.loop-number.number-index c.index-facts-number.result within at c.args.store.now c.index-atoms-place.result rest c.args.head.now c.args.given.now.items matches by c.take_fact.new.given.items more among way are,
            );
          }))
      | else-branch w ↦
          rw w.given-is (rw w.found-is (record {
            same = c.in_ok-take_fact.ensures.same w.if-branch.false ∙ c.loop-number.invariant.same;
            found = (
              matches,
              so,
              by_without facts c.loop-number.number-index c.index-facts-number.result within at c.args.store.now c.index-atoms-place.result rest c.args.head.now c.args.given.now.items matches by
                  (subst (λ g. (a : ℕ → Val) → Agrees g a → ground a c.index-atoms-place.result ≡ c.index-facts-number.result → ⊥) c.loop-number.invariant.same (c.in_ok-take_fact.ensures.no w.if-branch.false)),
            );
          }))
    ]

pub returns-clause-found : goal.returns-clause-found
returns-clause-found t c =
    let is = default c.args.order.now 0 0 (slice_index_or c.args.order.now 0 0) c.in-len1-up.len_at_least in
    let below : slice_index_or c.args.order.now 0 0 < length c.args.atoms.now = c.requires.within (slice_index_or c.args.order.now 0 0) (first_is c.args.order.now (slice_index_or c.args.order.now 0 0) c.in-len1-up.len_at_least is) in
    let numbers : AreCandidates c.args.store.now c.index-atoms-place.result c.args.given.now.items c.in_ok-number-items.number-items.now = rw c.as_slice-5.ensures.value at c.in_ok-number-items.ensures in
    let (matches, so, by) = c.loop-number.invariant.found in
    (matches, so, frontier_all c.args.store.now c.args.atoms.now c.args.order.now (slice_index_or c.args.order.now 0 0) c.index-atoms-place.result c.args.given.now.items c.in-len1-up.len_at_least is below c.index-atoms-place.is c.args.head.now matches c.in_ok-number-items.number-items.now c.loop-number.number-index numbers c.loop-number-test.false by)

use Rattle.std.proofs.Common.{rules, subst, sym, ◌≡◌, ◌∙◌, ◌<◌, ◌≤◌, ◌-◌, arith, ℕ, length, slice_index_or, take, drop, Contains}
use Rattle.std.proofs.lemmas.Grind.{common_steps}
use Rattle.meaning.specs.Triggers.{ground, bound, terms_bound}
use Rattle.meaning.specs.declared.types.Val.{Val}
use Rattle.homomorphism.specs.Bindings.{Agrees}
use Rattle.homomorphism.specs.Listed.{AreCandidates}
use Rattle.homomorphism.specs.Ways.{IsWay}
use Rattle.homomorphism.specs.Widening.{Touches, AreFree, taken}
use Rattle.homomorphism.proofs.AtomByAtom.{is_among}
use Rattle.homomorphism.proofs.Choosing.{picked, place_below, place_picked, place_is}
use Rattle.homomorphism.proofs.FactByFact.{none_with, none_without}
use Rattle.homomorphism.proofs.Touching.{default, free_within}
use Rattle.homomorphism.proofs.Extending.{atom_within, first_is, rest_within, widens_by, no_match_of}
use Rattle.homomorphism.proofs.extend.+extend.Goals.{then-branch+in_ok-extend+else-branch-2, else-branch}
use Rattle.homomorphism.proofs.extend.+extend.Goals as goal

pub bounds-atoms-place : goal.bounds-atoms-place
bounds-atoms-place t c =
    let is = default c.args.order.now 0 0 (slice_index_or c.args.order.now 0 0) c.in-len1-up.len_at_least in
    c.requires.within (slice_index_or c.args.order.now 0 0) (first_is c.args.order.now (slice_index_or c.args.order.now 0 0) c.in-len1-up.len_at_least is)

pub offset_bounds-atoms-place : goal.offset_bounds-atoms-place
offset_bounds-atoms-place t c =
    let is = default c.args.order.now 0 0 (slice_index_or c.args.order.now 0 0) c.in-len1-up.len_at_least in
    let below : slice_index_or c.args.order.now 0 0 < length c.args.atoms.now = c.requires.within (slice_index_or c.args.order.now 0 0) (first_is c.args.order.now (slice_index_or c.args.order.now 0 0) c.in-len1-up.len_at_least is) in
    search (rules, below)

pub free_variables-requires : goal.free_variables-requires
free_variables-requires t c =
    let is = default c.args.order.now 0 0 (slice_index_or c.args.order.now 0 0) c.in-len1-up.len_at_least in
    let below : slice_index_or c.args.order.now 0 0 < length c.args.atoms.now = c.requires.within (slice_index_or c.args.order.now 0 0) (first_is c.args.order.now (slice_index_or c.args.order.now 0 0) c.in-len1-up.len_at_least is) in
    let fits : terms_bound c.index-atoms-place.result.terms ≤ length c.args.given.now.items = atom_within c.args.atoms.now (slice_index_or c.args.order.now 0 0) c.index-atoms-place.result (length c.args.given.now.items) below c.index-atoms-place.is c.requires.fits in
    rw c.as_slice.ensures (rw c.as_slice-2.ensures.value fits)

pub candidates-requires : goal.candidates-requires
candidates-requires t c =
    let is = default c.args.order.now 0 0 (slice_index_or c.args.order.now 0 0) c.in-len1-up.len_at_least in
    let below : slice_index_or c.args.order.now 0 0 < length c.args.atoms.now = c.requires.within (slice_index_or c.args.order.now 0 0) (first_is c.args.order.now (slice_index_or c.args.order.now 0 0) c.in-len1-up.len_at_least is) in
    let fits : terms_bound c.index-atoms-place.result.terms ≤ length c.args.given.now.items = atom_within c.args.atoms.now (slice_index_or c.args.order.now 0 0) c.index-atoms-place.result (length c.args.given.now.items) below c.index-atoms-place.is c.requires.fits in
    rw c.as_slice-3.ensures.value fits

pub bounds-facts-number : goal.bounds-facts-number
bounds-facts-number t c =
    place_below c.args.store.now c.facts-facts.result.now c.facts-facts.ensures.facts c.index-atoms-place.result c.as_slice-3.result.now c.in_ok-number-items.number-items.now c.in_ok-number-items.ensures c.loop-number.number-index c.loop-number-test.true

pub offset_bounds-facts-number : goal.offset_bounds-facts-number
offset_bounds-facts-number t c =
    let found : slice_index_or c.in_ok-number-items.number-items.now c.loop-number.number-index 0 < length c.facts-facts.result.now = place_below c.args.store.now c.facts-facts.result.now c.facts-facts.ensures.facts c.index-atoms-place.result c.as_slice-3.result.now c.in_ok-number-items.number-items.now c.in_ok-number-items.ensures c.loop-number.number-index c.loop-number-test.true in
    search (rules, found)

pub take_fact-requires-clause-fits : goal.take_fact-requires-clause-fits
take_fact-requires-clause-fits t c =
    let is = default c.args.order.now 0 0 (slice_index_or c.args.order.now 0 0) c.in-len1-up.len_at_least in
    let below : slice_index_or c.args.order.now 0 0 < length c.args.atoms.now = c.requires.within (slice_index_or c.args.order.now 0 0) (first_is c.args.order.now (slice_index_or c.args.order.now 0 0) c.in-len1-up.len_at_least is) in
    let fits : terms_bound c.index-atoms-place.result.terms ≤ length c.args.given.now.items = atom_within c.args.atoms.now (slice_index_or c.args.order.now 0 0) c.index-atoms-place.result (length c.args.given.now.items) below c.index-atoms-place.is c.requires.fits in
    subst (λ g. terms_bound c.index-atoms-place.result.terms ≤ length g) (sym c.loop-number.invariant.same) fits

pub extend-requires : goal.extend-requires
extend-requires t c =
    let is = default c.args.order.now 0 0 (slice_index_or c.args.order.now 0 0) c.in-len1-up.len_at_least in
    let touched : Touches c.index-atoms-place.result.terms c.args.given.now.items c.take_fact.new.given.items = subst (λ g. Touches c.index-atoms-place.result.terms g c.take_fact.new.given.items) c.loop-number.invariant.same (c.in_ok-take_fact.ensures.touched c.if-branch.true) in (
      grind (arith, common_steps),
      (
        subst (λ n. bound c.args.atoms.now ≤ n) (sym touched.0) c.requires.fits,
        rest_within c.args.order.now (slice_index_or c.args.order.now 0 0) (λ n. n < length c.args.atoms.now) c.in-len1-up.len_at_least is c.requires.within,
      ),
    )

pub returns-then-branch-2-clause-found : goal.returns-then-branch-2-clause-found
returns-then-branch-2-clause-found t c =
    let is = default c.args.order.now 0 0 (slice_index_or c.args.order.now 0 0) c.in-len1-up.len_at_least in
    let below : slice_index_or c.args.order.now 0 0 < length c.args.atoms.now = c.requires.within (slice_index_or c.args.order.now 0 0) (first_is c.args.order.now (slice_index_or c.args.order.now 0 0) c.in-len1-up.len_at_least is) in
    let found : slice_index_or c.in_ok-number-items.number-items.now c.loop-number.number-index 0 < length c.facts-facts.result.now = place_below c.args.store.now c.facts-facts.result.now c.facts-facts.ensures.facts c.index-atoms-place.result c.as_slice-3.result.now c.in_ok-number-items.number-items.now c.in_ok-number-items.ensures c.loop-number.number-index c.loop-number-test.true in
    let among : Contains c.args.store.now c.index-facts-number.result = subst (λ fs. Contains fs c.index-facts-number.result) c.facts-facts.ensures.facts (is_among c.facts-facts.result.now (slice_index_or c.in_ok-number-items.number-items.now c.loop-number.number-index 0) c.index-facts-number.result found c.index-facts-number.is) in
    let touched : Touches c.index-atoms-place.result.terms c.args.given.now.items c.take_fact.new.given.items = subst (λ g. Touches c.index-atoms-place.result.terms g c.take_fact.new.given.items) c.loop-number.invariant.same (c.in_ok-take_fact.ensures.touched c.if-branch.true) in
    let way : IsWay c.index-facts-number.result c.index-atoms-place.result c.args.given.now.items c.take_fact.new.given.items = subst (λ g. IsWay c.index-facts-number.result c.index-atoms-place.result g c.take_fact.new.given.items) c.loop-number.invariant.same (c.in_ok-take_fact.ensures.yes c.if-branch.true) in
    λ yes. widens_by c.args.store.now c.args.atoms.now c.args.order.now (slice_index_or c.args.order.now 0 0) c.index-atoms-place.result c.args.given.now.items c.in-len1-up.len_at_least is below c.index-atoms-place.is c.index-facts-number.result c.take_fact.new.given.items c.extend.new.given.items among way touched (c.in_ok-extend.ensures.found c.if-branch-2.true)

pub release-requires : goal.release-requires
release-requires t c =
    let free : AreFree c.index-atoms-place.result.terms c.args.given.now.items c.in_ok-free.free.items = rw c.as_slice.ensures at (rw c.as_slice-2.ensures.value at c.in_ok-free.ensures) in
    let touched : Touches c.index-atoms-place.result.terms c.args.given.now.items c.take_fact.new.given.items = subst (λ g. Touches c.index-atoms-place.result.terms g c.take_fact.new.given.items) c.loop-number.invariant.same (c.in_ok-take_fact.ensures.touched c.if-branch.true) in
    λ x h. subst (λ g. x < length g) (sym (c.in_ok-extend.ensures.same c.if-branch-2.false)) (subst (λ n. x < n) (sym touched.0) (free_within c.index-atoms-place.result.terms c.args.given.now.items c.in_ok-free.free.items free x (subst (λ z. Contains z x) c.as_slice-then-branch.ensures.value h)))

pub loop-number-preserved : goal.loop-number-preserved
loop-number-preserved t c =
    let facts = picked c.args.store.now c.in_ok-number-items.number-items.now in
    let rest = taken c.args.atoms.now (take (length c.args.order.now - 1) (drop 1 c.args.order.now)) in
    let free : AreFree c.index-atoms-place.result.terms c.args.given.now.items c.in_ok-free.free.items = rw c.as_slice.ensures at (rw c.as_slice-2.ensures.value at c.in_ok-free.ensures) in
    let within = place_picked c.args.store.now c.facts-facts.result.now c.facts-facts.ensures.facts c.index-atoms-place.result c.as_slice-3.result.now c.in_ok-number-items.number-items.now c.in_ok-number-items.ensures c.loop-number.number-index c.loop-number-test.true in
    let at = place_is c.args.store.now c.facts-facts.result.now c.facts-facts.ensures.facts c.index-atoms-place.result c.as_slice-3.result.now c.in_ok-number-items.number-items.now c.in_ok-number-items.ensures c.loop-number.number-index c.loop-number-test.true c.index-facts-number.result c.index-facts-number.is in
    elim c.if-branch.branch [
      | then-branch+in_ok-extend+else-branch-2 w ↦
          let touched : Touches c.index-atoms-place.result.terms c.args.given.now.items c.take_fact.new.given.items = subst (λ g. Touches c.index-atoms-place.result.terms g c.take_fact.new.given.items) c.loop-number.invariant.same (c.in_ok-take_fact.ensures.touched w.if-branch.true) in
          let way : IsWay c.index-facts-number.result c.index-atoms-place.result c.args.given.now.items c.take_fact.new.given.items = subst (λ g. IsWay c.index-facts-number.result c.index-atoms-place.result g c.take_fact.new.given.items) c.loop-number.invariant.same (c.in_ok-take_fact.ensures.yes w.if-branch.true) in
          rw w.given-is (record {
            same = w.release.ensures c.index-atoms-place.result.terms c.args.given.now.items (rw w.as_slice-then-branch.ensures.value free) (subst (Touches c.index-atoms-place.result.terms c.args.given.now.items) (sym (w.in_ok-extend.ensures.same w.if-branch-2.false)) touched);
            none = none_with facts c.loop-number.number-index c.index-facts-number.result within at c.args.store.now c.index-atoms-place.result rest c.args.given.now.items c.loop-number.invariant.none c.take_fact.new.given.items way (w.in_ok-extend.ensures.none w.if-branch-2.false);
          })
      | else-branch w ↦
          rw w.given-is (record {
            same = c.in_ok-take_fact.ensures.same w.if-branch.false ∙ c.loop-number.invariant.same;
            none = none_without facts c.loop-number.number-index c.index-facts-number.result within at c.args.store.now c.index-atoms-place.result rest c.args.given.now.items c.loop-number.invariant.none
                (subst (λ g. (a : ℕ → Val) → Agrees g a → ground a c.index-atoms-place.result ≡ c.index-facts-number.result → ⊥) c.loop-number.invariant.same (c.in_ok-take_fact.ensures.no w.if-branch.false));
          })
    ]

pub returns-clause-none : goal.returns-clause-none
returns-clause-none t c =
    let is = default c.args.order.now 0 0 (slice_index_or c.args.order.now 0 0) c.in-len1-up.len_at_least in
    let below : slice_index_or c.args.order.now 0 0 < length c.args.atoms.now = c.requires.within (slice_index_or c.args.order.now 0 0) (first_is c.args.order.now (slice_index_or c.args.order.now 0 0) c.in-len1-up.len_at_least is) in
    let numbers : AreCandidates c.args.store.now c.index-atoms-place.result c.args.given.now.items c.in_ok-number-items.number-items.now = rw c.as_slice-3.ensures.value at c.in_ok-number-items.ensures in
    λ no. no_match_of c.args.store.now c.args.atoms.now c.args.order.now (slice_index_or c.args.order.now 0 0) c.index-atoms-place.result c.args.given.now.items c.in-len1-up.len_at_least is below c.index-atoms-place.is c.in_ok-number-items.number-items.now c.loop-number.number-index numbers c.loop-number-test.false c.loop-number.invariant.none

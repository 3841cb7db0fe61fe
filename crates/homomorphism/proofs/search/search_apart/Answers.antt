use Rattle.std.proofs.Common.{◌∙◌, ◌≤◌, refl, sym, subst, length, Contains, IfOk, IfSome, IfNone}
use Rattle.meaning.specs.Triggers.{bound}
use Rattle.homomorphism.specs.Matches.{NoMatch}
use Rattle.homomorphism.specs.Widening.{AreRuns, AreUntouched, Widens, taken}
use Rattle.homomorphism.proofs.AtomByAtom.{is_among}
use Rattle.homomorphism.proofs.Runs.{none_before, none_of_taken, searched_none, searched_more, searched_all}
use Rattle.homomorphism.proofs.search.search_apart.Goals as goal

pub loop-run-init : goal.loop-run-init
loop-run-init c =
    record {
      same = refl;
      searched = searched_none c.args.store.now c.args.atoms.now c.args.given c.into_vec-now.result.items (c.into_vec-now.ensures ∙ c.in_ok-copy.ensures);
    }

pub are_untouched-requires : goal.are_untouched-requires
are_untouched-requires c =
    let runs : AreRuns (length c.args.atoms.now) c.args.runs.now = c.requires.all in
    let among : Contains c.args.runs.now c.run-item.result = is_among c.args.runs.now c.loop-run.run-index c.run-item.result c.loop-run-test.true c.run-item.is in
    λ n h. runs.within c.run-item.result n among (subst (λ z. Contains z n) c.as_slice.ensures h)

pub search_whole-requires : goal.search_whole-requires
search_whole-requires c =
    subst (λ g. bound c.args.atoms.now ≤ length g) (sym c.loop-run.invariant.same) c.requires.fits

pub returns-then-not-are_untouched-clause-some : goal.returns-then-not-are_untouched-clause-some
returns-then-not-are_untouched-clause-some c =
    subst (λ g. IfOk c.search_whole.result (λ found. IfSome found (λ f. Widens c.args.store.now c.args.atoms.now g f))) c.loop-run.invariant.same c.search_whole.ensures.some

pub returns-then-not-are_untouched-clause-none : goal.returns-then-not-are_untouched-clause-none
returns-then-not-are_untouched-clause-none c =
    subst (λ g. IfOk c.search_whole.result (λ found. IfNone found (NoMatch c.args.store.now c.args.atoms.now g))) c.loop-run.invariant.same c.search_whole.ensures.none

pub extend-requires-clause-fits : goal.extend-requires-clause-fits
extend-requires-clause-fits c =
    subst (λ n. bound c.args.atoms.now ≤ n) (sym c.loop-run.invariant.searched.width) c.requires.fits

pub extend-requires-clause-within : goal.extend-requires-clause-within
extend-requires-clause-within c =
    let runs : AreRuns (length c.args.atoms.now) c.args.runs.now = c.requires.all in
    let among : Contains c.args.runs.now c.run-item.result = is_among c.args.runs.now c.loop-run.run-index c.run-item.result c.loop-run-test.true c.run-item.is in
    λ n h. runs.within c.run-item.result n among (subst (λ z. Contains z n) c.as_slice-in-loop-run-3.ensures h)

pub returns-then-not-branch-clause-none : goal.returns-then-not-branch-clause-none
returns-then-not-branch-clause-none c =
    let runs : AreRuns (length c.args.atoms.now) c.args.runs.now = c.requires.all in
    let among : Contains c.args.runs.now c.run-item.result = is_among c.args.runs.now c.loop-run.run-index c.run-item.result c.loop-run-test.true c.run-item.is in
    let free : AreUntouched (taken c.args.atoms.now c.run-item.result) c.loop-run.given c.loop-run.now.items = rw c.as_slice.ensures at (rw c.as_slice-in-loop-run.ensures at (rw c.as_slice-in-loop-run-2.ensures.value at (c.are_untouched.ensures c.if-not-are_untouched.false))) in
    let open_ : AreUntouched (taken c.args.atoms.now c.run-item.result) c.args.given c.loop-run.now.items = subst (λ g. AreUntouched (taken c.args.atoms.now c.run-item.result) g c.loop-run.now.items) c.loop-run.invariant.same free in
    let none : NoMatch c.args.store.now (taken c.args.atoms.now c.run-item.result) c.loop-run.now.items = rw c.as_slice-in-loop-run-3.ensures at (c.in_ok-extend.ensures.none c.if-not-branch.true) in
    none_of_taken c.args.store.now c.args.atoms.now c.run-item.result c.args.given (λ n h. runs.within c.run-item.result n among h)
    (none_before c.args.store.now (taken c.args.atoms.now c.run-item.result) c.args.given c.loop-run.now.items c.loop-run.invariant.searched.width c.loop-run.invariant.searched.kept open_ none)

pub loop-run-preserved : goal.loop-run-preserved
loop-run-preserved c =
    let w : Widens c.args.store.now (taken c.args.atoms.now c.run-item.result) c.loop-run.now.items c.extend.new.given.items = rw c.as_slice-in-loop-run-3.ensures at (c.in_ok-extend.ensures.found c.if-not-branch.false) in
    record {
      same = c.loop-run.invariant.same;
      searched = searched_more c.args.store.now c.args.atoms.now c.args.runs.now c.loop-run.run-index c.run-item.result c.args.given c.loop-run.now.items c.extend.new.given.items c.loop-run-test.true c.run-item.is c.loop-run.invariant.searched w;
    }

pub returns-clause-some : goal.returns-clause-some
returns-clause-some c =
    let runs : AreRuns (length c.args.atoms.now) c.args.runs.now = c.requires.all in
    rw c.from_vec.ensures (searched_all c.args.store.now c.args.atoms.now c.args.runs.now c.loop-run.run-index c.args.given c.loop-run.now.items c.loop-run-test.false runs c.loop-run.invariant.searched)

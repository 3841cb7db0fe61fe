use Rattle.std.proofs.Common.{rules, subst, sym, ap, ◌∙◌, ◌<◌, length, slice_index_or, Contains}
use Rattle.std.proofs.lemmas.List.{take_all}
use Rattle.meaning.specs.declared.types.Atom.{Atom}
use Rattle.meaning.specs.declared.types.Term.TheVariants.{Var}
use Rattle.homomorphism.specs.Widening.{AreUntouched, taken}
use Rattle.homomorphism.proofs.Runs.{untouched_more}
use Rattle.homomorphism.proofs.Touching.{default}
use Rattle.homomorphism.proofs.search.are_untouched.Goals as goal

pub bounds-atoms-number : goal.bounds-atoms-number
bounds-atoms-number c =
    let run = c.args.run.now in
    let i = c.loop-number.number-index in
    c.requires (slice_index_or run i 0) (i, c.loop-number-test.true, sym (default run i 0 (slice_index_or run i 0) c.loop-number-test.true))

pub offset_bounds-atoms-number : goal.offset_bounds-atoms-number
offset_bounds-atoms-number c =
    let run = c.args.run.now in
    let i = c.loop-number.number-index in
    let below : slice_index_or run i 0 < length c.args.atoms.now = c.requires (slice_index_or run i 0) (i, c.loop-number-test.true, sym (default run i 0 (slice_index_or run i 0) c.loop-number-test.true)) in
    search (rules, below)

pub loop-number-preserved : goal.loop-number-preserved
loop-number-preserved c =
    let run = c.args.run.now in
    let i = c.loop-number.number-index in
    let is = default run i 0 (slice_index_or run i 0) c.loop-number-test.true in
    let below = c.requires (slice_index_or run i 0) (i, c.loop-number-test.true, sym is) in
    untouched_more c.args.atoms.now run i (slice_index_or run i 0) c.index-atoms-number.result c.args.given.now c.args.now.now c.loop-number-test.true is below c.index-atoms-number.is c.loop-number.invariant
    (λ x h. c.is_untouched.ensures c.if-not-is_untouched.false x (subst (λ terms. Contains terms (Var x)) (ap (λ (t : Atom). t.terms) c.index-atoms-number.is ∙ sym c.as_slice.ensures) h))

pub returns : goal.returns
returns c = λ e. subst (λ done. AreUntouched (taken c.args.atoms.now done) c.args.given.now c.args.now.now) (take_all c.loop-number.number-index c.args.run.now c.loop-number-test.false) c.loop-number.invariant

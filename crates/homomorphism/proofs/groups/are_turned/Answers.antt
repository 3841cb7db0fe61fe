use Rattle.std.proofs.Common.{rules, ◌≡◌, subst, sym, ap, ◌∙◌, ◌<◌, length, slice_index_or, Contains}
use Rattle.std.proofs.lemmas.List.{take_all}
use Rattle.meaning.specs.declared.types.Atom.{Atom}
use Rattle.meaning.specs.declared.types.Term.TheVariants.{Var}
use Rattle.homomorphism.specs.Walks.{AreTurned}
use Rattle.homomorphism.specs.Widening.{taken}
use Rattle.homomorphism.proofs.Runs.{occurs_more}
use Rattle.homomorphism.proofs.Touching.{default}
use Rattle.homomorphism.proofs.groups.are_turned.Goals as goal

pub bounds-atoms-number : goal.bounds-atoms-number
bounds-atoms-number c =
    let run = c.args.run.now in
    let i = c.loop-number.number-index in
    c.requires (slice_index_or run i 0) (i, c.loop-number-test.true, sym (default run i 0 (slice_index_or run i 0) c.loop-number-test.true))

pub offset_bounds-atoms-number : goal.offset_bounds-atoms-number
offset_bounds-atoms-number c =
    let run = c.args.run.now in
    let i = c.loop-number.number-index in
    let below : slice_index_or run i 0 < length c.args.atoms.now = c.requires (slice_index_or run i 0) (i, c.loop-number-test.true, sym (default run i 0 (slice_index_or run i 0) c.loop-number-test.true)) in
    search (rules, below)

pub loop-number-preserved : goal.loop-number-preserved
loop-number-preserved c =
    let run = c.args.run.now in
    let owners = c.args.owners.now in
    let i = c.loop-number.number-index in
    let is = default run i 0 (slice_index_or run i 0) c.loop-number-test.true in
    let below = c.requires (slice_index_or run i 0) (i, c.loop-number-test.true, sym is) in
    occurs_more (λ x. x < length owners → slice_index_or c.args.counts.now (slice_index_or owners x 0) 0 ≡ slice_index_or c.args.whole.now (slice_index_or owners x 0) 0)
    c.args.atoms.now run i (slice_index_or run i 0) c.index-atoms-number.result c.loop-number-test.true is below c.index-atoms-number.is c.loop-number.invariant
    (λ x h. c.turn_all.ensures c.if-not-turn_all.false x (subst (λ terms. Contains terms (Var x)) (ap (λ (t : Atom). t.terms) c.index-atoms-number.is ∙ sym c.as_slice.ensures) h))

pub returns : goal.returns
returns c = λ e. subst (λ done. AreTurned c.args.owners.now c.args.whole.now (taken c.args.atoms.now done) c.args.counts.now) (take_all c.loop-number.number-index c.args.run.now c.loop-number-test.false) c.loop-number.invariant

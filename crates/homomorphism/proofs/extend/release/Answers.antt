use Rattle.std.proofs.Common.{rules, subst, sym, ◌<◌, length, slice_index_or}
use Rattle.std.proofs.lemmas.List.{take_all}
use Rattle.homomorphism.proofs.Touching.{AreReleased, default, released_more, restored}
use Rattle.homomorphism.proofs.extend.release.Goals as goal

pub index_mut-requires : goal.index_mut-requires
index_mut-requires c =
    let free = c.args.free.now in
    let i = c.loop-variable.variable-index in
    let is = default free i 0 (slice_index_or free i 0) c.loop-variable-test.true in
    let below : slice_index_or free i 0 < length c.loop-variable.given.items = subst (λ n. slice_index_or free i 0 < n) (sym c.loop-variable.invariant.0) (c.requires (slice_index_or free i 0) (i, c.loop-variable-test.true, sym is)) in
    search (rules, below)

pub loop-variable-preserved : goal.loop-variable-preserved
loop-variable-preserved c =
    let free = c.args.free.now in
    let i = c.loop-variable.variable-index in
    let is = default free i 0 (slice_index_or free i 0) c.loop-variable-test.true in
    let below : slice_index_or free i 0 < length c.loop-variable.given.items = subst (λ n. slice_index_or free i 0 < n) (sym c.loop-variable.invariant.0) (c.requires (slice_index_or free i 0) (i, c.loop-variable-test.true, sym is)) in
    released_more free i (slice_index_or free i 0) c.args.given.now.items c.loop-variable.given.items c.loop-variable-test.true is below c.loop-variable.invariant

pub returns : goal.returns
returns c = λ terms before f t. restored terms before c.args.given.now.items c.loop-variable.given.items c.args.free.now f t
    (subst (λ done. AreReleased done c.args.given.now.items c.loop-variable.given.items) (take_all c.loop-variable.variable-index c.args.free.now c.loop-variable-test.false) c.loop-variable.invariant)

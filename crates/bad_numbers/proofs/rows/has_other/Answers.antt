use Rattle.std.proofs.Common.{◌≡◌, [], Some, slice_get, sym, subst, arith}
use Rattle.std.proofs.lemmas.Option.{get_or_from_slice_get}
use Rattle.lists.proofs.Places.{got_contained}
use Rattle.meaning.specs.Values.{Row}
use Rattle.bad_numbers.proofs.rows.has_other.Goals as goal

pub returns-clause-none : goal.returns-clause-none
returns-clause-none g c = λ same row value there got.
    let is = get_or_from_slice_get (g.L.Listed.listed c.args.rows.now) there.0 row [] (got_contained (g.L.Listed.listed c.args.rows.now) row there) in
    c.loop-number.invariant there.0 value (omega (arith, there.1, c.count-number-end.ensures)) (subst (λ (r : Row). slice_get r c.args.column ≡ Some value) (sym is) got)

use Rattle.std.proofs.Common.{◌≢◌, ℕ, List, subst, slice_get, Some}
use Rattle.access_schema.specs.Names.{method_names}
use Rattle.access_schema.proofs.NamesFound.{not_among, in_none}
use Rattle.meaning.specs.declared.types.Method.{Method}
use Rattle.access_schema.proofs.schema.Schema.method.Goals as goal

pub loop-number-preserved : goal.loop-number-preserved
loop-number-preserved c = not_among (λ (r : Method). r.name) c.as_slice-method-items.result.now c.loop-number.number c.method-item.result c.args.name.now
    c.loop-number-test.true c.method-item.is (λ e. let f = c.if-same.ensures.1 e in cc) c.loop-number.invariant

pub returns : goal.returns
returns c =
    let P : List Method → Type 0 = λ rs. (k : ℕ) → slice_get (method_names rs) k ≢ Some c.args.name.now in
    subst P c.as_slice-method-items.ensures (in_none (λ (r : Method). r.name) c.as_slice-method-items.result.now c.loop-number.number c.args.name.now c.loop-number-test.false c.loop-number.invariant)

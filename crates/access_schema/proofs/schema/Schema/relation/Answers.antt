use Rattle.std.proofs.Common.{◌≢◌, ℕ, List, subst, slice_get, Some}
use Rattle.access_schema.specs.Names.{relation_names}
use Rattle.access_schema.proofs.NamesFound.{not_among, in_none}
use Rattle.meaning.specs.declared.types.Relation.{Relation}
use Rattle.access_schema.proofs.schema.Schema.relation.Goals as goal

pub loop-number-preserved : goal.loop-number-preserved
loop-number-preserved c = not_among (λ (r : Relation). r.name) c.as_slice-relation-items.result.now c.loop-number.number c.relation-item.result c.args.name.now
    c.loop-number-test.true c.relation-item.is (λ e. let f = c.if-same.ensures.1 e in cc) c.loop-number.invariant

pub returns : goal.returns
returns c =
    let P : List Relation → Type 0 = λ rs. (k : ℕ) → slice_get (relation_names rs) k ≢ Some c.args.name.now in
    subst P c.as_slice-relation-items.ensures (in_none (λ (r : Relation). r.name) c.as_slice-relation-items.result.now c.loop-number.number c.args.name.now c.loop-number-test.false c.loop-number.invariant)

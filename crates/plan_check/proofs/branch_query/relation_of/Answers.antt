use Rattle.std.proofs.Common.{sym, ap, ◌∙◌}
use Rattle.meaning.specs.declared.types.Method.{Method}
use Rattle.plan_check.proofs.Methods.{name_there, relation_is}
use Rattle.plan_check.proofs.branch_query.relation_of.Goals as goal

pub unreachable-requires : goal.unreachable-requires
unreachable-requires c =
    let (method, (among, named)) = c.requires in
    name_there c.args.schema.now.methods c.args.name.now method among named c.in-None.ensures

pub returns : goal.returns
returns c =
    let (found, named, e) = relation_is c.args.schema.now.methods c.args.name.now c.in-Some.number c.index-as_slice-number.result c.in-Some.ensures (rw c.as_slice.ensures at c.index-as_slice-number.is) in
    (found, named, ap (λ (m : Method). m.rel) (sym c.index-as_slice-number.is) ∙ e)

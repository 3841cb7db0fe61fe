use Rattle.std.proofs.Common.{arith}
use Rattle.plan_batches.proofs.Taking.{can_name_it, fails_first, wants_it}
use Rattle.plan_batches.proofs.naming.call_failed.Goals as goal

pub overflow_cast-result-in-Wants : goal.overflow_cast-result-in-Wants
overflow_cast-result-in-Wants c =
    let h = can_name_it c.args.goings.now c.requires.names c.first_with-plan.result c.args.number c.first_with-plan.ensures c.index-goings-plan.result c.in-Wants.pending c.in-Wants.is in
    let less = h.0 in omega (arith, less)

pub overflow_cast-result-in-Wants-2 : goal.overflow_cast-result-in-Wants-2
overflow_cast-result-in-Wants-2 c =
    let h = can_name_it c.args.goings.now c.requires.names c.first_with-plan.result c.args.number c.first_with-plan.ensures c.index-goings-plan.result c.in-Wants.pending c.in-Wants.is in
    let less = h.1 in omega (arith, less)

pub unreachable-requires : goal.unreachable-requires
unreachable-requires c =
    wants_it c.args.goings.now c.requires.names c.first_with-plan.result c.args.number c.first_with-plan.ensures c.index-goings-plan.result c.in-Done.field-0 c.in-Done.is

pub returns : goal.returns
returns c =
    fails_first c.args.goings.now c.requires.names c.first_with-plan.result c.args.number c.first_with-plan.ensures c.index-goings-plan.result c.in-Wants.pending c.in-Wants.is

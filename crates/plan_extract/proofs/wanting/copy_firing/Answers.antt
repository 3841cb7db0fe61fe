use Rattle.std.proofs.Common.{◌≡◌, ◌≤◌, ◌-◌, length, sym, ap, arith}
use Rattle.lists.proofs.Places.{got_none}
use Rattle.meaning.specs.Runs.{part_of}
use Rattle.plan_extract.proofs.GoingBack.{early_entry}
use Rattle.plan_extract.proofs.wanting.copy_firing.Goals as goal

pub returns-in-Base-clause-none : goal.returns-in-Base-clause-none
returns-in-Base-clause-none c =
    let part : part_of c.in-Some.entry.now.firing ≡ 0 = ap part_of c.in-Base.is in
    early_entry c.args.proof.now.entries c.args.left c.in-Some.entry.now (omega arith) (sym c.in-Some.ensures) (omega arith)

pub returns-in-Expose-clause-none : goal.returns-in-Expose-clause-none
returns-in-Expose-clause-none c =
    let part : part_of c.in-Some.entry.now.firing ≡ 1 = ap part_of c.in-Expose.is in
    early_entry c.args.proof.now.entries c.args.left c.in-Some.entry.now (omega arith) (sym c.in-Some.ensures) (omega arith)

pub returns-in-None-clause-none : goal.returns-in-None-clause-none
returns-in-None-clause-none c =
    let beyond : length c.args.proof.now.entries ≤ c.args.left - 1 = got_none c.args.proof.now.entries (c.args.left - 1) (sym c.in-None.ensures) in
    absurd (omega arith)

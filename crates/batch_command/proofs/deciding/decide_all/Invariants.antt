use Rattle.std.proofs.Common.{◌≡◌, ◌≤◌, List, take}
use Rattle.batch_command.specs.Deciding.{Told, AreTold, plans_of}
use Rattle.batch_command.proofs.deciding.decide_all.Given as goal

-- the statements up to here have these plans, whose texts were written
abbrev pub invariant-loop-statement : goal.invariant-loop-statement
invariant-loop-statement g l = record {
  told : (told : List Told) × AreTold l.schema l.limits.firings l.limits.search (take l.statement-index l.statements)
      (g.E.Sink.taken l.fn.err) (g.E.Sink.taken l.err) told
      × (l.plans.items ≡ plans_of told);
  later : g.E.Sink.faults l.fn.err ≤ g.E.Sink.faults l.err;
}

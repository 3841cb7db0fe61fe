use Rattle.std.proofs.Common.{◌≡◌, take}
use Rattle.homomorphism.proofs.Runs.{Searched}
use Rattle.homomorphism.proofs.search.search_apart.Given as goal

abbrev pub invariant-loop-run : goal.invariant-loop-run
invariant-loop-run l = record {
  same : l.given ≡ l.fn.given;
  searched : Searched l.store l.atoms (take l.run-index l.runs) l.fn.given l.now.items;
}

use Rattle.std.proofs.Common.{◌≡◌, ◌<◌, true, false, take}
use Rattle.std.specs.Prelude.{sum}
use Rattle.rule_pass.specs.Levels.{Raises}
use Rattle.rule_pass.proofs.levels.raise.Given as goal

-- the entries at the atoms so far are raised
abbrev pub invariant-loop-atom : goal.invariant-loop-atom
invariant-loop-atom l = record {
  raises : Raises (take l.atom-index l.atoms) l.least l.fn.levels l.levels;
  rose : l.rose ≡ true → sum l.fn.levels < sum l.levels;
  stays : l.rose ≡ false → l.levels ≡ l.fn.levels;
}

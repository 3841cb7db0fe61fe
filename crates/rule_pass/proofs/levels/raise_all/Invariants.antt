use Rattle.std.proofs.Common.{◌≡◌, ◌<◌, true, false, take}
use Rattle.std.specs.Prelude.{sum}
use Rattle.rule_pass.specs.Levels.{AreReached, Rise}
use Rattle.rule_pass.proofs.levels.raise_all.Given as goal

-- the entries are reached, and where none rose they rise along the rules so far
abbrev pub invariant-loop-rule : goal.invariant-loop-rule
invariant-loop-rule l = record {
  reached : AreReached l.rules l.levels;
  rose : l.rose ≡ true → sum l.fn.levels < sum l.levels;
  stays : l.rose ≡ false → l.levels ≡ l.fn.levels;
  rise : l.rose ≡ false → Rise (take l.rule-index l.rules) l.levels;
}

use Rattle.rule_pass.proofs.Chains.{are_short}
use Rattle.rule_pass.proofs.Tables.{levels_are, falls}
use Rattle.rule_pass.proofs.levels.raise_until_still.Goals as goal

pub raise_all-requires-clause-short : goal.raise_all-requires-clause-short
raise_all-requires-clause-short c = are_short c.args.rules.now c.requires.orderly.non_recursive

pub loop-smaller : goal.loop-smaller
loop-smaller c = falls c.args.rules.now c.loop.levels c.raise_all.new.levels c.raise_all.auto.levels (are_short c.args.rules.now c.requires.orderly.non_recursive) c.raise_all.ensures.reached (c.raise_all.ensures.rose c.loop-test.true)

pub raise_all-requires-clause-below : goal.raise_all-requires-clause-below
raise_all-requires-clause-below c = rw c.loop.auto.levels c.requires.below

pub returns : goal.returns
returns c = levels_are c.args.rules.now _ c.raise_all.ensures.reached (c.raise_all.ensures.stays c.loop-test.false)

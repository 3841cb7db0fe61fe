use Rattle.std.proofs.Common.{◌≡◌, ◌++◌, take}
use Rattle.source_trait.specs.Asking.{facts_of}
use Rattle.rule_rows.proofs.ask.add_facts.Given as goal

abbrev pub invariant-loop-number : goal.invariant-loop-number
invariant-loop-number l = l.facts ≡ l.fn.facts ++ facts_of l.rel (take l.number l.rows)

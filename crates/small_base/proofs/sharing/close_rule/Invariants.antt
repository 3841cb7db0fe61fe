use Rattle.std.proofs.Common.{length}
use Rattle.access_schema.specs.Meaning.{meaning_of}
use Rattle.small_base.specs.Closing.{GrowsFrom}
use Rattle.small_base.proofs.Growing.{AreLeft}
use Rattle.small_base.proofs.sharing.close_rule.Given as goal

-- the facts so far, and the matches that are left
abbrev pub invariant-loop-head : goal.invariant-loop-head
invariant-loop-head l = record {
  grows : GrowsFrom (meaning_of l.schema) l.fn.state.facts l.fn.state.next l.state;
  left : AreLeft l.fn.state.facts l.rule l.walk;
}

abbrev pub decreases-loop-head : goal.decreases-loop-head
decreases-loop-head l = length l.walk

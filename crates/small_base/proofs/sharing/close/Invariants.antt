use Rattle.access_schema.specs.Meaning.{meaning_of}
use Rattle.small_base.specs.Closing.{GrowsFrom}
use Rattle.small_base.proofs.sharing.close.Given as goal

-- the facts so far
abbrev pub invariant-loop-number : goal.invariant-loop-number
invariant-loop-number l = GrowsFrom (meaning_of l.schema) l.fn.state.facts l.fn.state.next l.state

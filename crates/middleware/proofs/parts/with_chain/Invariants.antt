use Rattle.std.proofs.Common.{◌-◌, ◌++◌, length}
use Rattle.source_trait.specs.Asking.{RowList}
use Rattle.middleware.specs.Parts.{IsChain}
use Rattle.middleware.proofs.Chains.{IsLeft}
use Rattle.middleware.proofs.parts.with_chain.Given as goal

-- what is left of the chain is still to be added
abbrev pub invariant-loop-number : goal.invariant-loop-number
invariant-loop-number l = (part : RowList) → IsChain l.answer l.next 0 l.fn.head part → IsLeft l.answer l.next l.number (l.fn.rows ++ part) l.more

abbrev pub decreases-loop-number : goal.decreases-loop-number
decreases-loop-number l = length l.answer - l.number

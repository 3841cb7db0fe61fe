use Rattle.source_trait.proofs.Indexing.{ChainsFrom, KeepCodes}
use Rattle.source_trait.proofs.index.chains.Given as goal

-- the places from the number on have their chains, and those before it their codes
abbrev pub invariant-loop-number : goal.invariant-loop-number
invariant-loop-number l = record {
  made : ChainsFrom l.fn.codes.items l.count l.number l.heads.items l.next.items;
  kept : KeepCodes l.fn.codes.items l.number l.next.items;
}

abbrev pub decreases-loop-number : goal.decreases-loop-number
decreases-loop-number l = l.number

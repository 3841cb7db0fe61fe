use Rattle.std.proofs.Common.{List, ℕ, take}
use Rattle.std.specs.Prelude.{Contains}
use Rattle.meaning.specs.Integers.{IsInteger}
use Rattle.access_schema.proofs.wrong_sort.has_other.Given as goal

-- the texts so far are integers
abbrev pub invariant-loop-text : goal.invariant-loop-text
invariant-loop-text l = (c : List ℕ) → Contains (take l.text-index l.texts) c → IsInteger c

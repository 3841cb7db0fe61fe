-- The head of a rule, made ready to be looked for.
use Rattle.std.specs.Prelude.{◌≡◌, ◌≤◌, length, true, false}
use Rattle.meaning.specs.declared.types.Rule.{Rule}
use Rattle.meaning.specs.Triggers.{bound}
use Rattle.homomorphism.specs.declared.head.Head.{Head}
use Rattle.homomorphism.specs.Widening.{AreRuns}

-- Where the head is known, each of its variables is one of the body's; else the runs have the numbers of its atoms.
pub record IsHeadOf (rule : Rule) (head : Head) : Type 0 where
  pub runs : head.is_known ≡ false → AreRuns (length rule.head) head.runs
  pub width : head.width ≡ bound rule.head
  pub known : head.is_known ≡ true → bound rule.head ≤ bound rule.body

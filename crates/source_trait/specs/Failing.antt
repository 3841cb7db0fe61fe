-- Calls that are to fail, by their numbers.
use Rattle.std.specs.Prelude.{◌≡◌, ℕ, ◌+◌, ◌-◌, ◌^◌, ◌≤◌, min, [], ◌⊎◌, Contains, Result, Ok, Err}
use Rattle.source_trait.specs.declared.failing.FailingCalls.{FailingCalls}
use Rattle.source_trait.specs.declared.source.AttachFault.{AttachFault}
use Rattle.source_trait.specs.declared.source.AttachFault.TheVariants.{Failed, NoMemory}

-- the count after one more; it stays at the greatest value of its counter
abbrev pub next : ℕ → ℕ
next count = min (count + 1) (2 ^ 64 - 1)

-- one more call is counted, and it is to fail where its number, counted from 1, is listed
abbrev pub IsDue : FailingCalls → Type 0
IsDue calls = Contains calls.numbers calls.made

-- a call of a form in memory fails just where it is to fail, unless memory ran out first, and only then the count of faults rises
pub record FailsAsListed (old new : FailingCalls) (faults_before faults_after : ℕ) (failed short : Type 0) : Type 0 where
  -- the call is counted
  pub counts : new.made ≡ next old.made
  -- the listed numbers stay
  pub stays : new.numbers ≡ old.numbers
  -- it fails only where its number is listed
  pub fails : failed → Contains old.numbers (next old.made)
  -- where its number is listed it fails
  pub listed : Contains old.numbers (next old.made) → failed ⊎ short
  -- a failure raises the count of faults by one
  pub raises : failed → faults_after ≡ next faults_before
  -- without a failure the count of faults stays
  pub quiet : ¬ failed → faults_after ≡ faults_before
  -- with no listed number the count of faults stays
  pub never : old.numbers ≡ [] → faults_after ≡ faults_before
  -- the count of faults does not fall
  pub later : faults_before ≤ faults_after

-- a count of the refusals of an attach that are faults of its data: neither failures nor want of memory
abbrev pub CountsRefusal : {T : Type 0} → Result T AttachFault → ℕ → ℕ → Type 0
CountsRefusal (Ok done) old new = new ≡ old
CountsRefusal (Err Failed) old new = new ≡ old
CountsRefusal (Err NoMemory) old new = new ≡ old
CountsRefusal (Err fault) old new = new ≡ next old

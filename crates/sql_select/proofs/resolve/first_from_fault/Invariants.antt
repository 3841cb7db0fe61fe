use Rattle.std.proofs.Common.{◌≡◌, [], take, drop}
use Rattle.std.specs.Prelude.{None}
use Rattle.sql_select.specs.Resolving.{from_fault}
use Rattle.sql_select.proofs.resolve.first_from_fault.Given as goal

-- the items that are left go on from the first fault so far
abbrev pub invariant-loop-place : goal.invariant-loop-place
invariant-loop-place l = from_fault l.relations (take l.place l.froms) l.first (drop l.place l.froms) ≡ from_fault l.relations [] None l.froms

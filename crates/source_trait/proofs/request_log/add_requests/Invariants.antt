use Rattle.std.proofs.Common.{◌≡◌, ◌+◌, ◌-◌, ◌++◌, List, length, replicate}
use Rattle.source_trait.specs.declared.request_log.Shape.{Shape}
use Rattle.source_trait.specs.RequestLog.{requests_in, width_of}
use Rattle.source_trait.proofs.request_log.add_requests.Given as goal

-- the requests so far and those that are left are all
abbrev pub invariant-loop : goal.invariant-loop
invariant-loop l = record {
  all : (later : List Shape) → l.requests ++ requests_in (replicate (l.run.count - l.counter) l.run.shape ++ later) l.left ≡ l.initial.requests ++ requests_in (replicate l.run.count l.run.shape ++ later) l.values;
  behind : width_of (replicate l.run.count l.run.shape) + length l.left ≡ width_of (replicate (l.run.count - l.counter) l.run.shape) + length l.values;
}

use Rattle.std.proofs.Common.{◌≡◌, ◌++◌, drop}
use Rattle.meaning.specs.Plans.{made}
use Rattle.meaning.specs.Judge.{terms_of}
use Rattle.plan_check.proofs.branch_query.terms.Given as goal

-- the terms so far, and those of the places that are left
abbrev pub invariant-loop-place : goal.invariant-loop-place
invariant-loop-place l = record {
  terms : terms_of l.before l.places ≡ l.terms.items ++ terms_of l.columns (drop l.place-index l.places);
  columns : made l.before l.places ≡ made l.columns (drop l.place-index l.places);
}

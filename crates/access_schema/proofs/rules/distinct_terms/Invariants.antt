use Rattle.std.proofs.Common.{◌≡◌, map}
use Rattle.std.specs.List.{range_with_len}
use Rattle.meaning.specs.declared.types.Term.TheVariants as term
use Rattle.access_schema.proofs.rules.distinct_terms.Given as goal

-- the variables so far
abbrev pub invariant-loop-number : goal.invariant-loop-number
invariant-loop-number l = l.terms.items ≡ map term.Var (range_with_len 0 l.number)

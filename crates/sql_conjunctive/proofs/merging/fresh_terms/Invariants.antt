use Rattle.std.proofs.Common.{◌≡◌, ◌+◌, ◌*◌}
use Rattle.std.specs.Prelude.{map}
use Rattle.std.specs.List.{range_with_len}
use Rattle.meaning.specs.declared.types.Term.TheVariants.{Var}
use Rattle.sql_conjunctive.proofs.merging.fresh_terms.Given as goal

abbrev pub invariant-loop-column : goal.invariant-loop-column
invariant-loop-column l = l.terms.items ≡ map (λ c. Var (l.from * 64 + c)) (range_with_len 0 l.column)

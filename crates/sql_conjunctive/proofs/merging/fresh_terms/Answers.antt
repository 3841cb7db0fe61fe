use Rattle.std.proofs.Common.{◌+◌, ◌*◌, arith}
use Rattle.std.proofs.lemmas.Grind.{common_steps}
use Rattle.std.proofs.lemmas.List.FromFn.{map-range_with_len_more}
use Rattle.meaning.specs.declared.types.Term.{Term}
use Rattle.meaning.specs.declared.types.Term.TheVariants.{Var}
use Rattle.sql_conjunctive.proofs.merging.fresh_terms.Goals as goal

pub loop-column-preserved : goal.loop-column-preserved
loop-column-preserved c =
    let more = map-range_with_len_more {X = Term} (λ k. Var (c.args.from * 64 + k)) 0 c.loop-column.column c.loop-column.column (omega arith) in
    grind (arith, common_steps, more)

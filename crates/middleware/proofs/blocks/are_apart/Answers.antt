use Rattle.std.proofs.Common.{List, ℕ, subst, sym, arith}
use Rattle.std.specs.Prelude.{Contains}
use Rattle.std.proofs.lemmas.List.{take_all}
use Rattle.middleware.proofs.Gathering.{apart_more}
use Rattle.middleware.proofs.blocks.are_apart.Goals as goal

pub loop-column-preserved : goal.loop-column-preserved
loop-column-preserved c = apart_more c.args.columns.now c.args.others.now c.loop-column.column-index 0 (omega arith) c.in-None.ensures c.loop-column.invariant

pub returns : goal.returns
returns c = λ t k here there.
    c.loop-column.invariant k (subst (λ (l : List ℕ). Contains l k) (sym (take_all c.loop-column.column-index c.args.columns.now (omega arith))) here) there

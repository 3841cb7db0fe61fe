use Rattle.std.proofs.Common.{[], List, ℕ, get_or, subst, arith}
use Rattle.std.proofs.lemmas.List.Elements.{Contains-get_or}
use Rattle.middleware.specs.Blocks.{IsApart}
use Rattle.middleware.proofs.blocks.stays.Goals as goal

pub returns-clause-some : goal.returns-clause-some
returns-clause-some c = λ t. (get_or c.args.block.now.rows 0 [], Contains-get_or c.args.block.now.rows 0 [] (omega arith))

pub returns-clause-lacks : goal.returns-clause-lacks
returns-clause-lacks c = λ t. subst (λ (l : List ℕ). IsApart l c.args.columns.now) c.as_slice.ensures (c.are_apart.ensures t)

use Rattle.std.proofs.Common.{◌∙◌, List, ℕ, subst, []}
use Rattle.middleware.specs.Blocks.{Gathers}
use Rattle.middleware.proofs.block_round.checked_blocks.Goals as goal

pub returns : goal.returns
returns c = record {
  both = c.in_ok-table.field-0.table;
  cut = c.cut_unless.result;
  rest = c.in_ok-table.field-0.rest.items;
  gathers = subst (λ (l : List ℕ). Gathers c.args.count l c.args.grown c.args.others.items c.in_ok-table.field-0.table [] c.in_ok-table.field-0.rest.items) (c.as_slice.ensures ∙ c.in_ok-columns.ensures) c.in_ok-table.ensures;
  cuts = c.cut_unless.ensures;
  blocks_are = c.in_ok-push.ensures.items;
}

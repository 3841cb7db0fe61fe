use Rattle.std.proofs.Common.{[], List, ℕ, refl, subst}
use Rattle.meaning.specs.declared.types.Place.{Place}
use Rattle.middleware.specs.Naming.{AreAsked, IsLocal}
use Rattle.middleware.specs.Blocks.{Gathers}
use Rattle.middleware.proofs.block_round.asking_of.Goals as goal

pub returns : goal.returns
returns c = record {
  columns = c.in_ok-asked.asked.items;
  first = c.in_ok-first.first;
  table = c.in_ok-table.field-0.table;
  first_rows = c.in_ok-first.ensures.rows;
  first_columns = c.in_ok-first.ensures.columns;
  asked = subst (λ (l : List ℕ). AreAsked c.in_ok-asked.asked.items c.args.step.now.places l) c.as_slice.ensures
      (subst (λ (l : List Place). AreAsked c.in_ok-asked.asked.items l c.as_slice.result.now) c.as_slice-places.ensures c.in_ok-asked.ensures);
  gathers = subst (λ (l : List ℕ). Gathers c.args.count l c.in_ok-first.first c.args.blocks.items c.in_ok-table.field-0.table [] c.in_ok-table.field-0.rest.items) c.as_slice-2.ensures.value c.in_ok-table.ensures;
  local = subst (λ (l : List Place). IsLocal c.in_ok-table.field-0.table.columns c.args.count l c.in_ok-named.named.places c.in_ok-named.named.columns) c.as_slice-places.ensures c.in_ok-named.ensures.local;
  rows_are = refl;
  count_is = rw c.as_slice-places.ensures at c.in_ok-named.ensures.count;
  method_is = c.in_ok-copy.ensures;
}

use Rattle.std.proofs.Common.{◌≡◌, ◌∙◌, List, ap, map, subst}
use Rattle.std.specs.Prelude.{flat_map}
use Rattle.meaning.specs.declared.types.Place.{Place}
use Rattle.meaning.specs.declared.types.Place.TheVariants.{Col}
use Rattle.middleware.specs.Joining.{grown}
use Rattle.middleware.specs.Naming.{IsLocal}
use Rattle.middleware.proofs.Gathering.{is_join}
use Rattle.middleware.proofs.crossing.join_rows.Goals as goal

pub returns : goal.returns
returns c =
    let names = c.as_slice-2.ensures ∙ c.in_ok-names.ensures ∙ ap (map Col) c.as_slice.ensures in
    is_join c.args.count c.args.table c.args.block (record { columns = c.in_ok-named.named.columns; rows = c.in_ok-rows.rows }) c.requires.table c.requires.block
    c.in_ok-first.first c.in_ok-second.second c.in_ok-first.ensures.same c.in_ok-second.ensures.same c.in_ok-named.named.places
    (subst (λ (l : List Place). IsLocal c.args.table.columns c.args.count l c.in_ok-named.named.places c.in_ok-named.named.columns) names c.in_ok-named.ensures.local)
    (subst (λ (l : List Place). c.in_ok-rows.rows ≡ flat_map (grown l c.in_ok-second.second) c.in_ok-first.first) c.as_slice-3.ensures c.in_ok-rows.ensures)

use Rattle.std.proofs.Common.{◌≡◌, rules}
use Rattle.std.specs.Prelude.{Some}
use Rattle.access_schema.specs.Meaning.{meaning_of}
use Rattle.sql_conjunctive.specs.Merging.{opening_from, met_all}
use Rattle.sql_conjunctive.proofs.Forming.{narrow, small_order}
use Rattle.sql_conjunctive.proofs.conjoin.form_of.Goals as goal

pub opening-requires-clause-narrow : goal.opening-requires-clause-narrow
opening-requires-clause-narrow c = narrow c.args.schema.now

pub query_of-requires : goal.query_of-requires
query_of-requires c =
    let made : met_all (opening_from c.args.schema.now.relations 0 c.args.select.now.froms) c.args.select.now.conditions ≡ Some c.in-Some.merged.items = search rules in
    record { few = small_order (meaning_of c.args.schema.now) c.args.select.now c.requires.fits (narrow c.args.schema.now) c.in-Some.merged.items made c.requires.froms }

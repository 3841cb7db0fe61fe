use Rattle.std.proofs.Common.{◌≡◌, [], length, rules}
use Rattle.std.specs.Prelude.{map}
use Rattle.meaning.specs.Conjunctive.{term_of}
use Rattle.sql_conjunctive.specs.Merging.{with_terms}
use Rattle.sql_conjunctive.specs.Numbering.{order_through, number_in}
use Rattle.sql_conjunctive.proofs.Forming.{made_is}
use Rattle.sql_conjunctive.proofs.conjoin.query_of.Goals as goal

pub returns : goal.returns
returns c =
    let ordered : c.in_ok-order.order.items ≡ order_through [] c.args.merged.items = search rules in
    let atoms : c.from_vec.result ≡ map (with_terms (number_in c.in_ok-order.order.items)) c.args.merged.items = search rules in
    let head : c.from_vec-2.result ≡ map (term_of c.from_vec.result) c.args.items.now = search rules in
    let count : c.len.result ≡ length c.in_ok-order.order.items = search rules in
    made_is c.args.merged.items c.from_vec.result c.args.items.now c.in_ok-order.order.items c.from_vec-2.result c.len.result ordered atoms head count

use Rattle.std.proofs.Common.{arith}
use Rattle.middleware.proofs.NamedPlaces.{all_named, named_more, count_named}
use Rattle.middleware.proofs.naming.named_places.Goals as goal

pub loop-place-preserved : goal.loop-place-preserved
loop-place-preserved c =
    let l = c.loop-place in record {
      goes_on = named_more c.args.columns c.args.count c.args.places.now l.place-index l.named c.place-item.result (omega arith) c.place-item.is c.in_ok-named.named c.in_ok-named.ensures l.invariant.goes_on;
      count = count_named c.args.columns c.args.count c.args.places.now l.place-index l.named c.place-item.result (omega arith) c.place-item.is c.in_ok-named.named c.in_ok-named.ensures l.invariant.count;
    }

pub returns-clause-local : goal.returns-clause-local
returns-clause-local c = all_named c.args.columns c.args.count c.args.places.now c.loop-place.place-index c.loop-place.named (omega arith) c.loop-place.invariant.goes_on

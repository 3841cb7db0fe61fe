use Rattle.std.proofs.Common.{List, refl, subst}
use Rattle.std.specs.Prelude.{Contains}
use Rattle.meaning.specs.Values.{Value}
use Rattle.crawl.specs.Knowing.{TakesIn}
use Rattle.crawl.proofs.Gaining.{begins}
use Rattle.crawl.proofs.progress.Progress.new.Goals as goal

pub returns : goal.returns
returns c =
    let took = subst (λ (l : List Value). TakesIn (Contains l) c.new-known.result c.take_in.new.self)
    c.in_ok-found.ensures c.in_ok-take_in.ensures in
    begins c.args.constants.now c.new-known.result c.new-known.ensures.all c.new-known.ensures.fresh
    c.take_in.new.self took
    (record { known = c.arrange.new.self; found = record { list = c.take_in.new.values }; received = c.new.result; made = 0; rounds = 0 })
    c.arrange.ensures.all c.arrange.ensures.same c.arrange.ensures.ascend c.new.ensures.items refl refl

use Rattle.std.proofs.Common.{rules}
use Rattle.least_search.proofs.Keeping.{first_kept, first_way, only_way}
use Rattle.least_search.proofs.frontier.Frontier.start.Goals as goal

pub returns-clause-sound : goal.returns-clause-sound
returns-clause-sound c =
    first_kept c.args.cuts.now c.args.bound c.args.facts c.new.result c.in_ok-first_waiting.field-0 c.new.ensures c.in_ok-first_waiting.ensures.only c.new-2.result.items c.new-3.result (search rules) c.new-3.ensures

pub returns-clause-here : goal.returns-clause-here
returns-clause-here c less =
    let (waiter, there, zero) = c.in_ok-first_waiting.ensures.here less in
    first_way c.args.cuts.now c.args.bound c.args.facts c.new.result c.in_ok-first_waiting.field-0 c.new.ensures waiter there zero

pub returns-clause-only : goal.returns-clause-only
returns-clause-only c = only_way c.args.cuts.now c.args.bound c.args.facts c.new.result c.in_ok-first_waiting.field-0 c.new.ensures c.in_ok-first_waiting.ensures.only

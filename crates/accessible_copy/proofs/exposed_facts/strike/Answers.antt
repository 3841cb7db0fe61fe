use Rattle.std.proofs.Common.{◌≡◌, ◌≢◌, ◌-◌, length, take, rules, arith}
use Rattle.std.specs.Prelude.{slice_index}
use Rattle.accessible_copy.proofs.Others.{without_first, without_other}
use Rattle.accessible_copy.proofs.exposed_facts.strike.Goals as goal

pub returns-then-place_at-facts : goal.returns-then-place_at-facts
returns-then-place_at-facts c =
    let is : slice_index c.args.firsts.now c.args.fact.now.rel ≡ length c.args.facts.now = let at = c.place_at.ensures in let same = c.if-place_at-facts.true in omega arith in
    λ are. without_first c.args.facts.now c.args.fact.now c.args.firsts.now c.args.others.now is are

pub returns : goal.returns
returns c =
    let others = c.args.others.now in
    let not : slice_index c.args.firsts.now c.args.fact.now.rel ≢ length c.args.facts.now = λ e. let at = c.place_at.ensures in let apart = c.if-place_at-facts.false in omega arith in
    let count : c.saturating_sub.result ≡ length others - 1 = search rules in
    let cut : c.truncate.new.self ≡ take (length others - 1) others = search rules in
    λ are. rw cut (without_other c.args.facts.now c.args.fact.now c.args.firsts.now others not are)

use Rattle.std.proofs.Common.{ℕ, length}
use Rattle.std.specs.Prelude.{slice_index}
use Rattle.meaning.specs.RuleOrder.{IsLevel}
use Rattle.rule_pass.specs.Levels.{RulesAreBelow}
use Rattle.rule_pass.specs.Ranks.{AreRanked}
use Rattle.rule_pass.proofs.Ranking.{sorted_is_order}
use Rattle.rule_pass.proofs.order.rule_order.Goals as goal

pub ranked_rules-requires-clause-below : goal.ranked_rules-requires-clause-below
ranked_rules-requires-clause-below c =
    let below : RulesAreBelow (length c.in_ok-levels.levels.items) c.args.rules.now = rw c.as_slice.ensures at c.in_ok-levels.ensures.below in
    rw (c.as_slice-2.ensures, c.as_slice-3.ensures.value) below

pub returns : goal.returns
returns c =
    let are : (rel : ℕ) → IsLevel c.args.rules.now rel (slice_index c.in_ok-levels.levels.items rel) = rw c.as_slice.ensures at c.in_ok-levels.ensures.levels in
    let ranks : AreRanked c.args.rules.now c.in_ok-levels.levels.items c.in_ok-ranked.ranked.items = rw (c.as_slice-2.ensures, c.as_slice-3.ensures.value) at c.in_ok-ranked.ensures in
    rw (c.from_vec.ensures, c.in_ok-numbers.ensures, c.as_slice-4.ensures.value)
    (sorted_is_order c.args.rules.now c.in_ok-levels.levels.items c.in_ok-ranked.ranked.items c.sort_unstable.new.self.items c.requires are ranks c.sort_unstable.ensures.permutation c.sort_unstable.ensures.sorted)

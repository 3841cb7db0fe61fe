use Rattle.std.proofs.Common.{◌≡◌, ◌++◌, ◌∷◌, [], ◌<◌, ◌+◌, take, arith, subst, sym, ◌∙◌}
use Rattle.std.specs.Prelude.{Contains, sum}
use Rattle.std.proofs.lemmas.List.{take_all}
use Rattle.lists.proofs.Places.{take_indexed}
use Rattle.rule_pass.specs.Levels.{AreReached, Raises, Rise, greatest_level}
use Rattle.homomorphism.proofs.AtomByAtom.{is_among}
use Rattle.rule_pass.proofs.Tables.{few_steps, reached_more, sum_kept, rise_more}
use Rattle.rule_pass.proofs.levels.raise_all.Goals.{then-raise, else-raise}
use Rattle.rule_pass.proofs.levels.raise_all.Goals as goal

pub greatest_level-least-requires : goal.greatest_level-least-requires
greatest_level-least-requires c =
    let among : Contains c.args.rules.now c.rule-item.result = is_among c.args.rules.now c.loop-rule.rule-index c.rule-item.result c.loop-rule-test.true c.rule-item.is in
    rw (c.as_slice.ensures, c.loop-rule.auto.levels) (c.requires.below c.rule-item.result among).0

pub overflow_add-least : goal.overflow_add-least
overflow_add-least c =
    let among : Contains c.args.rules.now c.rule-item.result = is_among c.args.rules.now c.loop-rule.rule-index c.rule-item.result c.loop-rule-test.true c.rule-item.is in
    let few = few_steps c.args.rules.now c.loop-rule.levels c.rule-item.result.body (c.requires.orderly.bodies c.rule-item.result among) c.requires.short c.loop-rule.invariant.reached in
    let is : c.greatest_level-least.result ≡ greatest_level c.loop-rule.levels c.rule-item.result.body = rw c.as_slice.ensures at c.greatest_level-least.ensures in
    let most = c.requires.orderly.few in omega arith

pub raise-requires : goal.raise-requires
raise-requires c =
    let among : Contains c.args.rules.now c.rule-item.result = is_among c.args.rules.now c.loop-rule.rule-index c.rule-item.result c.loop-rule-test.true c.rule-item.is in
    rw (c.as_slice-in-loop-rule.ensures, c.loop-rule.auto.levels) (c.requires.below c.rule-item.result among).1

pub loop-rule-preserved : goal.loop-rule-preserved
loop-rule-preserved c =
    let among : Contains c.args.rules.now c.rule-item.result = is_among c.args.rules.now c.loop-rule.rule-index c.rule-item.result c.loop-rule-test.true c.rule-item.is in
    let one_more : take (c.loop-rule.rule-index + 1) c.args.rules.now ≡ take c.loop-rule.rule-index c.args.rules.now ++ c.rule-item.result ∷ [] = take_indexed c.args.rules.now c.loop-rule.rule-index c.rule-item.result c.loop-rule-test.true c.rule-item.is in
    let is : c.greatest_level-least.result ≡ greatest_level c.loop-rule.levels c.rule-item.result.body = rw c.as_slice.ensures at c.greatest_level-least.ensures in
    let raises : Raises c.rule-item.result.head (greatest_level c.loop-rule.levels c.rule-item.result.body + 1) c.loop-rule.levels c.raise.new.levels = rw (c.as_slice-in-loop-rule.ensures, is) at c.raise.ensures.raises in
    let reached : AreReached c.args.rules.now c.raise.new.levels = reached_more c.args.rules.now c.rule-item.result c.loop-rule.levels c.raise.new.levels among (c.requires.orderly.bodies c.rule-item.result among) c.loop-rule.invariant.reached raises in
    elim c.if-raise.branch [
      | then-raise w ↦
          let before = sum_kept c.loop-rule.rose c.args.levels.now c.loop-rule.levels c.loop-rule.invariant.rose c.loop-rule.invariant.stays in
          let rises = c.raise.ensures.rose w.if-raise.true in
          record { reached = reached; rose = λ e. omega arith; stays = λ e. absurd (cc); rise = λ e. absurd (cc) }
      | else-raise w ↦
          let same : c.raise.new.levels ≡ c.loop-rule.levels = c.raise.ensures.stays w.if-raise.false in
          record {
            reached = reached;
            rose = λ e. subst (λ levels. sum c.args.levels.now < sum levels) (sym same) (c.loop-rule.invariant.rose (sym w.rose-is ∙ e));
            stays = λ e. same ∙ c.loop-rule.invariant.stays (sym w.rose-is ∙ e);
            rise = λ e. subst (λ rules. Rise rules c.raise.new.levels) (sym one_more) (subst (Rise (take c.loop-rule.rule-index c.args.rules.now ++ c.rule-item.result ∷ [])) (sym same)
                (rise_more (take c.loop-rule.rule-index c.args.rules.now) c.rule-item.result c.loop-rule.levels
                (subst (Raises c.rule-item.result.head (greatest_level c.loop-rule.levels c.rule-item.result.body + 1) c.loop-rule.levels) same raises) (c.loop-rule.invariant.rise (sym w.rose-is ∙ e))));
          }
    ]

pub returns-clause-stays : goal.returns-clause-stays
returns-clause-stays c = λ e. subst (λ rules. Rise rules c.loop-rule.levels) (take_all c.loop-rule.rule-index c.args.rules.now c.loop-rule-test.false) (c.loop-rule.invariant.rise e)

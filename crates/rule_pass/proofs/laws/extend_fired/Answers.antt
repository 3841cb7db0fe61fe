use Rattle.std.proofs.Common.{◌∷◌, []}
use Rattle.rule_pass.proofs.laws.extend_fired.Goals as goal

pub returns : goal.returns
returns c =
    c.extend_list.ensures c.args.rules.now (c.args.trigger.now ∷ []) c.args.start.now c.args.end.now c.args.instance.now c.args.map.now c.requires.numbered c.requires.meets c.next-above.ensures.labels
    (c.requires.fired.rule, c.requires.fired.active.trigger_is, c.requires.fired.now_is) c.requires.values c.requires.carries

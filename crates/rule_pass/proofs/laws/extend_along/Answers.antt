use Rattle.rule_pass.proofs.laws.extend_along.Goals as goal

pub returns : goal.returns
returns c =
    c.extend_list.ensures c.args.rules.now c.args.log.now c.args.start.now c.args.end.now c.args.instance.now c.args.map.now c.requires.numbered c.requires.meets c.next-above.ensures.labels
    (c.base_run_fires.ensures c.args.rules.now c.args.log.now c.args.start.now c.args.end.now c.requires.run) c.requires.values c.requires.carries

use Rattle.std.proofs.lemmas.Result.{IfOk-weaker}
use Rattle.rule_pass.proofs.Bounds.{orderly}
use Rattle.rule_pass.proofs.Chains.{are_short}
use Rattle.access_schema.specs.Meaning.{meaning_of}
use Rattle.exposure_search.proofs.Visited.{gone_back, still_seen, end_if}
use Rattle.exposure_search.proofs.visiting.look_along.Goals as goal

pub returns-clause-exposes : goal.returns-clause-exposes
returns-clause-exposes c =
    (gone_back (meaning_of c.args.aim.now.schema.now) c.args.aim.now.queries.now c.args.aim.now.head.now c.args.aim.now.budget c.args.aim.now.marks c.args.proof.now c.go_along.new.proof c.args.path.now c.args.set.now c.in_ok-go_along.ensures.exposes c.in_ok-go_along.ensures.same c.in_ok-go_along.ensures.made c.requires.walk
    c.look-seen.new.proof c.look-seen.ensures.run c.look-seen.ensures.settles c.undo.new.proof c.mark-made.result.firings (c.undo.ensures.run (meaning_of c.args.aim.now.schema.now) c.look-seen.ensures.run) c.undo.ensures.constants c.undo.ensures.start c.mark-made.ensures c.undo.ensures.log).0

pub returns-clause-same : goal.returns-clause-same
returns-clause-same c =
    (gone_back (meaning_of c.args.aim.now.schema.now) c.args.aim.now.queries.now c.args.aim.now.head.now c.args.aim.now.budget c.args.aim.now.marks c.args.proof.now c.go_along.new.proof c.args.path.now c.args.set.now c.in_ok-go_along.ensures.exposes c.in_ok-go_along.ensures.same c.in_ok-go_along.ensures.made c.requires.walk
    c.look-seen.new.proof c.look-seen.ensures.run c.look-seen.ensures.settles c.undo.new.proof c.mark-made.result.firings (c.undo.ensures.run (meaning_of c.args.aim.now.schema.now) c.look-seen.ensures.run) c.undo.ensures.constants c.undo.ensures.start c.mark-made.ensures c.undo.ensures.log).1

pub returns-clause-made : goal.returns-clause-made
returns-clause-made c =
    let made = (gone_back (meaning_of c.args.aim.now.schema.now) c.args.aim.now.queries.now c.args.aim.now.head.now c.args.aim.now.budget c.args.aim.now.marks c.args.proof.now c.go_along.new.proof c.args.path.now c.args.set.now c.in_ok-go_along.ensures.exposes c.in_ok-go_along.ensures.same c.in_ok-go_along.ensures.made c.requires.walk
    c.look-seen.new.proof c.look-seen.ensures.run c.look-seen.ensures.settles c.undo.new.proof c.mark-made.result.firings (c.undo.ensures.run (meaning_of c.args.aim.now.schema.now) c.look-seen.ensures.run) c.undo.ensures.constants c.undo.ensures.start c.mark-made.ensures c.undo.ensures.log).2 in
    IfOk-weaker c.look-seen.result _ _ (λ seen counted. made) c.look-seen.ensures.fired

pub returns-clause-ended : goal.returns-clause-ended
returns-clause-ended c =
    end_if (meaning_of c.args.aim.now.schema.now) c.args.aim.now.queries.now c.args.aim.now.head.now c.args.aim.now.budget c.args.aim.now.marks c.args.proof.now c.go_along.new.proof c.args.path.now c.args.set.now c.in_ok-go_along.ensures.exposes c.in_ok-go_along.ensures.same c.in_ok-go_along.ensures.made c.requires.walk
    c.look-seen.new.proof c.look-seen.ensures.run c.look-seen.ensures.settles c.requires.aimed.named (are_short c.args.aim.now.schema.now.rules (orderly c.args.aim.now.schema.now).non_recursive) c.requires.aimed.ready.relevant c.look-seen.result c.look-seen.ensures.goal
    (IfOk-weaker c.look-seen.result _ _ (λ seen still e. still_seen (meaning_of c.args.aim.now.schema.now) c.args.aim.now.queries.now c.args.aim.now.head.now c.args.aim.now.budget c.args.aim.now.marks c.args.proof.now c.go_along.new.proof c.args.path.now c.args.set.now c.in_ok-go_along.ensures.exposes c.in_ok-go_along.ensures.same c.in_ok-go_along.ensures.made c.requires.walk
    c.look-seen.new.proof c.look-seen.ensures.run c.look-seen.ensures.settles c.args.aim.now.facts.items c.requires.aimed.ready.facts_are c.args.fires c.requires.still (still e)) c.look-seen.ensures.still)
    c.look-seen.ensures.none c.look-seen.ensures.labels c.look-seen.ensures.long c.look-seen.ensures.due c.look-seen.ensures.fired

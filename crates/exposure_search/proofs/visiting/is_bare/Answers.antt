use Rattle.std.proofs.Common.{◌≡◌, List, false, subst, rules, arith}
use Rattle.meaning.specs.declared.types.Ground.{Ground}
use Rattle.access_schema.specs.Meaning.{meaning_of}
use Rattle.rule_pass.proofs.Bounds.{orderly}
use Rattle.rule_pass.proofs.Chains.{are_short}
use Rattle.exposure_search.specs.Making.{CannotMake}
use Rattle.exposure_search.specs.Ahead.{CannotMatch, facts_along}
use Rattle.exposure_search.proofs.Early.{none_bare, none_along}
use Rattle.exposure_search.proofs.visiting.is_bare.Goals as goal

pub returns : goal.returns
returns c e =
    let aim = c.args.aim.now in
    let ready = c.requires.aimed.ready in
    let off : c.needs_look.result ≡ false = search (e, rules) in
    none_bare (meaning_of aim.schema.now) c.args.proof.now c.args.path.now c.args.set.now c.requires.walk aim.queries.now aim.head.now aim.budget aim.marks c.requires.aimed.named
    (let next = c.next-next.ensures in omega arith) (are_short aim.schema.now.rules (orderly aim.schema.now).non_recursive) ready.relevant
    (subst (λ (facts : List Ground). CannotMake aim.schema.now.rules aim.marks.makers.items (facts_along facts c.args.path.now)) ready.facts_are (c.requires.still c.if-fires.false))
    (subst (λ (facts : List Ground). CannotMatch aim.queries.now (facts_along facts c.args.path.now)) ready.facts_are (c.needs_look.ensures off))

pub returns-then-fires : goal.returns-then-fires
returns-then-fires c e =
    let aim = c.args.aim.now in
    none_along (meaning_of aim.schema.now) c.args.proof.now c.args.path.now c.args.set.now c.requires.walk aim.queries.now aim.head.now aim.budget aim.marks (c.is_refuted.ensures e)

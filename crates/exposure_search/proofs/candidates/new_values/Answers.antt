use Rattle.std.proofs.Common.{◌↔◌, List, subst}
use Rattle.std.proofs.lemmas.List.{take_all}
use Rattle.lists.proofs.Places.{got_indexed}
use Rattle.meaning.specs.declared.types.Ground.{Ground}
use Rattle.meaning.specs.declared.types.Val.{Val}
use Rattle.accessible_copy.specs.Known.{known_values}
use Rattle.exposure_search.specs.Candidates.{AreHeld, AreKnown}
use Rattle.exposure_search.proofs.MovesFrom.{brought_more}
use Rattle.exposure_search.proofs.candidates.new_values.Goals as goal

pub loop-val-preserved : goal.loop-val-preserved
loop-val-preserved c exposed =
    brought_more c.args.proof.now.constants exposed c.loop-val.brings.items c.add_new.new.values.items c.val-item.result (c.in_ok-add_new.ensures exposed) c.args.vals.now c.loop-val.val-index
    (got_indexed c.args.vals.now c.loop-val.val-index c.val-item.result c.loop-val-test.true c.val-item.is) (c.loop-val.invariant exposed)

pub returns : goal.returns
returns c =
    subst (λ (vals : List Val). (exposed : List Ground) → AreHeld exposed c.loop-val.brings.items ↔ AreKnown (known_values c.args.proof.now.constants exposed) vals) (take_all c.loop-val.val-index c.args.vals.now c.loop-val-test.false) c.loop-val.invariant

use Rattle.std.proofs.Common.{◌+◌, ◌<◌, List, slice_index_or, refl, sym, ◌∙◌, subst}
use Rattle.std.proofs.lemmas.List.Elements.{Contains-get_or}
use Rattle.least_search.specs.declared.cuts.Cut.{Cut}
use Rattle.least_search.specs.Ways.{Way, way_with}
use Rattle.least_search.specs.Walks.{with_fact}
use Rattle.least_search.specs.Cuts.{sum_of}
use Rattle.least_search.specs.Frontier.{way_of, looked_in, waiting_in, IsKnown}
use Rattle.least_search.proofs.Steps.{pushed_none, pushed_more, pushed_all}
use Rattle.least_search.proofs.search.push_moves.Goals as goal

pub add_move-requires-clause-free : goal.add_move-requires-clause-free
add_move-requires-clause-free c =
    c.requires.free (slice_index_or c.args.moves.now c.loop-step.step-index (record { fact = 0; method = 0; cost = 0 })) (Contains-get_or c.args.moves.now c.loop-step.step-index (record { fact = 0; method = 0; cost = 0 }) c.loop-step-test.true)

pub add_move-requires-clause-low : goal.add_move-requires-clause-low
add_move-requires-clause-low c = subst (λ b. c.args.taken.now.node.cost < b) (sym c.loop-step.invariant.alike.bound) c.requires.low

pub loop-step-init : goal.loop-step-init
loop-step-init c = record {
  sound = c.requires.sound;
  from = c.requires.from;
  alike = record { facts = refl; cuts = refl; bound = refl };
  looked = refl;
  key = c.in_ok-key.ensures ∙ c.requires.from.key;
  pushed = pushed_none c.args.frontier.now.cuts.now c.args.frontier.now.bound (way_of c.args.taken.now.node) c.args.moves.now (looked_in c.args.frontier.now) (waiting_in c.args.frontier.now);
}

pub loop-step-preserved : goal.loop-step-preserved
loop-step-preserved c =
    let alike = c.loop-step.invariant.alike in
    record {
      sound = c.in_ok-add_move.ensures.sound;
      from = c.in_ok-add_move.ensures.added.from;
      alike = record {
        facts = c.in_ok-add_move.ensures.added.alike.facts ∙ alike.facts;
        cuts = c.in_ok-add_move.ensures.added.alike.cuts ∙ alike.cuts;
        bound = c.in_ok-add_move.ensures.added.alike.bound ∙ alike.bound;
      };
      looked = c.in_ok-add_move.ensures.added.looked ∙ c.loop-step.invariant.looked;
      key = c.in_ok-add_move.ensures.key;
      pushed = pushed_more c.args.frontier.now.cuts.now c.args.frontier.now.bound (way_of c.args.taken.now.node) c.args.moves.now (looked_in c.args.frontier.now) (waiting_in c.args.frontier.now) (waiting_in c.loop-step.frontier) (waiting_in c.add_move.new.frontier) c.loop-step.step-index (record { fact = 0; method = 0; cost = 0 }) c.loop-step-test.true c.loop-step.invariant.pushed
          c.in_ok-add_move.ensures.added.kept c.in_ok-add_move.ensures.added.only
          (λ less. subst (λ (ws : List Way). IsKnown ws (waiting_in c.add_move.new.frontier) (with_fact c.args.taken.now.node.set.items (slice_index_or c.args.moves.now c.loop-step.step-index (record { fact = 0; method = 0; cost = 0 }))) (c.args.taken.now.node.cost + (slice_index_or c.args.moves.now c.loop-step.step-index (record { fact = 0; method = 0; cost = 0 })).cost))
          (c.in_ok-add_move.ensures.added.looked ∙ c.loop-step.invariant.looked)
          (c.in_ok-add_move.ensures.added.known (subst (λ (cs : List Cut). sum_of cs (way_with (way_of c.args.taken.now.node) (slice_index_or c.args.moves.now c.loop-step.step-index (record { fact = 0; method = 0; cost = 0 }))) < c.loop-step.frontier.bound) (sym alike.cuts) (subst (λ b. sum_of c.args.frontier.now.cuts.now (way_with (way_of c.args.taken.now.node) (slice_index_or c.args.moves.now c.loop-step.step-index (record { fact = 0; method = 0; cost = 0 }))) < b) (sym alike.bound) less))));
    }

pub returns : goal.returns
returns c = record {
  sound = c.loop-step.invariant.sound;
  alike = record { facts = c.loop-step.invariant.alike.facts; cuts = c.loop-step.invariant.alike.cuts; bound = c.loop-step.invariant.alike.bound };
  looked = c.loop-step.invariant.looked;
  pushed = pushed_all c.args.frontier.now.cuts.now c.args.frontier.now.bound (way_of c.args.taken.now.node) c.args.moves.now (looked_in c.args.frontier.now) (waiting_in c.args.frontier.now) (waiting_in c.loop-step.frontier) c.loop-step.step-index c.loop-step-test.false c.loop-step.invariant.pushed;
}

use Rattle.std.proofs.Common.{◌≡◌, ◌∙◌, ap, sym, min}
use Rattle.std.specs.Prelude.{slice_set, Some}
use Rattle.std.proofs.lemmas.Option.{slice_get-get_or}
use Rattle.lists.proofs.Members.{some_injective}
use Rattle.connected_match.specs.Chains.{first_of}
use Rattle.connected_match.proofs.Firsts.{variable_below, noted_next, noted_same}
use Rattle.connected_match.proofs.chain.note_first.Goals.{in-Var, in_default}
use Rattle.connected_match.proofs.chain.note_first.Goals as goal

pub index-requires : goal.index-requires
index-requires c = rw c.loop-term.firsts.ok.0
    (variable_below c.args.terms.now c.loop-term.term-index c.term-item.result c.in-Var.variable c.args.firsts.now.items c.loop-term.firsts.items c.loop-term-test.true c.term-item.is c.in-Var.is c.requires c.loop-term.invariant.width_is)

pub index_mut-requires : goal.index_mut-requires
index_mut-requires c = rw c.loop-term.firsts.ok.0
    (variable_below c.args.terms.now c.loop-term.term-index c.term-item.result c.in-Var.variable c.args.firsts.now.items c.loop-term.firsts.items c.loop-term-test.true c.term-item.is c.in-Var.is c.requires c.loop-term.invariant.width_is)

pub loop-term-preserved : goal.loop-term-preserved
loop-term-preserved c = elim c.match-term.branch [
  | in-Var w ↦
      let below = variable_below c.args.terms.now c.loop-term.term-index c.term-item.result w.in-Var.variable c.args.firsts.now.items c.loop-term.firsts.items c.loop-term-test.true c.term-item.is w.in-Var.is c.requires c.loop-term.invariant.width_is in
      let value : w.index.result.now ≡ first_of c.loop-term.firsts.items w.in-Var.variable = some_injective w.index.result.now (first_of c.loop-term.firsts.items w.in-Var.variable)
      (ap Some w.index.ensures ∙ sym (slice_get-get_or c.loop-term.firsts.items w.in-Var.variable w.index.result.now below) ∙ slice_get-get_or c.loop-term.firsts.items w.in-Var.variable 0 below) in
      noted_next c.args.terms.now c.loop-term.term-index c.term-item.result w.in-Var.variable c.args.place c.args.firsts.now.items c.loop-term.firsts.items c.match-term.firsts.items c.loop-term-test.true c.term-item.is w.in-Var.is below
      (ap (λ v. v.items) w.firsts-is ∙ ap (slice_set c.loop-term.firsts.items w.in-Var.variable) (w.min.ensures ∙ ap (λ n. min n c.args.place) value)) c.loop-term.invariant
  | in_default w ↦ rw w.firsts-is
      (noted_same c.args.terms.now c.loop-term.term-index c.term-item.result _ c.args.place c.args.firsts.now.items c.loop-term.firsts.items c.loop-term-test.true c.term-item.is w.in_default.is c.loop-term.invariant)
]

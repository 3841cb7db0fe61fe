use Rattle.std.proofs.Common.{ℕ, List, ap, ◌∙◌, subst}
use Rattle.std.proofs.lemmas.List.{take_all}
use Rattle.std.specs.Prelude.{Contains}
use Rattle.lists.proofs.Places.{got_indexed}
use Rattle.meaning.specs.declared.types.Atom.{Atom}
use Rattle.meaning.specs.Triggers.{bound}
use Rattle.exposure_search.proofs.Wanting.{front_each}
use Rattle.exposure_search.proofs.Served.{NoneServes, never_serves}
use Rattle.exposure_search.proofs.makers.serves_some.Goals as goal

pub loop-atom-preserved : goal.loop-atom-preserved
loop-atom-preserved c =
    front_each (λ (atom : Atom). NoneServes c.args.given.now c.args.next c.variables_width-width.result c.args.rule.now.head atom) c.args.atoms.now c.loop-atom.atom-index c.atom-item.result (got_indexed c.args.atoms.now c.loop-atom.atom-index c.atom-item.result c.loop-atom-test.true c.atom-item.is)
    c.loop-atom.invariant
    (subst (λ (head : List Atom). NoneServes c.args.given.now c.args.next c.variables_width-width.result head c.atom-item.result) c.as_slice-in-loop-atom.ensures (c.serves.ensures c.if-serves.false))

pub returns : goal.returns
returns c e =
    never_serves c.args.given.now c.args.next c.args.rule.now c.args.atoms.now
    (subst (λ (width : ℕ). (atom : Atom) → Contains c.args.atoms.now atom → NoneServes c.args.given.now c.args.next width c.args.rule.now.head atom) (c.variables_width-width.ensures ∙ ap bound c.as_slice.ensures)
    (subst (λ (l : List Atom). (atom : Atom) → Contains l atom → NoneServes c.args.given.now c.args.next c.variables_width-width.result c.args.rule.now.head atom) (take_all c.loop-atom.atom-index c.args.atoms.now c.loop-atom-test.false) c.loop-atom.invariant))

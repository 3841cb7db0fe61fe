use Rattle.std.proofs.Common.{◌≡◌, ◌∙◌, List, map, ap, sym, subst}
use Rattle.meaning.specs.declared.types.Ground.{Ground}
use Rattle.meaning.specs.declared.types.Query.{Query}
use Rattle.meaning.specs.declared.types.Val.TheVariants.{Label}
use Rattle.meaning.specs.Triggers.{LabelsBelow, ground}
use Rattle.access_schema.specs.Meaning.{meaning_of}
use Rattle.small_base.specs.Closing.{IsClosing}
use Rattle.small_base.specs.Closed.{IsClosed}
use Rattle.small_base.proofs.Reading.{frozen_below, closed_is}
use Rattle.small_base.proofs.closed.closed_query.Goals as goal

pub closing-requires : goal.closing-requires
closing-requires c =
    let frozen : c.in_ok-frozen.frozen.items ≡ map (ground Label) c.args.query.now.atoms = c.in_ok-frozen.ensures ∙ ap (map (ground Label)) c.as_slice.ensures in
    subst (λ (facts : List Ground). LabelsBelow facts c.args.query.now.variables) (sym frozen) (frozen_below c.args.query.now c.requires)

pub returns-clause-closed : goal.returns-clause-closed
returns-clause-closed c =
    let schema = meaning_of c.args.schema.now in
    let query = c.args.query.now in
    let frozen : c.in_ok-frozen.frozen.items ≡ map (ground Label) query.atoms = c.in_ok-frozen.ensures ∙ ap (map (ground Label)) c.as_slice.ensures in
    let closing : IsClosing schema (map (ground Label) query.atoms) query.variables c.in-Some.state =
    subst (λ (facts : List Ground). IsClosing schema facts query.variables c.in-Some.state) frozen (rw c.in-Some.is at c.in_ok-state.ensures) in
    subst (λ (more : Query). IsClosed schema query more) (sym c.in_ok-more.ensures.made) (closed_is query c.requires schema c.in-Some.state closing c.query_over-made.ensures.labels)

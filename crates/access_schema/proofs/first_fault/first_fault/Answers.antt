-- Each part is the one after those before it, so the fault of the first that has one is answered.
use Rattle.std.proofs.Common.{◌≡◌, List, Some, sym, subst, ap, arith, refl, length, take, slice_get}
use Rattle.std.proofs.lemmas.Option.{slice_get_read}
use Rattle.access_schema.specs.declared.part.Part.{Part}
use Rattle.std.specs.Prelude.{Option, IfSome, IfNone, ◌++◌, ◌∷◌, []}
use Rattle.lists.proofs.Places.{take_got}
use Rattle.meaning.specs.declared.types.Relation.{Relation}
use Rattle.access_schema.specs.declared.fault.SchemaFault.{SchemaFault}
use Rattle.access_schema.specs.Content.{relations_of}
use Rattle.access_schema.specs.Faults.{IsLeastFault, IsFaultless}
use Rattle.access_schema.specs.Progress.{StandsFor}
use Rattle.access_schema.proofs.FirstFault.{stands_none, faultless_more, first_is, faultless_all, relations_few}
use Rattle.access_schema.proofs.first_fault.first_fault.Goals as goal

pub loop-index-init : goal.loop-index-init
loop-index-init c = record {
  faultless = λ before fault lt has. omega arith;
  stands = rw (c.new-known.ensures.items, c.new-links.ensures.items) (stands_none c.args.relations.now);
}

pub check_part-requires-clause-few : goal.check_part-requires-clause-few
check_part-requires-clause-few c =
    let few = relations_few c.args.parts.now in
    let same : length c.args.relations.now ≡ length (relations_of c.args.parts.now) = ap length c.requires.relations in
    let h = c.requires.few in
    omega arith

pub returns-in-Some-clause-fault : goal.returns-in-Some-clause-fault
returns-in-Some-clause-fault c =
    let at : slice_get c.args.parts.now c.loop-index.index ≡ Some c.index-parts-index.result = slice_get_read _ _ _ _ refl c.loop-index-test.true c.index-parts-index.is in
    let least : IsLeastFault c.args.relations.now (take c.loop-index.index c.args.parts.now) c.index-parts-index.result c.in-Some.fault =
    subst (λ (found : Option SchemaFault). IfSome found (IsLeastFault c.args.relations.now (take c.loop-index.index c.args.parts.now) c.index-parts-index.result)) c.in-Some.is c.in_ok-fault.ensures.fault in
    first_is c.args.parts.now c.loop-index.index c.index-parts-index.result c.in-Some.fault at c.loop-index.invariant.faultless
    (subst (λ (relations : List Relation). IsLeastFault relations (take c.loop-index.index c.args.parts.now) c.index-parts-index.result c.in-Some.fault) c.requires.relations least)

pub loop-index-preserved : goal.loop-index-preserved
loop-index-preserved c =
    let at : slice_get c.args.parts.now c.loop-index.index ≡ Some c.index-parts-index.result = slice_get_read _ _ _ _ refl c.loop-index-test.true c.index-parts-index.is in
    let free : IsFaultless c.args.relations.now (take c.loop-index.index c.args.parts.now) c.index-parts-index.result =
    subst (λ (found : Option SchemaFault). IfNone found (IsFaultless c.args.relations.now (take c.loop-index.index c.args.parts.now) c.index-parts-index.result)) c.in-None.is c.in_ok-fault.ensures.none in
    let stands : StandsFor c.args.relations.now (take c.loop-index.index c.args.parts.now ++ c.index-parts-index.result ∷ []) c.check_part.new.known.items c.check_part.new.links.items =
    subst (λ (found : Option SchemaFault). IfNone found (StandsFor c.args.relations.now (take c.loop-index.index c.args.parts.now ++ c.index-parts-index.result ∷ []) c.check_part.new.known.items c.check_part.new.links.items)) c.in-None.is c.in_ok-fault.ensures.stands in
    record {
      faultless = faultless_more c.args.parts.now c.loop-index.index c.index-parts-index.result at c.loop-index.invariant.faultless
          (subst (λ (relations : List Relation). IsFaultless relations (take c.loop-index.index c.args.parts.now) c.index-parts-index.result) c.requires.relations free);
      stands = subst (λ (parts : List Part). StandsFor c.args.relations.now parts c.check_part.new.known.items c.check_part.new.links.items)
          (sym (take_got c.args.parts.now c.loop-index.index c.index-parts-index.result at)) stands;
    }

pub returns-clause-ok : goal.returns-clause-ok
returns-clause-ok c = faultless_all c.args.parts.now c.loop-index.index c.loop-index-test.false c.loop-index.invariant.faultless

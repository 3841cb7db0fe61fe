use Rattle.std.proofs.Common.{◌≡◌, ◌∙◌, List, Some, slice_get, length, sym, subst, ap}
use Rattle.std.proofs.lemmas.Option.{slice_get_within}
use Rattle.meaning.specs.declared.types.Relation.{Relation}
use Rattle.access_schema.specs.Meaning.{meaning_of}
use Rattle.lists.proofs.Places.{got_indexed}
use Rattle.access_schema.proofs.FirstOther.{found_other}
use Rattle.access_schema.proofs.schema.Schema.bad_value.Goals as goal

pub returns : goal.returns
returns c =
    let within = slice_get_within c.as_slice.result.now c.args.fact.now.rel c.requires.relation
    (ap (λ (rs : List Relation). slice_get rs c.args.fact.now.rel) c.as_slice.ensures ∙ c.requires.there) in
    let there : slice_get c.args.self.now.relations c.args.fact.now.rel ≡ Some c.index-as_slice-fact.result =
    ap (λ (rs : List Relation). slice_get rs c.args.fact.now.rel) (sym c.as_slice.ensures)
    ∙ got_indexed c.as_slice.result.now c.args.fact.now.rel c.index-as_slice-fact.result within c.index-as_slice-fact.is in
    found_other (meaning_of c.args.self.now) c.args.fact.now c.index-as_slice-fact.result there c.first_other.result
    (rw (c.as_slice-2.ensures, c.as_slice-3.ensures) at c.first_other.ensures.none)
    (rw (c.as_slice-2.ensures, c.as_slice-3.ensures) at c.first_other.ensures.other)
    (rw (c.as_slice-2.ensures, c.as_slice-3.ensures) at c.first_other.ensures.first)

use Rattle.std.proofs.Common.{◌≡◌, Some, None, sym, ap, ◌∙◌, rules}
use Rattle.std.specs.Prelude.{slice_get}
use Rattle.access_schema.specs.Meaning.{meaning_of}
use Rattle.accessible_copy.specs.Known.{known_values}
use Rattle.accessible_copy.specs.Proving.{Proving}
use Rattle.accessible_copy.proofs.Listed.{fires}
use Rattle.accessible_copy.proofs.listing.can_expose.Goals as goal

pub returns-in-Some : goal.returns-in-Some
returns-in-Some c =
    let got : slice_get c.args.schema.now.methods c.args.number ≡ Some c.in-Some.method.now = search rules in
    fires (meaning_of c.args.schema.now) c.args.proof.now c.args.number c.args.fact.now c.in-Some.method.now c.requires.base c.requires.new c.requires.named got c.are_inputs.result _ _ _
    (ap (λ (p : Proving). known_values p.constants p.end.exposed) c.proof.view_is) c.as_slice.ensures c.as_slice-in-Some.ensures c.are_inputs.ensures

pub returns-in-None : goal.returns-in-None
returns-in-None c =
    let none : slice_get c.args.schema.now.methods c.args.number ≡ None = search rules in
    let (method, got, rel) = c.requires.named in
    let both : Some method ≡ None = sym got ∙ none in
    absurd (cc)

use Rattle.std.proofs.Common.{◌≡◌, ◌↔◌, ℕ, List, Some, refl, sym, ap, ◌∙◌, subst, rules}
use Rattle.std.specs.Prelude.{slice_get}
use Rattle.lists.proofs.Members.{some_injective}
use Rattle.meaning.specs.declared.types.Method.{Method}
use Rattle.meaning.specs.declared.types.Val.{Val}
use Rattle.accessible_copy.specs.Known.{known_values}
use Rattle.accessible_copy.specs.Listing.{AreInputs}
use Rattle.exposure_search.specs.Candidates.{AreHeld, AreKnown}
use Rattle.exposure_search.proofs.candidates.candidate_of.Goals as goal

pub returns-in_default-2-clause-none : goal.returns-in_default-2-clause-none
returns-in_default-2-clause-none c method exposed named are =
    let got : slice_get c.args.schema.now.methods c.args.number ≡ Some c.in-Some.method.now = search rules in
    let same : method ≡ c.in-Some.method.now = some_injective method c.in-Some.method.now (sym named ∙ got) in
    let none = rw c.in_default-2.is at c.in_ok-asks.ensures.none in
    none exposed
    (subst (λ (vals : List Val). AreInputs (known_values c.args.proof.now.constants exposed) c.as_slice.result.now vals) (sym c.as_slice-vals.ensures)
    (subst (λ (inputs : List ℕ). AreInputs (known_values c.args.proof.now.constants exposed) inputs c.args.fact.now.vals) (ap (λ (m : Method). m.inputs) same ∙ sym c.as_slice.ensures) are))

pub returns-clause-is : goal.returns-clause-is
returns-clause-is c =
    let got : slice_get c.args.schema.now.methods c.args.number ≡ Some c.in-Some.method.now = search rules in
    let (method, named, rel) = c.requires.named in
    let some = rw c.in-Some-2.is at c.in_ok-asks.ensures.some in (
      refl,
      refl,
      record {
        method = c.in-Some.method.now;
        named = got;
        of_relation = subst (λ (m : Method). m.rel ≡ c.args.fact.now.rel) (some_injective method c.in-Some.method.now (sym named ∙ got)) rel;
        cost = refl;
        asks = λ exposed. subst (λ (inputs : List ℕ). AreHeld exposed c.in-Some-2.asks.items ↔ AreInputs (known_values c.args.proof.now.constants exposed) inputs c.args.fact.now.vals) c.as_slice.ensures
            (subst (λ (vals : List Val). AreHeld exposed c.in-Some-2.asks.items ↔ AreInputs (known_values c.args.proof.now.constants exposed) c.as_slice.result.now vals) c.as_slice-vals.ensures (some exposed));
        brings = λ exposed. subst (λ (vals : List Val). AreHeld exposed c.in_ok-brings.brings.items ↔ AreKnown (known_values c.args.proof.now.constants exposed) vals) c.as_slice-vals.ensures (c.in_ok-brings.ensures exposed);
      },
    )

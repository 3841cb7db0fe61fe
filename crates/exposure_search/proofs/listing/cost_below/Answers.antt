use Rattle.std.proofs.Common.{◌≡◌, ◌<◌, ◌≤◌, ℕ, List, Some, refl, sym, ap, ◌∙◌, subst, arith, rules}
use Rattle.std.specs.Prelude.{slice_get}
use Rattle.lists.proofs.Members.{some_injective}
use Rattle.meaning.specs.declared.types.Method.{Method}
use Rattle.meaning.specs.declared.types.Val.{Val}
use Rattle.homomorphism.proofs.Covering.{told, denied}
use Rattle.accessible_copy.specs.Known.{known_values}
use Rattle.accessible_copy.specs.Listing.{AreInputs}
use Rattle.exposure_search.proofs.listing.cost_below.Goals as goal
use Rattle.exposure_search.proofs.listing.cost_below.Goals.{else-from-limit-via-then-from-limit+else-are_inputs, else-from-limit-via-else-from-limit}

pub returns-then-are_inputs-clause-some : goal.returns-then-are_inputs-clause-some
returns-then-are_inputs-clause-some c =
    let got : slice_get c.args.schema.now.methods c.args.number ≡ Some c.in_ok-method.method.now = search rules in
    let cost : c.from.result ≡ c.in_ok-method.method.now.cost = c.from.ensures in
    let low : c.from.result < c.args.limit = c.if-from-limit.true in
    let inputs : c.as_slice.result.now ≡ c.in_ok-method.method.now.inputs = search rules in
    let vals : c.as_slice-then-from-limit.result.now ≡ c.args.fact.now.vals = search rules in (
      c.in_ok-method.method.now,
      got,
      refl,
      omega arith,
      subst (λ (ps : List ℕ). AreInputs (known_values c.args.proof.now.constants c.args.proof.now.end.exposed) ps c.args.fact.now.vals) inputs
          (subst (λ (vs : List Val). AreInputs (known_values c.args.proof.now.constants c.args.proof.now.end.exposed) c.as_slice.result.now vs) vals (told _ c.are_inputs.ensures c.if-are_inputs.true)),
    )

pub returns-clause-none : goal.returns-clause-none
returns-clause-none c method its low are =
    let got : slice_get c.args.schema.now.methods c.args.number ≡ Some c.in_ok-method.method.now = search rules in
    let same : method ≡ c.in_ok-method.method.now = some_injective method c.in_ok-method.method.now (sym its ∙ got) in
    let cost : c.from.result ≡ c.in_ok-method.method.now.cost = c.from.ensures in
    let costs : method.cost ≡ c.in_ok-method.method.now.cost = ap (λ (m : Method). m.cost) same in
    elim c.else-from-limit.branch [
      | else-from-limit-via-then-from-limit+else-are_inputs w ↦
          let inputs : w.as_slice.result.now ≡ c.in_ok-method.method.now.inputs = search rules in
          let vals : w.as_slice-then-from-limit.result.now ≡ c.args.fact.now.vals = search rules in
          denied _ w.are_inputs.ensures w.if-are_inputs.false
          (subst (λ (vs : List Val). AreInputs (known_values c.args.proof.now.constants c.args.proof.now.end.exposed) w.as_slice.result.now vs) (sym vals)
          (subst (λ (ps : List ℕ). AreInputs (known_values c.args.proof.now.constants c.args.proof.now.end.exposed) ps c.args.fact.now.vals) (ap (λ (m : Method). m.inputs) same ∙ sym inputs) are))
      | else-from-limit-via-else-from-limit w ↦ let high : c.args.limit ≤ c.from.result = w.if-from-limit.false in absurd (omega arith)
    ]

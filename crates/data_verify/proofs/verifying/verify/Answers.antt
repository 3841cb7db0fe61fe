use Rattle.std.proofs.Common.{◌≡◌, ℕ, Some, slice_get}
use Rattle.std.proofs.lemmas.Result.{IfOk-weaker}
use Rattle.meaning.specs.declared.types.Rule.{Rule}
use Rattle.homomorphism.proofs.Covering.{denied}
use Rattle.data_verify.specs.Finding.{IsOpen}
use Rattle.data_verify.proofs.First.{no_open, as_found, met_told, broken_told}
use Rattle.data_verify.proofs.verifying.verify.Goals as goal

pub returns-then-not-has_open-clause-met : goal.returns-then-not-has_open-clause-met
returns-then-not-has_open-clause-met c =
    let none : (k : ℕ) (rule : Rule) → slice_get c.args.schema.now.rules k ≡ Some rule → IsOpen c.in_ok-found.found k rule → ⊥ = λ k rule got is. denied _ (rw c.as_slice-2.ensures at c.has_open.ensures) c.if-not-has_open.true (k, rule, got, is) in
    met_told c.args.instance.now c.args.schema.now.rules c.in_ok-found.found (as_found c.args.instance.now c.args.schema.now.rules c.in_ok-found.found (rw c.as_slice.ensures at c.in_ok-found.ensures) (no_open c.args.instance.now c.args.schema.now.rules c.in_ok-found.found none))

pub returns-then-not-has_open-clause-broken : goal.returns-then-not-has_open-clause-broken
returns-then-not-has_open-clause-broken c =
    let none : (k : ℕ) (rule : Rule) → slice_get c.args.schema.now.rules k ≡ Some rule → IsOpen c.in_ok-found.found k rule → ⊥ = λ k rule got is. denied _ (rw c.as_slice-2.ensures at c.has_open.ensures) c.if-not-has_open.true (k, rule, got, is) in
    broken_told c.args.instance.now c.args.schema.now.rules c.in_ok-found.found (as_found c.args.instance.now c.args.schema.now.rules c.in_ok-found.found (rw c.as_slice.ensures at c.in_ok-found.ensures) (no_open c.args.instance.now c.args.schema.now.rules c.in_ok-found.found none))

pub returns-clause-met : goal.returns-clause-met
returns-clause-met c = IfOk-weaker c.first_of_all.result _ _ (λ found f. met_told c.args.instance.now c.args.schema.now.rules found (rw c.in_ok-copy.ensures at f)) c.first_of_all.ensures

pub returns-clause-broken : goal.returns-clause-broken
returns-clause-broken c = IfOk-weaker c.first_of_all.result _ _ (λ found f. broken_told c.args.instance.now c.args.schema.now.rules found (rw c.in_ok-copy.ensures at f)) c.first_of_all.ensures

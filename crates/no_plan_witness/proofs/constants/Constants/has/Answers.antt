use Rattle.std.proofs.Common.{◌↔◌, ◌∙◌, List, ℕ, sym, subst}
use Rattle.std.specs.Prelude.{IsTrue, Contains, is_ok}
use Rattle.std.specs.Cmp.Lexicographic.{slice_cmp}
use Rattle.std.specs.Ordering.{nat_cmp}
use Rattle.std.specs.List.Sorted.{IsSorted}
use Rattle.no_plan_witness.proofs.Bisecting.{bisected}
use Rattle.no_plan_witness.proofs.constants.Constants.has.Goals as goal

pub returns : goal.returns
returns c =
    subst (λ b. IsTrue b ↔ Contains c.args.self.now c.args.text.now) (sym c.is_ok.ensures.value)
    (subst (λ (constants : List (List ℕ)). IsTrue (is_ok c.binary_search.result) ↔ Contains constants c.args.text.now) (c.as_slice.ensures.value ∙ c.self.view_is)
    (bisected c.as_slice.result.now c.args.text.now c.binary_search.result
    (subst (λ (constants : List (List ℕ)). IsSorted (slice_cmp nat_cmp) constants) (sym c.as_slice.ensures.value) c.self.invariant)
    c.binary_search.ensures.bound c.binary_search.ensures.position))

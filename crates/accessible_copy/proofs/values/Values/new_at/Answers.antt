use Rattle.std.proofs.Common.{◌≡◌, ◌<◌, List, Some, None, take, sym, ◌∙◌, subst, rules, arith}
use Rattle.std.specs.Prelude.{Contains, slice_get}
use Rattle.lists.proofs.Members.{some_injective}
use Rattle.meaning.specs.declared.types.Val.{Val}
use Rattle.accessible_copy.specs.Places.{place_in}
use Rattle.accessible_copy.proofs.Placing.{placed_early}
use Rattle.accessible_copy.proofs.values.Values.new_at.Goals as goal

pub returns-then-place-number-clause-none : goal.returns-then-place-number-clause-none
returns-then-place-number-clause-none c = λ val got.
    let there : slice_get c.args.self.now c.args.number ≡ Some c.in-Some.val.now = search rules in
    let same : c.in-Some.val.now ≡ val = some_injective c.in-Some.val.now val (sym there ∙ got) in
    let low : place_in c.self.inside.places c.in-Some.val.now < c.args.number = let t = c.if-place-number.true in let at = c.get-place.ensures in omega arith in
    subst (λ (l : List Val). Contains (take c.args.number l) val) c.self.view_is
    (placed_early c.self.inside.list.items (place_in c.self.inside.places) c.args.number val c.self.invariant
    (subst (λ (l : List Val). slice_get l c.args.number ≡ Some val) (sym c.self.view_is) got) (subst (λ (v : Val). place_in c.self.inside.places v < c.args.number) same low))

pub returns-in-None-clause-none : goal.returns-in-None-clause-none
returns-in-None-clause-none c = λ val got.
    let none : slice_get c.args.self.now c.args.number ≡ None = search rules in
    let both : Some val ≡ None = sym got ∙ none in absurd (cc)

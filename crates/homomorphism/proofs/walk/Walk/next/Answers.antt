use Rattle.std.proofs.Common.{◌≡◌, ◌∙◌, ◌∷◌, ◌++◌, [], Some, None, ap, sym}
use Rattle.homomorphism.specs.declared.assignment.Assignment.{Assignment}
use Rattle.homomorphism.specs.Walks.{IsLater, left_of, together}
use Rattle.homomorphism.proofs.Walking.{left_last, left_next}
use Rattle.homomorphism.proofs.walk.Walk.next.Goals as goal

pub returns-in-Some-2-clause-some : goal.returns-in-Some-2-clause-some
returns-in-Some-2-clause-some c =
    let w = c.self.inside in
    let rest = c.pop.new.self.items in
    let turning = c.in-Some.turning in
    let later = c.in-Some-2.later in
    let old : w.left.items ≡ rest ++ turning ∷ [] = c.in-Some.ensures.items in
    let new : c.push.new.self.items ≡ rest ++ later ∷ [] = c.in_ok-push.ensures.items in
    let behind : IsLater turning (Some later) = rw c.in-Some-2.is at c.in_ok-later.ensures in
    let one : c.in_ok-one.one ≡ together w.lists w.owners turning.numbers = rw c.as_slice-lists.ensures at (rw c.as_slice-numbers.ensures at (rw c.as_slice.ensures at c.in_ok-one.ensures)) in
    sym c.self.view_is ∙ ap (left_of w.lists w.owners) old ∙ left_next w.lists w.owners rest turning later behind
    ∙ ap (λ (m : Assignment). m ∷ left_of w.lists w.owners (rest ++ later ∷ [])) (sym one)
    ∙ ap (λ z. c.in_ok-one.one ∷ left_of w.lists w.owners z) (sym new)

pub returns-clause-some : goal.returns-clause-some
returns-clause-some c =
    let w = c.self.inside in
    let rest = c.pop.new.self.items in
    let turning = c.in-Some.turning in
    let old : w.left.items ≡ rest ++ turning ∷ [] = c.in-Some.ensures.items in
    let behind : IsLater turning None = rw c.in_default-2.is at c.in_ok-later.ensures in
    let one : c.in_ok-one.one ≡ together w.lists w.owners turning.numbers = rw c.as_slice-lists.ensures at (rw c.as_slice-numbers.ensures at (rw c.as_slice.ensures at c.in_ok-one.ensures)) in
    sym c.self.view_is ∙ ap (left_of w.lists w.owners) old ∙ left_last w.lists w.owners rest turning behind
    ∙ ap (λ (m : Assignment). m ∷ left_of w.lists w.owners rest) (sym one)

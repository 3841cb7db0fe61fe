use Rattle.std.proofs.Common.{◌≡◌, List, length, sym, subst, refl, inl, inr, rules}
use Rattle.std.specs.Prelude.{Contains}
use Rattle.meaning.specs.declared.types.Val.{Val}
use Rattle.homomorphism.proofs.Covering.{told, denied}
use Rattle.accessible_copy.specs.Places.{place_in}
use Rattle.accessible_copy.proofs.Placing.{placed_as, placed_push}
use Rattle.accessible_copy.proofs.values.Values.push.Goals.{then-not-contains+in_ok-set, else-not-contains}
use Rattle.accessible_copy.proofs.values.Values.push.Goals as goal

pub invariant_of-self : goal.invariant_of-self
invariant_of-self c =
    placed_as c.self.inside.list.items (place_in c.self.inside.places) (place_in c.set.new.self) c.self.invariant
    (λ v h. c.set.ensures.others v (λ same. denied _ c.contains.ensures c.if-not-contains.true (subst (λ (l : List Val). Contains l c.args.val) c.self.view_is (subst (λ (u : Val). Contains c.self.inside.list.items u) same h))))

pub invariant_of-self-in_err-push : goal.invariant_of-self-in_err-push
invariant_of-self-in_err-push c =
    rw c.in_err-push.ensures.items
    (elim c.if-not-contains.branch [
      | then-not-contains+in_ok-set w ↦
          rw w.self-inside-is
          (placed_as c.self.inside.list.items (place_in c.self.inside.places) (place_in w.set.new.self) c.self.invariant
          (λ v h. w.set.ensures.others v (λ same. denied _ c.contains.ensures w.if-not-contains.true (subst (λ (l : List Val). Contains l c.args.val) c.self.view_is (subst (λ (u : Val). Contains c.self.inside.list.items u) same h)))))
      | else-not-contains w ↦ rw w.self-inside-is c.self.invariant
    ])

pub invariant_of-self-2 : goal.invariant_of-self-2
invariant_of-self-2 c =
    rw c.in_ok-push.ensures.items
    (elim c.if-not-contains.branch [
      | then-not-contains+in_ok-set w ↦
          let count : w.len-count.result ≡ length c.self.inside.list.items = search rules in
          rw w.self-inside-is
          (placed_push c.self.inside.list.items c.args.val (place_in c.self.inside.places) (place_in w.set.new.self) c.self.invariant
          (λ v h. w.set.ensures.others v (λ same. denied _ c.contains.ensures w.if-not-contains.true (subst (λ (l : List Val). Contains l c.args.val) c.self.view_is (subst (λ (u : Val). Contains c.self.inside.list.items u) same h))))
          (inr (rw count at w.in_ok-set.ensures.here)))
      | else-not-contains w ↦
          rw w.self-inside-is
          (placed_push c.self.inside.list.items c.args.val (place_in c.self.inside.places) (place_in c.self.inside.places) c.self.invariant (λ v h. refl)
          (inl (subst (λ (l : List Val). Contains l c.args.val) (sym c.self.view_is) (told _ c.contains.ensures w.if-not-contains.false))))
    ])

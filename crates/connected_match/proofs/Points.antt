-- Sets of points.
use Rattle.std.proofs.Common.{◌≡◌, ◌⊎◌, Bool, true, false, cond, refl, sym, ap, ◌∙◌, inl, inr}
use Rattle.std.specs.Ordering.{is_eq}
use Rattle.std.specs.BTreeMap.{is_at}
use Rattle.std.specs.BTreeSet.{BTreeSet, contains}
use Rattle.std.specs.declared.cmp.Ordering.{Ordering}
use Rattle.std.specs.declared.cmp.Ordering.TheVariants.{Less, Equal, Greater}
use Rattle.std.proofs.lemmas.Cmp.{tied_itself}
use Rattle.homomorphism.proofs.Exact.{ground_exact}
use Rattle.connected_match.specs.declared.walk.Point.{Point}
use Rattle.connected_match.specs.contracts.walk.PointOrd.TheImpl.Laws.{total-law as point_law}
use Rattle.connected_match.specs.Walks.{point_cmp, IsSeen}

point_exact : (p q : Point) → point_cmp p q ≡ Equal → p ≡ q
point_exact p q e =
    let same = ground_exact (record { rel = p.place; vals = p.row }) (record { rel = q.place; vals = q.row }) e in
    λ i. record { place = (same i).rel; row = (same i).vals }

module _ (was now : BTreeSet Point) (point : Point) (put : (other : Point) → contains point_cmp now other ≡ cond (is_at (point_cmp point) other) true (contains point_cmp was other)) where
  -- what is there was there, or is what was put
  pub seen_cases : (other : Point) → IsSeen now other → IsSeen was other ⊎ (point ≡ other)
  seen_cases other seen = by (point_cmp point other) refl (sym (put other) ∙ seen)
    where
      by : (o : Ordering) → point_cmp point other ≡ o → cond (is_eq o) true (contains point_cmp was other) ≡ true → IsSeen was other ⊎ (point ≡ other)
      by Less e there = inl there
      by Greater e there = inl there
      by Equal e there = inr (point_exact point other e)

  pub seen_still : (other : Point) → IsSeen was other → IsSeen now other
  seen_still other seen = put other ∙ by (is_at (point_cmp point) other)
    where
      by : (t : Bool) → cond t true (contains point_cmp was other) ≡ true
      by true = refl
      by false = seen

  pub seen_here : IsSeen now point
  seen_here = put point ∙ ap (λ o. cond (is_eq o) true (contains point_cmp was point)) (tied_itself point_law point)

-- What the halves of the workers did, put together.
use Rattle.std.proofs.Common.{◌≡◌, ℕ, ◌+◌, ◌-◌, ◌/◌, List, [], ◌∷◌, ◌++◌, sym, ap, ◌∙◌, subst, arith}
use Rattle.atomic_table.specs.Table.{Me}
use Rattle.lane_pool.specs.declared.seats.View.{View}
use Rattle.lane_pool.specs.Seats.{view, joined}
use Rattle.lane_pool.specs.Lanes.{LanesDid, Ran}

module _ {W I A : Type 0} (did : W → I → A → W → Type 0) (items : List I) where
  pub lanes_append : (os ps : List (List ℕ)) (rs qs : List (List (ℕ × A))) (ws xs us vs : List W) → LanesDid did items os rs ws us → LanesDid did items ps qs xs vs → LanesDid did items (os ++ ps) (rs ++ qs) (ws ++ xs) (us ++ vs)
  lanes_append [] ps [] qs [] xs [] vs a b = b
  lanes_append [] ps [] qs [] xs (u ∷ us) vs a b = absurd a
  lanes_append [] ps [] qs (w ∷ ws) xs [] vs a b = absurd a
  lanes_append [] ps [] qs (w ∷ ws) xs (u ∷ us) vs a b = absurd a
  lanes_append [] ps (r ∷ rs) qs [] xs [] vs a b = absurd a
  lanes_append [] ps (r ∷ rs) qs [] xs (u ∷ us) vs a b = absurd a
  lanes_append [] ps (r ∷ rs) qs (w ∷ ws) xs [] vs a b = absurd a
  lanes_append [] ps (r ∷ rs) qs (w ∷ ws) xs (u ∷ us) vs a b = absurd a
  lanes_append (o ∷ os) ps [] qs [] xs [] vs a b = absurd a
  lanes_append (o ∷ os) ps [] qs [] xs (u ∷ us) vs a b = absurd a
  lanes_append (o ∷ os) ps [] qs (w ∷ ws) xs [] vs a b = absurd a
  lanes_append (o ∷ os) ps [] qs (w ∷ ws) xs (u ∷ us) vs a b = absurd a
  lanes_append (o ∷ os) ps (r ∷ rs) qs [] xs [] vs a b = absurd a
  lanes_append (o ∷ os) ps (r ∷ rs) qs [] xs (u ∷ us) vs a b = absurd a
  lanes_append (o ∷ os) ps (r ∷ rs) qs (w ∷ ws) xs [] vs a b = absurd a
  lanes_append (o ∷ os) ps (r ∷ rs) qs (w ∷ ws) xs (u ∷ us) vs a b = (a.0, lanes_append os ps rs qs ws xs us vs a.1 b)

  pub ran_joined : (p : ℕ) (rs qs : List (List (ℕ × A))) (ws xs us vs all : List W) (v w u : Me (Unit {0}) View) → Ran did items (p / 2) rs ws us v → Ran did items (p - p / 2) qs xs vs w
      → all ≡ ws ++ xs → u ≡ (joined v.0 w.0, v.1) → Ran did items p (rs ++ qs) all (us ++ vs) u
  ran_joined p rs qs ws xs us vs all v w u a b both is =
      let parts : p / 2 + (p - p / 2) ≡ p = omega arith in (
        a.0 ++ b.0,
        is ∙ ((λ i. (joined (a.1 i).0 (b.1 i).0, (a.1 i).1)) ∙ ap (λ n. (view (a.0 ++ b.0) n, [])) parts),
        subst (λ l. LanesDid did items (a.0 ++ b.0) (rs ++ qs) l (us ++ vs)) (sym both) (lanes_append a.0 b.0 rs qs ws xs us vs a.2 b.2),
      )

-- Facts in a chain of relations are a model of the world, where each leads on.
use Rattle.std.proofs.Common.{◌≡◌, ◌+◌, ◌-◌, ◌<◌, ◌≤◌, ℕ, List, [], ◌∷◌, cond, nat_lt, refl, sym, subst, arith}
use Rattle.std.specs.Prelude.{Contains, map}
use Rattle.std.specs.List.{range_with_len}
use Rattle.lists.proofs.Members.{contains_here, contains_mapped, contains_one, all_member}
use Rattle.meaning.specs.declared.types.Term.{Term}
use Rattle.meaning.specs.declared.types.Term.TheVariants.{Var, Const as Said}
use Rattle.meaning.specs.declared.types.Atom.{Atom}
use Rattle.meaning.specs.declared.types.Fact.{Fact}
use Rattle.meaning.specs.Values.{Value}
use Rattle.meaning.specs.Instances.{FitsRelation}
use Rattle.meaning.specs.Matching.{value_of, MeetsRule, itself, FactsOf}
use Rattle.meaning.specs.Claims.{IsModel}
use Rattle.world_laws.specs.World.{relation_with, rule_from}
use Rattle.world_laws.specs.Plan.{world}
use Rattle.world_laws.proofs.Paths.{edge}
use Rattle.world_laws.proofs.Chases.{range_bounds, relation_there, body_of, head_of}

fits_edge : (rel : ℕ) (a b : Value) → rel < 8 → FitsRelation world rel (a ∷ b ∷ [])
fits_edge rel a b few = record { relation = relation_with (rel + 1); there = relation_there rel few; width = refl }

-- the assignment, with another value for the new variable
abbrev after : (ℕ → Value) → Value → ℕ → Value
after a to x = cond (nat_lt x 2) (a x) to

agrees_at : (a : ℕ → Value) (to : Value) (x : ℕ) → Contains (Var 0 ∷ Var 1 ∷ []) (Var x) → after a to x ≡ a x
agrees_at a to x there = all_member Agrees (Var 0 ∷ Var 1 ∷ []) (Var x) (refl, (refl, tt)) there
  where
    Agrees : Term → Type 0
    Agrees (Var y) = after a to y ≡ a y
    Agrees (Said c) = Unit {0}

-- each fact is that of a relation, and where it ends another of the next relation goes on
pub record IsChain (facts : List Fact) : Type 0 where
  pub edges : (fact : Fact) → Contains facts fact → (rel : ℕ) × (a : Value) × (b : Value) × (rel < 8) × (fact ≡ edge rel a b)
  pub goes_on : (rel : ℕ) (a b : Value) → rel < 7 → Contains facts (edge rel a b) → (c : Value) × Contains facts (edge (rel + 1) b c)

module _ (facts : List Fact) (chain : IsChain facts) where
  meets_from : (k : ℕ) → 1 ≤ k → k ≤ 7 → MeetsRule itself (FactsOf facts) (rule_from k)
  meets_from k some few a body =
      let there : Contains facts (edge (k - 1) (a 0) (a 1)) = body (body_of k) (contains_here (body_of k) []) in
      let (c, goes) = chain.goes_on (k - 1) (a 0) (a 1) (omega (arith, some, few)) there in
      let place : k - 1 + 1 ≡ k = omega (arith, some) in (
        after a c,
        record {
          agrees = λ x (atom, among, occurs). agrees_at a c x (subst (λ (t : Atom). Contains t.terms (Var x)) (sym (contains_one (body_of k) atom among)) occurs);
          head = λ atom among. subst (λ (t : Atom). FactsOf facts t.rel (map (value_of itself (after a c)) t.terms)) (contains_one (head_of k) atom among) (subst (λ rel. Contains facts (edge rel (a 1) c)) place goes);
        },
      )

  pub chain_is_model : IsModel world facts
  chain_is_model = record {
    fits = λ fact there. let (rel, a, b, few, is) = chain.edges fact there in subst (λ (f : Fact). FitsRelation world f.rel f.row) (sym is) (fits_edge rel a b few);
    meets = λ rule there.
        let (k, ranged, is) = contains_mapped rule_from (range_with_len 1 7) rule there in
        let bounds = range_bounds 1 7 k ranged in
        let few = bounds.1 in
        subst (MeetsRule itself (FactsOf facts)) is (meets_from k bounds.0 (omega (arith, few)));
  }

-- Rules with a relation in the body that has no fact.
use Rattle.std.proofs.Common.{◌≡◌, ⊎_elim, ℕ, ◌+◌, List, [], ◌∷◌, ◌++◌, Bool, Some, take, sym, ap, ◌∙◌, subst}
use Rattle.std.specs.Prelude.{Contains, slice_get}
use Rattle.std.proofs.lemmas.List.{map-append}
use Rattle.std.proofs.lemmas.List.Elements.{Contains-push_cases}
use Rattle.lists.proofs.Members.{contains_got, contains_map}
use Rattle.lists.proofs.Places.{take_got}
use Rattle.meaning.specs.declared.types.Atom.{Atom}
use Rattle.meaning.specs.declared.types.Rule.{Rule}
use Rattle.meaning.specs.declared.types.Ground.{Ground}
use Rattle.meaning.specs.declared.types.Query.{Query}
use Rattle.meaning.specs.declared.types.Val.{Val}
use Rattle.accessible_copy.specs.declared.entry.Exposed.{Exposed}
use Rattle.accessible_copy.specs.Known.{facts_of}
use Rattle.least_search.specs.declared.space.Move.{Move}
use Rattle.exposure_search.specs.Making.{IsMissing, CannotMake, fact_at, made_by, all_made}
use Rattle.exposure_search.specs.Ahead.{AreTheMarked, CannotFire, facts_along}
use Rattle.exposure_search.specs.Candidates.{IsHeld}

-- the marked rules are those with these numbers
pub cannot_make : (rules : List Rule) (makers : List Bool) (numbers : List ℕ) (facts : List Ground) → AreTheMarked makers numbers → CannotFire rules numbers facts → CannotMake rules makers facts
cannot_make rules makers numbers facts marked cannot number rule at on = cannot number ((marked number).0 on) rule at

-- one more fact of a path
pub along_more : (base : List Ground) (path : List Move) (n : ℕ) (step : Move) → slice_get path n ≡ Some step → facts_along base (take (n + 1) path) ≡ facts_along base (take n path) ++ fact_at base step.fact ∷ []
along_more base path n step at =
    ap (facts_along base) (take_got path n step at) ∙ ap facts_of (map-append (made_by base) (take n path) (step ∷ [])) ∙ map-append (λ (one : Exposed). one.fact) (all_made base (take n path)) (made_by base step ∷ [])

module _ (base : List Ground) (path : List Move) (n : ℕ) (step : Move) (at : slice_get path n ≡ Some step) where
  pub missing_more : (rel : ℕ) → ((fact_at base step.fact).rel ≡ rel → ⊥) → IsMissing (facts_along base (take n path)) rel → IsMissing (facts_along base (take (n + 1) path)) rel
  missing_more rel other before wanted c =
      ⊎_elim (λ old. before wanted old) (λ e same. other (subst (λ (f : Ground). f.rel ≡ rel) (sym e) same))
      (Contains-push_cases (facts_along base (take n path)) (fact_at base step.fact) wanted (subst (λ fs. Contains fs wanted) (along_more base path n step at) c))

  pub held_more : (value : Val) → (Contains (fact_at base step.fact).vals value → ⊥) → (IsHeld (facts_along base (take n path)) value → ⊥) → IsHeld (facts_along base (take (n + 1) path)) value → ⊥
  held_more value here before (fact, among, has) =
      ⊎_elim (λ old. before (fact, old, has)) (λ e. here (subst (λ (f : Ground). Contains f.vals value) (sym e) has))
      (Contains-push_cases (facts_along base (take n path)) (fact_at base step.fact) fact (subst (λ fs. Contains fs fact) (along_more base path n step at) among))

  pub held_here : (value : Val) → Contains (fact_at base step.fact).vals value → IsHeld (facts_along base path) value
  held_here value has = (fact_at base step.fact, contains_map (λ (one : Exposed). one.fact) (all_made base path) (made_by base step) (contains_map (made_by base) path step (contains_got path n step at)), has)

-- each of the first queries has an atom of a relation without facts
abbrev pub UnmatchedTo : List Query → List Ground → ℕ → Type 0
UnmatchedTo queries facts count = (query : Query) → Contains (take count queries) query → (atom : Atom) × Contains query.atoms atom × IsMissing facts atom.rel

-- Exposures in order are walks of moves at the same cost, and the other way round.
use Rattle.std.proofs.Common.{◌≡◌, ℕ, ◌+◌, ◌<◌, ◌≤◌, List, [], ◌∷◌, ◌++◌, length, Bool, true, false, Some, refl, sym, ap, ◌∙◌, subst, inl, inr, ⊎_elim, arith, append_assoc}
use Rattle.std.specs.Prelude.{Contains, slice_get, slice_set}
use Rattle.std.proofs.lemmas.List.{append-nil, length-set}
use Rattle.std.proofs.lemmas.Option.{slice_get_within}
use Rattle.lists.proofs.Members.{got_below, contains_here, contains_there, contains_cases}
use Rattle.meaning_laws.proofs.Resting.{goal_stays}
use Rattle.meaning_laws.specs.Rests.{HasGoalOver}
use Rattle.meaning.specs.declared.types.Val.{Val}
use Rattle.meaning.specs.declared.types.Ground.{Ground}
use Rattle.meaning.specs.declared.types.Query.{Query}
use Rattle.meaning.specs.declared.types.SchemaParts.{SchemaParts}
use Rattle.meaning.specs.Search.{AreDistinct}
use Rattle.meaning.specs.Extract.{Exposure, exposed_facts, IsExposing, exposures_cost}
use Rattle.accessible_copy.specs.Known.{known_values}
use Rattle.accessible_copy.proofs.Listed.{known_to}
use Rattle.least_search.specs.declared.space.Move.{Move}
use Rattle.least_search.specs.Walks.{CanGain, IsWalk, walk_cost, no_facts}
use Rattle.least_search.specs.Costs.{IsLeastCost}
use Rattle.exposure_search.specs.declared.marks.Marks.{Marks}
use Rattle.exposure_search.specs.Tries.{picked, IsMarked, IsRelevantMove, Adds}
use Rattle.exposure_search.specs.Spaces.{exposes_same, known_same}
use Rattle.least_search.proofs.Sets.{none_length}
use Rattle.exposure_search.specs.Sets.{AreSame, turned, got_contained, got_once, picked_at, picked_back, same_more, none_same, truth}
use Rattle.exposure_search.proofs.Gaining.{AreGains}

-- the moves by which a search goes
abbrev pub CanGo : SchemaParts → List (List ℕ) → List Ground → Marks → List Bool → Move → Type 0
CanGo schema constants base marks =
    CanGain (IsRelevantMove schema constants base marks.relevant.items) (λ set move. Adds (known_values constants (picked base set)) base marks.needed.items move.fact)

module _ (schema : SchemaParts) (constants : List (List ℕ)) (base : List Ground) where
  -- what is exposed are base facts
  pub exposed_base : (exposures : List Exposure) (exposed : List Ground) → IsExposing schema constants base exposed exposures → (fact : Ground) → Contains (exposed_facts exposures) fact → Contains base fact
  exposed_base [] exposed is fact c = absurd (omega arith)
  exposed_base (e ∷ exposures) exposed (first, rest) fact c =
      ⊎_elim (λ same. subst (λ g. Contains base g) same first.of_base) (λ h. exposed_base exposures (exposed ++ e.fact ∷ []) rest fact h) (contains_cases e.fact (exposed_facts exposures) fact c)

  -- exposures of relevant facts in order that gain something are a walk of such moves at the same cost
  pub exposing_walk : (marks : Marks) → AreDistinct base → (exposures : List Exposure) (exposed : List Ground) (set : List Bool) → ((e : Exposure) → Contains exposures e → Contains (picked base marks.relevant.items) e.fact) → AreGains constants (picked base marks.needed.items) exposed exposures → length set ≡ length base → AreSame (picked base set) exposed → IsExposing schema constants base exposed exposures →
      (moves : List Move) × (end : List Bool) × IsWalk (CanGo schema constants base marks) set moves end × (walk_cost moves ≡ exposures_cost exposures) × AreSame (picked base end) (exposed ++ exposed_facts exposures)
  exposing_walk marks once [] exposed set matter gains size same is = ([], set, refl, refl, subst (λ gs. AreSame (picked base set) gs) (sym (append-nil exposed)) same)
  exposing_walk marks once (e ∷ exposures) exposed set matter (gain, gains) size same (first, rest) =
      let (k, at) = got_contained base e.fact first.of_base in
      let (number, named) = got_contained schema.methods e.method first.of_schema in
      let (mark, marked) = got_below set k (subst (λ n. k < n) (sym size) (slice_get_within base k e.fact at)) in
      let out : slice_get set k ≡ Some false = ⊎_elim (λ is. absurd (first.new (same.to e.fact (picked_at base set k e.fact at (marked ∙ ap (λ b. Some b) is))))) (λ is. marked ∙ ap (λ b. Some b) is) (truth mark) in
      let relevant : IsMarked marks.relevant.items k = marked_at marks.relevant.items e.fact k at (matter e (contains_here e exposures)) in
      let adds : Adds (known_values constants (picked base set)) base marks.needed.items k = ⊎_elim (λ c. inl (marked_at marks.needed.items e.fact k at c))
      (λ (v, has, new). inr (e.fact, v, at, has, (λ c. new (known_same schema constants base (picked base set) exposed v same.to (known_to constants (picked base set) v c))))) gain in
      let (moves, end, walk, cost, ends) = exposing_walk marks once exposures (exposed ++ e.fact ∷ []) (slice_set set k true) (λ other c. matter other (contains_there e exposures other c)) gains (length-set set k true ∙ size) (same_more base set exposed k e.fact same at out) rest in (
        record { fact = k; method = number; cost = e.method.cost } ∷ moves,
        end,
        ((((e, record { fact = at; only = λ i here. got_once base e.fact i k once here at; method = named; cost = refl; new = out; exposes = exposes_same schema constants base exposed (picked base set) e (turned (picked base set) exposed same) first }), relevant), adds), walk),
        ap (λ n. e.method.cost + n) cost,
        subst (λ gs. AreSame (picked base end) gs) (append_assoc exposed (e.fact ∷ []) (exposed_facts exposures)) ends,
      )
    where
      marked_at : (set : List Bool) (fact : Ground) (k : ℕ) → slice_get base k ≡ Some fact → Contains (picked base set) fact → IsMarked set k
      marked_at set fact k at c = let (j, there, on) = picked_back base set fact c in subst (λ n. IsMarked set n) (got_once base fact j k once there at) on

-- a cost that is least over walks is so over exposures of relevant facts that gain something
pub least_exposing : (schema : SchemaParts) (constants : List (List ℕ)) (base : List Ground) (marks : Marks)
    (queries : List Query) (head : List Val) (next most best : ℕ) → AreDistinct base →
    IsLeastCost (length base) (CanGo schema constants base marks)
    (λ set. HasGoalOver schema constants queries head next most (picked base set)) best →
    (exposures : List Exposure) →
    ((e : Exposure) → Contains exposures e → Contains (picked base marks.relevant.items) e.fact) →
    AreGains constants (picked base marks.needed.items) [] exposures →
    IsExposing schema constants base [] exposures →
    HasGoalOver schema constants queries head next most (exposed_facts exposures) → best ≤ exposures_cost exposures
least_exposing schema constants base marks queries head next most best once least exposures matter gains exposing goal =
    let (moves, end, walk, cost, ends) =
    exposing_walk schema constants base marks once exposures [] (no_facts (length base)) matter gains
    (none_length (length base)) (none_same base) exposing in
    let low : best ≤ walk_cost moves = least moves end walk
    (goal_stays schema constants queries head next most most (exposed_facts exposures) (picked base end) (omega arith)
    ends.from goal) in
    omega arith

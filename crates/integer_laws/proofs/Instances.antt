-- The laws that build instances from labelled facts build sorted ones.
use Rattle.std.proofs.Common.{ℕ, List}
use Rattle.std.specs.Prelude.{Contains, map}
use Rattle.meaning_laws.proofs.Judging.{separated}
use Rattle.meaning_laws.proofs.Kept.{run_refutes}
use Rattle.meaning_laws.proofs.Witness.{witness_refutes}
use Rattle.meaning.specs.declared.types.Val.TheVariants.{Const}
use Rattle.meaning.specs.declared.types.Query.{Query}
use Rattle.meaning.specs.declared.types.SchemaParts.{SchemaParts}
use Rattle.meaning.specs.declared.types.Statement.{Statement}
use Rattle.meaning.specs.declared.types.Trigger.{Trigger}
use Rattle.meaning.specs.declared.types.Firing.{Firing}
use Rattle.meaning.specs.Sorts.{AtomsAreSorted}
use Rattle.meaning.specs.Matching.{IsQueryAnswer, GroundsOf, AnswersQuery}
use Rattle.meaning.specs.Claims.{Refutes}
use Rattle.meaning.specs.Homomorphisms.{image, renamed}
use Rattle.meaning.specs.Triggers.{State, IsQuiet, IsFiringRun}
use Rattle.meaning.specs.Runs.{Proof, IsRun, opening, opening_state, frozen_head, IsStuck}
use Rattle.meaning.specs.Naming.{IsNaming}
use Rattle.meaning.specs.Fitting.{RulesFit, QueryFits, QueryHasConstants, IsKept}
use Rattle.meaning.specs.Conjunctive.{StandFor}
use Rattle.integer_laws.proofs.Firings.{renamed_sorted, run_sorted, opening_sorted, proof_sorted}
use Rattle.integer_laws.specs.Sorted.{AreSortedFacts, NamesIntegers, AreSortedRules, ProofIsSorted}
use Rattle.integer_laws.specs.Claimed.{IsSortedModel}

-- the instance that separates a query from others
pub separated_sorted : (schema : SchemaParts) (constants : List (List ℕ)) (query : Query) (others : List Query)
    (log : List Trigger) (end : State) (h : ℕ → List ℕ) → RulesFit schema constants → QueryFits schema query →
    QueryHasConstants constants query → ((q : Query) → Contains others q → QueryHasConstants constants q) →
    IsFiringRun schema.rules (opening_state query) log end → IsQuiet schema.rules end →
    ((q : Query) → Contains others q → IsQueryAnswer Const (GroundsOf end.facts) q (frozen_head query) → ⊥) →
    IsNaming constants end.next h → AreSortedRules schema → AtomsAreSorted schema query.atoms →
    NamesIntegers schema end.facts h →
    IsSortedModel schema (renamed h end.facts)
    × AnswersQuery query (renamed h end.facts) (map (image h) (frozen_head query))
    × ((q : Query) → Contains others q → AnswersQuery q (renamed h end.facts) (map (image h) (frozen_head query)) → ⊥)
separated_sorted schema constants query others log end h rules fits have others_have run quiet none naming sorted atoms_are
    integers =
    let (model, answers, apart) =
    separated schema constants query others log end h rules fits have others_have run quiet none naming in
    let facts_are = run_sorted schema log (opening_state query) end rules.numbered sorted
    (opening_sorted schema query atoms_are).base run in
    (record { model = model; sorted = renamed_sorted schema h end.facts facts_are integers }, answers, apart)

-- the pair of a proof in which nothing is active
pub witness_refutes_sorted : (schema : SchemaParts) (constants : List (List ℕ)) (statement : Statement)
    (queries : List Query) (query : Query) (proof : Proof) (h : ℕ → List ℕ) → RulesFit schema constants →
    StandFor schema queries statement → Contains queries query →
    ((q : Query) → Contains queries q → QueryHasConstants constants q) → IsKept schema constants query proof →
    IsStuck schema constants queries proof (frozen_head query) → IsNaming constants proof.next h →
    ProofIsSorted schema proof → NamesIntegers schema proof.base h → NamesIntegers schema proof.copy h →
    Refutes schema constants statement (renamed h proof.base) (renamed h proof.copy) (map (image h) (frozen_head query))
    × AreSortedFacts schema (renamed h proof.base) × AreSortedFacts schema (renamed h proof.copy)
witness_refutes_sorted schema constants statement queries query proof h rules stand among have kept stuck naming sorted base
    copy = (
      witness_refutes schema constants statement queries query proof h rules stand among have kept stuck naming,
      renamed_sorted schema h proof.base sorted.base base,
      renamed_sorted schema h proof.copy sorted.copy copy,
    )

-- the pair of a run after which nothing is active
pub run_refutes_sorted : (schema : SchemaParts) (constants : List (List ℕ)) (statement : Statement)
    (queries : List Query) (query : Query) (log : List Firing) (proof : Proof) (h : ℕ → List ℕ) →
    RulesFit schema constants → StandFor schema queries statement → Contains queries query →
    ((q : Query) → Contains queries q → QueryHasConstants constants q) → QueryFits schema query →
    IsRun schema constants 0 (opening query) log proof →
    IsStuck schema constants queries proof (frozen_head query) → IsNaming constants proof.next h →
    AreSortedRules schema → AtomsAreSorted schema query.atoms → NamesIntegers schema proof.base h →
    NamesIntegers schema proof.copy h →
    Refutes schema constants statement (renamed h proof.base) (renamed h proof.copy) (map (image h) (frozen_head query))
    × AreSortedFacts schema (renamed h proof.base) × AreSortedFacts schema (renamed h proof.copy)
run_refutes_sorted schema constants statement queries query log proof h rules stand among have fits run stuck naming sorted
    atoms_are base copy =
    let proof_is = proof_sorted schema constants 0 (opening query) log proof rules.numbered sorted
    (opening_sorted schema query atoms_are) run in (
      run_refutes schema constants statement queries query log proof h rules stand among have fits run stuck naming,
      renamed_sorted schema h proof.base proof_is.base base,
      renamed_sorted schema h proof.copy proof_is.copy copy,
    )

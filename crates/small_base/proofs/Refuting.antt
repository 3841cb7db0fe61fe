-- What a closing of facts shows of their goals, and a query with more atoms of rivals.
use Rattle.std.proofs.Common.{◌≤◌, ◌∙◌, ℕ, List, ap}
use Rattle.std.specs.Prelude.{Contains, map}
use Rattle.meaning.specs.declared.types.Branch.{Branch}
use Rattle.meaning.specs.declared.types.Fact.{Fact}
use Rattle.meaning.specs.declared.types.Ground.{Ground}
use Rattle.meaning.specs.declared.types.Query.{Query}
use Rattle.meaning.specs.declared.types.SchemaParts.{SchemaParts}
use Rattle.meaning.specs.declared.types.Val.{Val}
use Rattle.meaning.specs.declared.types.Val.TheVariants.{Const}
use Rattle.meaning.specs.Matching.{value_of, itself, IsQueryAnswer, GroundsOf, AnswersQuery}
use Rattle.meaning.specs.Triggers.{State}
use Rattle.meaning.specs.Naming.{AreNamed}
use Rattle.meaning.specs.Fitting.{RulesHaveConstants, Fit}
use Rattle.meaning_laws.specs.Rests.{HasGoalOver}
use Rattle.integer_laws.specs.Claimed.{IsSortedRival}
use Rattle.small_base.specs.Closing.{IsClosing}
use Rattle.small_base.specs.Closed.{HasMore}

-- an answer over more atoms is one over fewer, by the same assignment
fewer_atoms : (query more : Query) (facts : List Fact) (row : List (List ℕ)) → HasMore query more → AnswersQuery more facts row → AnswersQuery query facts row
fewer_atoms query more facts row has (a, are, e) = (a, (λ atom c. are atom (has.atoms atom c)), e ∙ ap (map (value_of itself a)) has.head)

pub rivals_of_more : (schema : SchemaParts) (constants : List (List ℕ)) (queries : List Query) (query more : Query) (branch : Branch) → HasMore query more →
    IsSortedRival schema constants queries query branch → IsSortedRival schema constants queries more branch
rivals_of_more schema constants queries query more branch has rival = record {
  lawful = rival.lawful;
  sound = rival.sound;
  complete = λ facts row model answer. rival.complete facts row model (fewer_atoms query more facts row has answer);
}

-- a closing is a state at rest
pub closed_refutes : (schema : SchemaParts) (constants : List (List ℕ)) (queries : List Query) (facts : List Ground) (next most : ℕ) (state : State) (head : List Val) → RulesHaveConstants constants schema.rules →
    AreNamed constants next facts → Fit schema facts → IsClosing schema facts next state → state.next ≤ most →
    ((query : Query) → Contains queries query → IsQueryAnswer Const (GroundsOf state.facts) query head → ⊥) → HasGoalOver schema constants queries head next most facts → ⊥
closed_refutes schema constants queries facts next most state head have named fits closing few none has =
    let (goal, among, matched) = has state (record {
      grows = closing.grows.within;
      low = closing.grows.later;
      few = few;
      named = closing.grows.named constants have named;
      fits = closing.grows.fits fits;
      quiet = closing.quiet;
    }) in
    none goal among matched

-- The branch that is chosen for a query, and what is known of its cost.
use Rattle.std.specs.Prelude.{◌≡◌, ℕ, ◌+◌, ◌*◌, ◌<◌, ◌≤◌, List, Contains, None, length}
use Rattle.std.specs.Option.{IfSome}
use Rattle.meaning.specs.declared.types.SchemaParts.{SchemaParts}
use Rattle.meaning.specs.declared.types.Query.{Query}
use Rattle.meaning.specs.declared.types.Branch.{Branch}
use Rattle.meaning.specs.declared.types.Ground.{Ground}
use Rattle.meaning.specs.declared.types.Val.{Val}
use Rattle.meaning.specs.declared.types.Val.TheVariants.{Const}
use Rattle.meaning.specs.Matching.{IsQueryAnswer, GroundsOf}
use Rattle.meaning.specs.Values.{Value}
use Rattle.meaning.specs.Costs.{IsCost}
use Rattle.meaning.specs.Runs.{opening, frozen_head}
use Rattle.access_schema.specs.declared.limits.TheConstants.{MOST_VARIABLES}
use Rattle.rule_pass.specs.declared.pass.TheConstants.{HIGHEST_FIRST_LABEL}
use Rattle.integer_laws.specs.Claimed.{IsSortedRival}
use Rattle.least_search.specs.declared.search.Ended.TheVariants as ended
use Rattle.least_search.specs.declared.search.Outcome.{Outcome}
use Rattle.least_search.specs.Walks.{CanGain, IsNode}
use Rattle.least_search.specs.Costs.{IsLeastCost, IsEnough, best_cost}
use Rattle.exposure_search.specs.Trials.{HasMoreToDo}
use Rattle.exposure_search.specs.Exploring.{Exploring, IsFounded, space_size, CanExpose, GainsAt, HasGoalAt, HasMatchAt, HasTry, HasRunBeyond}
use Rattle.findings.specs.declared.least.Least.{Least}
use Rattle.findings.specs.declared.least.Least.TheVariants.{Shown, SearchSpent, FiringsSpent}
use Rattle.proof_search.specs.declared.outcome.Choice.{Choice}
use Rattle.proof_search.specs.Branches.{IsQueryBranch}
use Rattle.proof_search.specs.Chosen.{AreSpent, HasLongRun}

-- No rival for the query on instances of integers, among all the queries, costs less than the branch.
abbrev pub IsLeastFor : SchemaParts → List Value → List Query → Query → Branch → Type 0
IsLeastFor schema known queries query branch =
    (rival : Branch) (cost other : ℕ) → IsSortedRival schema known queries query rival →
    IsCost schema branch cost → IsCost schema rival other → cost ≤ other

-- The branch has a cost, which is at most so much.
abbrev pub CostsAtMost : SchemaParts → Branch → ℕ → Type 0
CostsAtMost schema branch most = (cost : ℕ) × IsCost schema branch cost × (cost ≤ most)

-- The goals that are possible over these facts: some of the queries, among them each that has an answer with this head in the facts.
pub record ArePossibleGoals (queries : List Query) (head : List Val) (facts : List Ground) (goals : List Query) : Type 0 where
  pub within : (query : Query) → Contains goals query → Contains queries query
  pub answered : (query : Query) → Contains queries query → IsQueryAnswer Const (GroundsOf facts) query head → Contains goals query
  pub few : length goals ≤ length queries

-- The space is that of the query's base firings, for the goals that are possible over its base facts among these queries, with the query's
-- frozen head, in runs of so many firings, each of which gives few labels.
pub record IsSpaceOf (schema : SchemaParts) (queries : List Query) (query : Query) (firings : ℕ) (space : Exploring) : Type 0 where
  pub schema_is : space.schema ≡ schema
  pub start : space.start ≡ opening query
  pub goals : ArePossibleGoals queries space.head space.base.facts space.queries
  pub head : space.head ≡ frozen_head query
  pub budget : space.budget ≡ firings
  pub labels : space.base.next ≤ HIGHEST_FIRST_LABEL + firings * MOST_VARIABLES
  pub founded : IsFounded space

-- What a search of the space has found costs less than the bound, and what its end says is so: no walk to a goal costs less than what
-- was found, or than the bound; or nothing was found, no pair of numbers is enough for the units, and there is more to do; or some run is
-- longer than the budget.
pub record IsFound (space : Exploring) (bound search : ℕ) (outcome : Outcome) : Type 0 where
  pub better : IfSome outcome.better (λ node. IsNode (space_size space) (CanExpose space) node × HasMatchAt space node.set.items × (node.cost < bound))
  pub shown : outcome.ended ≡ ended.Shown →
      IsLeastCost (space_size space) (CanGain (CanExpose space) (GainsAt space)) (HasGoalAt space) (best_cost bound outcome.better)
  pub spent : (units : ℕ) → outcome.ended ≡ ended.SearchSpent units → (m n : ℕ) → IsEnough (HasTry space) search m n → ⊥
  pub none : (units : ℕ) → outcome.ended ≡ ended.SearchSpent units → outcome.better ≡ None
  pub more : (units : ℕ) → outcome.ended ≡ ended.SearchSpent units → HasMoreToDo space.schema space.constants space.base bound search
  pub firings : outcome.ended ≡ ended.FiringsSpent → HasRunBeyond space

-- What is said of the cost of a query's branch is so: no rival costs less; or all units of the search were spent, and there was more to
-- do; or some run of the query is longer than the budget of firings.
abbrev pub IsSaidFor : SchemaParts → List Value → List Query → ℕ → ℕ → Query → Branch → Least → Type 0
IsSaidFor schema known queries firings search query branch Shown = IsLeastFor schema known queries query branch
IsSaidFor schema known queries firings search query branch (SearchSpent units) =
    (units ≡ search) × AreSpent schema known firings search branch query
IsSaidFor schema known queries firings search query branch (FiringsSpent spent) =
    (spent ≡ firings) × HasLongRun schema known firings query

-- The branch is one for the query, and what is said of its cost is so.
pub record IsChoice (schema : SchemaParts) (known : List Value) (queries : List Query) (firings search : ℕ) (query : Query)
    (choice : Choice) : Type 0 where
  pub branch : IsQueryBranch schema known queries query choice.branch
  pub said : IsSaidFor schema known queries firings search query choice.branch choice.least
